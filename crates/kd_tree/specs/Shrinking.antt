-- Boxes shrink after a point has died, from its leaf up.
use Rattle.std.specs.Prelude.{◌≡◌, ℕ, ◌+◌, ◌-◌, ◌*◌, ◌^◌, ◌<◌, ◌≤◌, false, List, Some, slice_get, slice_set}
use Rattle.builder_trait.specs.Parts.{Contents}
use Rattle.map_shapes.specs.declared.point.Point.{Point}
use Rattle.kd_tree.specs.declared.area.Area.{Area}
use Rattle.kd_tree.specs.Heights.{span, index}
use Rattle.kd_tree.specs.Blocks.{IsLeastBox, IsNode, AreNodes}

-- the part in which the point at a place is dead
abbrev pub died : Contents Point → ℕ → Contents Point
died part place = record part { flags = slice_set part.flags place false }

-- a point that dies: the part in which it was live, the order of the places, and its place and its position there
pub record Death : Type 0 where
  pub part : Contents Point
  pub order : List ℕ
  pub place : ℕ
  pub position : ℕ

-- the part without it
abbrev pub rest : Death → Contents Point
rest death = died death.part death.place

-- the nodes over blocks of a level and of those above it stand where they belong
pub record AreNodesAbove (part : Contents Point) (order : List ℕ) (depth level : ℕ) (nodes : List (List Area)) : Type 0 where
  pub each : (l j : ℕ) → level ≤ l → l < depth → j < 4 ^ (depth - 1 - l)
      → (areas : List Area) × (slice_get nodes (index depth l j) ≡ Some areas) × IsNode part order l j areas

-- Boxes below a level are those without the point, and the others still those with it. The block of that level in which it stood comes next,
-- with its least box.
pub record IsShrinking (death : Death) (depth level block : ℕ) (area : Area) (nodes : List (List Area)) : Type 0 where
  pub only : (other : ℕ) → slice_get death.order other ≡ Some death.place → other ≡ death.position
  pub from : block * span level ≤ death.position
  pub to : death.position < (block + 1) * span level
  pub next : IsLeastBox (rest death) death.order area (block * span level) ((block + 1) * span level)
  pub below : AreNodes (rest death) death.order depth level 0 nodes
  pub above : AreNodesAbove death.part death.order depth level nodes
