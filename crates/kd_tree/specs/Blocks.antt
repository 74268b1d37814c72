-- Blocks of positions, the leaves and the boxes over them.
use Rattle.std.specs.Prelude.{◌≡◌, ℕ, ◌+◌, ◌-◌, ◌*◌, ◌^◌, ◌<◌, ◌≤◌, ◌⊎◌, Bool, true, List, Some, length, slice_get}
use Rattle.std.specs.List.{range_with_len}
use Rattle.query_laws.specs.Permuted.{Permuted}
use Rattle.builder_trait.specs.Parts.{Contents}
use Rattle.map_shapes.specs.declared.point.Point.{Point}
use Rattle.kd_tree.specs.declared.spot.Spot.{Spot}
use Rattle.kd_tree.specs.declared.area.Area.{Area}
use Rattle.kd_tree.specs.Areas.{Has, IsInside, IsBox, spot_of}
use Rattle.kd_tree.specs.Heights.{span, index}

-- the leaves have the spots of the points at the first n positions
pub record AreSpots (points : List Point) (order : List ℕ) (n : ℕ) (leaves : List (List Spot)) : Type 0 where
  pub each : (j slot place : ℕ) (p : Point) (leaf : List Spot) → slot < 8 → 8 * j + slot < n → slice_get order (8 * j + slot) ≡ Some place
      → slice_get points place ≡ Some p → slice_get leaves j ≡ Some leaf → slice_get leaf slot ≡ Some (spot_of p)

-- and which of them are live
pub record AreLive (flags : List Bool) (order : List ℕ) (live : List (List Bool)) : Type 0 where
  pub each : (j slot place : ℕ) (flag : Bool) (leaf : List Bool) → slot < 8 → slice_get order (8 * j + slot) ≡ Some place
      → slice_get flags place ≡ Some flag → slice_get live j ≡ Some leaf → slice_get leaf slot ≡ Some flag

-- the leaves have the points of a part of n, whose places stand in this order, each once
pub record AreLeavesOf (part : Contents Point) (order : List ℕ) (n : ℕ) (leaves : List (List Spot)) (lives : List (List Bool)) : Type 0 where
  pub as_many : length part.items ≡ n
  pub flagged : length part.flags ≡ n
  pub long : length order ≡ n
  pub each_place : Permuted order (range_with_len 0 (length order))
  pub spots : AreSpots part.items order n leaves
  pub live : AreLive part.flags order lives

-- each slot is live
pub record AllLive (live : List (List Bool)) : Type 0 where
  pub each : (j slot : ℕ) (leaf : List Bool) → slot < 8 → slice_get live j ≡ Some leaf → slice_get leaf slot ≡ Some true

-- the box has each live point of the positions from `from` on and below `to`
pub record Holds (part : Contents Point) (order : List ℕ) (area : Area) (from to : ℕ) : Type 0 where
  pub each : (position place : ℕ) (p : Point) → from ≤ position → position < to → slice_get order position ≡ Some place
      → slice_get part.items place ≡ Some p → slice_get part.flags place ≡ Some true → Has area (spot_of p)

-- The least box that has them: it lies in each that does. That of no point has the greatest u32 for its lower ends and zero for its upper ones.
pub record IsLeastBox (part : Contents Point) (order : List ℕ) (area : Area) (from to : ℕ) : Type 0 where
  pub holds : Holds part order area from to
  pub least : (all : Area) → IsBox all → Holds part order all from to → IsInside area all

-- the four boxes of a node are the least ones of its blocks, which are of this level
pub record IsNode (part : Contents Point) (order : List ℕ) (level place : ℕ) (areas : List Area) : Type 0 where
  pub four : length areas ≡ 4
  pub each : (c : ℕ) (area : Area) → slice_get areas c ≡ Some area
      → IsLeastBox part order area ((4 * place + c) * span level) ((4 * place + c + 1) * span level)

-- the nodes stand where they belong, all before one: those over lower blocks, and those before it over blocks as high
pub record AreNodes (part : Contents Point) (order : List ℕ) (depth level place : ℕ) (nodes : List (List Area)) : Type 0 where
  pub each : (l j : ℕ) → l < depth → j < 4 ^ (depth - 1 - l) → (l < level) ⊎ ((l ≡ level) × (j < place))
      → (areas : List Area) × (slice_get nodes (index depth l j) ≡ Some areas) × IsNode part order l j areas
