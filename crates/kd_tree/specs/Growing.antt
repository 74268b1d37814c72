-- The rows of the structure: while they are put, while they grow, and once they are done.
use Rattle.std.specs.Prelude.{◌≡◌, ℕ, ◌+◌, ◌-◌, ◌^◌, ◌<◌, ◌≤◌, ◌⊎◌, true, [], length, replicate}
use Rattle.std.specs.List.{range_with_len}
use Rattle.builder_trait.specs.Parts.{Contents}
use Rattle.builder_trait.specs.Builders.{Progress}
use Rattle.map_shapes.specs.declared.point.Point.{Point}
use Rattle.kd_tree.specs.declared.rows.KdRows.{KdRows}
use Rattle.kd_tree.specs.Heights.{depth_for, nodes_in, index}
use Rattle.kd_tree.specs.Sorting.{HasSortingRoom, IsUnsorted, IsSorting, turns_left}
use Rattle.kd_tree.specs.Blocks.{AreSpots, AreLive, AllLive, AreNodes}
use Rattle.kd_tree.specs.Leaves.{HasLeaves, HasLeafRoom}

-- each row has room for all that a builder of this level takes
pub record HasRoom (at_level : ℕ) (rows : KdRows) : Type 0 where
  pub small : at_level < 32
  pub places : rows.places.capacity ≡ 2 ^ at_level
  pub sorting : HasSortingRoom (2 ^ at_level) rows.sorting
  pub leaves : HasLeafRoom (2 ^ at_level) rows.leaves
  pub nodes : rows.nodes.capacity ≡ nodes_in (depth_for (2 ^ at_level))

-- Before the seal the places stand in the first order, and those of the second order are kept.
pub record IsPutting (b : Progress Point) (rows : KdRows) : Type 0 where
  pub room : HasRoom b.at_level rows
  pub order : rows.places.items ≡ range_with_len 0 (length b.items)
  pub sorting : IsUnsorted (length b.items) b.places rows.sorting
  pub live : rows.leaves.live.items ≡ []
  pub leaves : HasLeaves 0 rows.leaves
  pub nodes : rows.nodes.items ≡ []
  pub left : rows.left ≡ 0

-- the next node is one over blocks of a level, or none is left
abbrev pub IsNext : (depth level place : ℕ) → Type 0
IsNext depth level place = ((level < depth) × (place < 4 ^ (depth - 1 - level))) ⊎ ((level ≡ depth) × (place ≡ 0))

-- After the seal the places are sorted, then leaf after leaf is filled, and then node after node is made.
pub record IsShaping (part : Contents Point) (rows : KdRows) : Type 0 where
  pub room : HasRoom part.at_level rows
  pub few : length part.items ≤ 2 ^ part.at_level
  pub flags : part.flags ≡ replicate (length part.items) true
  pub long : length rows.places.items ≡ length part.items
  pub depth_is : rows.depth ≡ depth_for (length part.items)
  pub sorting : IsSorting (length part.items) rows.sorting
  pub filled_few : rows.filled ≤ length part.items
  pub unfilled : 0 < rows.sorting.level → rows.filled ≡ 0
  pub leaves : HasLeaves rows.filled rows.leaves
  pub spots : AreSpots part.items rows.places.items rows.filled rows.leaves.spots.items
  pub live : AllLive rows.leaves.live.items
  pub no_nodes : rows.filled < length part.items → (rows.level ≡ 0) × (rows.place ≡ 0)
  pub is_next : IsNext rows.depth rows.level rows.place
  pub next : index rows.depth rows.level rows.place ≡ length rows.nodes.items
  pub nodes : AreNodes part rows.places.items rows.depth rows.level rows.place rows.nodes.items

-- how many turns that takes
abbrev pub to_go : Contents Point → KdRows → ℕ
to_go part rows = turns_left (length part.items) rows.sorting + (length part.items - rows.filled) + (nodes_in rows.depth - length rows.nodes.items)

abbrev pub IsGrowing : Contents Point → KdRows → Type 0
IsGrowing part rows = IsShaping part rows × (rows.left ≡ to_go part rows)

-- The leaves have the part's points, each once, and which are live; and each block's box is the least one of its live points.
pub record IsTree (part : Contents Point) (rows : KdRows) : Type 0 where
  pub room : HasRoom part.at_level rows
  pub few : length part.items ≤ 2 ^ part.at_level
  pub flagged : length part.flags ≡ length part.items
  pub long : length rows.places.items ≡ length part.items
  pub depth_is : rows.depth ≡ depth_for (length part.items)
  pub leaves : HasLeaves (length part.items) rows.leaves
  pub spots : AreSpots part.items rows.places.items (length part.items) rows.leaves.spots.items
  pub live : AreLive part.flags rows.places.items rows.leaves.live.items
  pub nodes : AreNodes part rows.places.items rows.depth rows.depth 0 rows.nodes.items
