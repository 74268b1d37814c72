-- The rows of a tree under construction.
use Rattle.std.specs.Prelude.{◌≡◌, ℕ, ◌+◌, ◌-◌, ◌*◌, ◌/◌, ◌^◌, ◌<◌, ◌≤◌, true, List, length, map, min, take, replicate, All}
use Rattle.std.specs.List.{range_with_len}
use Rattle.query_laws.specs.Permuted.{Permuted}
use Rattle.builder_trait.specs.Parts.{Contents}
use Rattle.builder_trait.specs.Builders.{Progress, all_live}
use Rattle.map_shapes.specs.declared.point.Point.{Point}
use Rattle.row_blocks.specs.Heights.{height_of}
use Rattle.row_blocks.specs.Partitions.{IsInBlocks, IsMoved}
use Rattle.range_tree.specs.declared.growing.Carried.{Carried}
use Rattle.range_tree.specs.declared.rows.RangeTree.{RangeTree}
use Rattle.range_tree.specs.Heights.{rows_to, words_for}
use Rattle.range_tree.specs.Tree.{IsTop, AreLeaves, IsRow, IsTree, weight_of}

-- there is room for all that a builder of this level takes
pub record HasRoom (at_level : ℕ) (rows : RangeTree) : Type 0 where
  pub small : at_level < 32
  pub xs : rows.xs.capacity ≡ 2 ^ at_level
  pub leaves : rows.leaves.capacity ≡ (2 ^ at_level + 15) / 16
  pub top : 0 < rows_to at_level → rows.top.capacity ≡ 2 ^ at_level
  pub source : rows.source.capacity ≡ rows.top.capacity
  pub target : rows.target.capacity ≡ rows.top.capacity
  pub ranks : rows.ranks.room ≡ rows_to at_level * 2 ^ at_level
  pub none : rows_to at_level ≡ 0 → rows.top.capacity ≡ 0

-- the point at a place as it is carried down
abbrev pub carried_of : List Point → ℕ → Carried
carried_of points place = record { place = place; weight = weight_of points place }

-- what was put so far, each point live
pub record IsPutting (b : Progress Point) (rows : RangeTree) : Type 0 where
  pub room : HasRoom b.at_level rows
  pub none_left : rows.left ≡ 0
  pub xs : rows.xs.items ≡ map (λ p. p.x) b.items
  pub leaves : AreLeaves b.items (replicate (length b.items) true) rows.leaves.items
  pub top : 0 < rows_to b.at_level → IsTop b.items b.places rows.top.items
  pub source : 0 < rows_to b.at_level → rows.source.items ≡ map (carried_of b.items) b.places
  pub target : 0 < rows_to b.at_level → rows.target.items ≡ map (carried_of b.items) b.places

-- Some rows are made, and of the next one the first `at` places: their points stand in the halves of their blocks in the row below. Behind the places
-- of its points a row has some more, which fill its last word.
pub record AreGrown (part : Contents Point) (rows : RangeTree) : Type 0 where
  pub count : ℕ
  pub row : ℕ → List ℕ
  pub lower : ℕ
  pub below : count < rows_to rows.height
  pub all_live : part.flags ≡ replicate (length part.items) true
  pub each_place : Permuted part.places (range_with_len 0 (length part.items))
  pub stride : rows.ranks.stride ≡ words_for (length part.items)
  pub same_height : rows.ranks.height ≡ rows.height
  pub fresh : All (λ live. live ≡ true) rows.ranks.live
  pub blocks : (q : ℕ) → q ≤ count → IsInBlocks (λ p. p) part.places (rows.height - q) (row q)
  pub each : (q : ℕ) → q < count → IsRow part.items part.flags (rows.height - q) q (row q) rows.ranks
  pub source : rows.source.items ≡ map (carried_of part.items) (row count)
  pub target : All (λ c. c ≡ carried_of part.items c.place) rows.target.items
  pub at_within : rows.at ≤ 64 * words_for (length part.items)
  pub second : length rows.ranks.second ≡ 64 * (count * words_for (length part.items)) + rows.at
  pub live : length rows.ranks.live ≡ 64 * (count * words_for (length part.items)) + rows.at
  pub weights : length rows.ranks.weights ≡ 64 * (count * words_for (length part.items)) + rows.at
  pub begun : IsRow part.items part.flags (rows.height - count) count (take rows.at (row count)) rows.ranks
  pub moved : IsMoved (λ p. p) (row count) (map (λ c. c.place) rows.target.items) (rows.height - count - 1) (min rows.at (length part.items)) lower
  pub left : rows.left + (64 * (count * words_for (length part.items)) + rows.at) ≡ rows_to rows.height * (64 * words_for (length part.items))

-- after the seal
pub record IsGrowing (part : Contents Point) (rows : RangeTree) : Type 0 where
  pub room : HasRoom part.at_level rows
  pub few : length part.items ≤ 2 ^ part.at_level
  pub height : rows.height ≡ height_of (length part.items)
  pub xs : rows.xs.items ≡ map (λ p. p.x) part.items
  pub leaves : AreLeaves part.items part.flags rows.leaves.items
  pub top : 0 < rows_to rows.height → IsTop part.items part.places rows.top.items
  pub grown : 0 < rows.left → AreGrown part rows
  pub unended : 0 < rows.left → rows.at < 64 * words_for (length part.items)
  pub ended : rows.left ≡ 0 → IsTree part rows

-- what a part keeps: its tree, and room for all that its next builder takes
pub record IsKept (part : Contents Point) (rows : RangeTree) : Type 0 where
  pub room : HasRoom part.at_level rows
  pub tree : IsTree part rows

pub IsKept-grown : (b : Progress Point) (rows : RangeTree) → IsGrowing (all_live b) rows → rows.left ≡ 0 → IsKept (all_live b) rows
IsKept-grown b rows growing none = record { room = growing.room; tree = growing.ended none }
