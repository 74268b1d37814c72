-- A point that dies in the rows.
use Rattle.std.specs.Prelude.{◌≡◌, ℕ, ◌-◌, ◌^◌, ◌<◌, ◌≤◌, true, false, List, Some, length, slice_get, slice_index_or, slice_set}
use Rattle.std.specs.List.{range_with_len}
use Rattle.std.specs.Option.{option_map}
use Rattle.query_laws.specs.Permuted.{Permuted}
use Rattle.builder_trait.specs.Parts.{Contents, IsPart}
use Rattle.range_tree.specs.declared.growing.Carried.{Carried}
use Rattle.map_shapes.specs.declared.point.Point.{Point}
use Rattle.rank_rows.specs.Ranked.{Ranked}
use Rattle.range_tree.specs.declared.rows.RangeTree.{RangeTree}
use Rattle.range_tree.specs.Heights.{rows_to}
use Rattle.range_tree.specs.Tree.{before, IsTop, AreRows, IsRow}

-- the rows are those of a part that has a live point at a place
pub record IsDying (part : Contents Point) (place : ℕ) (item : Point) (rows : RangeTree) : Type 0 where
  pub valid : IsPart before part
  pub few : length part.items ≤ 2 ^ 31
  pub low : rows.height ≤ 31
  pub high : length part.items ≤ 2 ^ rows.height
  pub top : IsTop part.items part.places rows.top.items
  pub rows_are : AreRows part rows.height (rows_to rows.height) rows.ranks rows.source.items
  pub there : slice_get part.items place ≡ Some item
  pub live : slice_get part.flags place ≡ Some true

-- the point at a place, which is live and weighs so much, stands at k of the first row
pub record IsFalling (part : Contents Point) (place height weight k : ℕ) (ranks : Ranked) (carried : List Carried) : Type 0 where
  pub each : Permuted part.places (range_with_len 0 (length part.items))
  pub high : length part.items ≤ 2 ^ height
  pub rows_are : AreRows part height (rows_to height) ranks carried
  pub there : option_map (λ p. p.w) (slice_get part.items place) ≡ Some weight
  pub live : slice_get part.flags place ≡ Some true
  pub within : k < length part.items
  pub at : slice_index_or part.places k 0 ≡ place

-- it is taken out of the rows above one, in which it stands at k
pub record IsMarkedTo (part : Contents Point) (rows : ℕ → List ℕ) (height count place row k : ℕ) (ranks : Ranked) : Type 0 where
  pub done : (q : ℕ) → q < row → q < count → IsRow part.items (slice_set part.flags place false) (height - q) q (rows q) ranks
  pub rest : (q : ℕ) → row ≤ q → q < count → IsRow part.items part.flags (height - q) q (rows q) ranks
  pub within : k < length part.items
  pub at : slice_index_or (rows row) k 0 ≡ place

-- the point at a place stands at k of a row, or of what was carried behind the last one
pub record IsStanding (part : Contents Point) (place height row k : ℕ) (ranks : Ranked) (carried : List Carried) : Type 0 where
  pub each : Permuted part.places (range_with_len 0 (length part.items))
  pub rows_are : AreRows part height (rows_to height) ranks carried
  pub below : row ≤ rows_to height
  pub within : k < length part.items
  pub at : slice_index_or (rows_are.rows row) k 0 ≡ place
