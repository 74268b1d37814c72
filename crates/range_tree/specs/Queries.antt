-- What a question takes of the rows.
use Rattle.std.specs.Int.{bit_at}
use Rattle.std.specs.List.{flat_map, range_with_len}
use Rattle.std.specs.Option.{option_to_list}
use Rattle.std.specs.Prelude.{◌≡◌, ℕ, ◌+◌, ◌-◌, ◌%◌, ◌^◌, ◌<◌, ◌≤◌, ◌&&◌, Bool, false, nat_lt, nat_le, if◌then◌else◌, List, [], Some, length, take, filter, slice_get, slice_range, slice_index, slice_index_or}
use Rattle.builder_trait.specs.Parts.{Contents}
use Rattle.map_shapes.specs.declared.point.Point.{Point}
use Rattle.map_shapes.specs.declared.rect.Rect.{Rect}
use Rattle.map_shapes.specs.Questions.{is_in}
use Rattle.row_blocks.specs.Blocks.{IsMultiple}
use Rattle.row_blocks.specs.Partitions.{block_of}
use Rattle.range_tree.specs.declared.leaves.Leaf.{Leaf}
use Rattle.range_tree.specs.declared.scanning.Places.{Places}
use Rattle.range_tree.specs.declared.descending.Span.{Span}
use Rattle.range_tree.specs.declared.descending.Cut.{Cut}
use Rattle.range_tree.specs.declared.descending.Cut.TheVariants.{Outside, Whole, Halves}
use Rattle.range_tree.specs.declared.rows.RangeTree.{RangeTree}
use Rattle.range_tree.specs.Heights.{lowest, rows_to}

-- the live point at a place, if it is one
abbrev pub live_at : Contents Point → ℕ → List Point
live_at part place = if slice_index_or part.flags place false then option_to_list (slice_get part.items place) else []

-- the live points at the places from `from` on and below `to`
abbrev pub live_between : Contents Point → ℕ → ℕ → List Point
live_between part from to = flat_map (live_at part) (range_with_len from (to - from))

-- those of the rectangle at neighbouring places
abbrev pub live_in_places : Contents Point → Rect → Places → List Point
live_in_places part rect places = filter (is_in rect) (live_between part places.from places.to)

-- the points from place `from` on and below `to` have x in the rectangle, and no others have
pub record AreWithinX (part : Contents Point) (places : Places) (rect : Rect) : Type 0 where
  pub ordered : places.from ≤ places.to
  pub within : places.to ≤ length part.items
  pub before : (k : ℕ) (p : Point) → k < places.from → slice_get part.items k ≡ Some p → p.x < rect.x1
  pub inside : (k : ℕ) (p : Point) → places.from ≤ k → k < places.to → slice_get part.items k ≡ Some p → (rect.x1 ≤ p.x) × (p.x ≤ rect.x2)
  pub behind : (k : ℕ) (p : Point) → places.to ≤ k → slice_get part.items k ≡ Some p → rect.x2 < p.x

-- those of the second order from `low` on and below `high` have y in the rectangle, and no others have
pub record AreWithinY (part : Contents Point) (low high : ℕ) (rect : Rect) : Type 0 where
  pub ordered : low ≤ high
  pub within : high ≤ length part.reordered
  pub before : (k : ℕ) (p : Point) → k < low → slice_get part.reordered k ≡ Some p → p.y < rect.y1
  pub inside : (k : ℕ) (p : Point) → low ≤ k → k < high → slice_get part.reordered k ≡ Some p → (rect.y1 ≤ p.y) × (p.y ≤ rect.y2)
  pub behind : (k : ℕ) (p : Point) → high ≤ k → slice_get part.reordered k ≡ Some p → rect.y2 < p.y

-- the y is in the rectangle
abbrev pub has_y : Rect → ℕ → Bool
has_y rect y = nat_le rect.y1 y && nat_le y rect.y2

-- The x of the points at these places are in the rectangle, and the leaf has their y, and the bits of those that are live: the places
-- are some of its own.
pub record IsLeafOf (part : Contents Point) (rect : Rect) (places : Places) (leaf : Leaf) : Type 0 where
  pub ordered : places.from ≤ places.to
  pub within : places.to ≤ length part.items
  pub own : places.from % 16 + (places.to - places.from) ≤ 16
  pub inside : (k : ℕ) (p : Point) → places.from ≤ k → k < places.to → slice_get part.items k ≡ Some p → (rect.x1 ≤ p.x) × (p.x ≤ rect.x2)
  pub ys : (k : ℕ) (p : Point) → places.from ≤ k → k < places.to → slice_get part.items k ≡ Some p → slice_index leaf.ys (k % 16) ≡ p.y
  pub live : (k : ℕ) → places.from ≤ k → k < places.to → bit_at leaf.live (k % 16) ≡ (if slice_index_or part.flags k false then 1 else 0)

-- behind the first n entries of a list, in the block of a row that begins here
abbrev pub image_of : List ℕ → (height start n : ℕ) → ℕ
image_of whole height start n = start + length (block_of (λ p. p) height start (take n whole))

-- the positions of a block whose entries are those of the second order from `low` on and below `high`
pub record IsSpan (part : Contents Point) (rows : RangeTree) (low high : ℕ) (span : Span) : Type 0 where
  pub ordered : low ≤ high
  pub within : high ≤ length part.places
  pub row : span.row < rows_to rows.height
  pub block : IsMultiple span.start (rows.height - span.row)
  pub from : span.from ≡ image_of part.places (rows.height - span.row) span.start low
  pub to : span.to ≡ image_of part.places (rows.height - span.row) span.start high

-- whole blocks of the lowest height
pub record AreWhole (part : Contents Point) (places : Places) : Type 0 where
  pub from : IsMultiple places.from lowest
  pub to : IsMultiple places.to lowest
  pub within : places.to ≤ length part.items

abbrev pub is_at : Places → ℕ → Bool
is_at places p = nat_le places.from p && nat_lt p places.to

-- the live points of a span at some places
abbrev pub live_in_span : Contents Point → RangeTree → (low high : ℕ) → Places → Span → List Point
live_in_span part rows low high places span =
    flat_map (live_at part) (filter (is_at places) (block_of (λ p. p) (rows.height - span.row) span.start (slice_range part.places low high)))

-- one where a place is inside a block, and none where it is at an end or beyond
abbrev pub is_inside : (start len place : ℕ) → ℕ
is_inside start len place = if nat_lt start place && nat_lt place (start + len) then 1 else 0

-- how many ends of some places are inside the block of a span
abbrev pub ends_inside : (height : ℕ) → Places → Span → ℕ
ends_inside height places span =
    is_inside span.start (2 ^ (height - span.row)) places.from + is_inside span.start (2 ^ (height - span.row)) places.to

-- the halves of a span, in the next row
pub record AreHalves (part : Contents Point) (rows : RangeTree) (low high : ℕ) (span first second : Span) : Type 0 where
  pub first_row : first.row ≡ span.row + 1
  pub second_row : second.row ≡ span.row + 1
  pub first_start : first.start ≡ span.start
  pub second_start : second.start ≡ span.start + 2 ^ (rows.height - span.row - 1)
  pub first_span : IsSpan part rows low high first
  pub second_span : IsSpan part rows low high second

-- how the block of a span stands to some places
abbrev pub IsCut : Contents Point → RangeTree → (low high : ℕ) → Places → Span → Cut → Type 0
IsCut part rows low high places span Outside = live_in_span part rows low high places span ≡ []
IsCut part rows low high places span Whole =
    (span.start < length part.items)
    × ((k : ℕ) → span.start ≤ k → k < span.start + 2 ^ (rows.height - span.row) → k < length part.items → (places.from ≤ k) × (k < places.to))
IsCut part rows low high places span (Halves first second) =
    (span.row + 1 < rows_to rows.height) × AreHalves part rows low high span first second × (1 ≤ ends_inside rows.height places span)
