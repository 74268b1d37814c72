-- A range tree over points in the first order (Bentley 1979) whose rows are bits with ranks, a wavelet tree (Chazelle 1988).
use Rattle.std.specs.Prelude.{◌≡◌, ℕ, ◌==◌, ◌+◌, ◌-◌, ◌/◌, ◌%◌, ◌^◌, ◌<◌, ◌≤◌, ◌&&◌, ◌||◌, Bool, false, nat_lt, nat_le, if◌then◌else◌, List, Some, [], length, map, All, slice_get, slice_index, slice_index_or}
use Rattle.std.specs.Int.{bit_at}
use Rattle.std.specs.Option.{option_map, unwrap_or}
use Rattle.query_laws.specs.Orders.{before_in}
use Rattle.query_laws.specs.declared.item.Order.{Order}
use Rattle.builder_trait.specs.Parts.{Contents}
use Rattle.map_shapes.specs.declared.point.Point.{Point}
use Rattle.row_blocks.specs.Blocks.{start_of}
use Rattle.row_blocks.specs.Heights.{height_of}
use Rattle.row_blocks.specs.Partitions.{IsInBlocks}
use Rattle.rank_rows.specs.Ranked.{Ranked, slice_of}
use Rattle.range_tree.specs.declared.entry.Entry.{Entry}
use Rattle.range_tree.specs.declared.growing.Carried.{Carried}
use Rattle.range_tree.specs.declared.leaves.Leaf.{Leaf}
use Rattle.range_tree.specs.declared.rows.RangeTree.{RangeTree}
use Rattle.range_tree.specs.Heights.{rows_to, words_for}

-- the orders of points
abbrev pub before : Order → Point → Point → Bool
before = before_in (λ p. p.x) (λ p. p.y) (λ p. p.stamp)

-- the entry stands before the other: by y, then by place
abbrev pub precedes : Entry → Entry → Bool
precedes a b = nat_lt a.y b.y || ((a.y == b.y) && nat_lt a.place b.place)

-- the entry has the y of the point at its place
abbrev pub IsEntryOf : List Point → Entry → Type 0
IsEntryOf points e = option_map (λ p. p.y) (slice_get points e.place) ≡ Some e.y

-- the second order: an entry for each of its places
pub record IsTop (points : List Point) (places : List ℕ) (top : List Entry) : Type 0 where
  pub places_are : map (λ e. e.place) top ≡ places
  pub known : All (IsEntryOf points) top

-- the leaf of sixteen places that has a place
abbrev pub leaf_at : List Leaf → ℕ → Leaf
leaf_at leaves k = slice_index_or leaves (k / 16) (record { ys = []; live = 0 })

-- the y that leaves have of a place
abbrev pub y_at : List Leaf → ℕ → ℕ
y_at leaves k = slice_index (leaf_at leaves k).ys (k % 16)

-- the bit that leaves have of a place
abbrev pub live_bit : List Leaf → ℕ → ℕ
live_bit leaves k = bit_at (leaf_at leaves k).live (k % 16)

-- the y of the points, each at its place, and the bits of the live ones
pub record AreLeaves (points : List Point) (flags : List Bool) (leaves : List Leaf) : Type 0 where
  pub many : length leaves ≡ (length points + 15) / 16
  pub ys : (k : ℕ) (p : Point) → slice_get points k ≡ Some p → y_at leaves k ≡ p.y
  pub live : (k : ℕ) → live_bit leaves k ≡ (if slice_index_or flags k false then 1 else 0)

-- the place goes into the second half of its block
abbrev pub is_second : ℕ → ℕ → Bool
is_second height place = nat_le (start_of height place + 2 ^ (height - 1)) place

abbrev pub weight_of : List Point → ℕ → ℕ
weight_of points place = unwrap_or (option_map (λ p. p.w) (slice_get points place)) 0

abbrev pub is_live_at : List Bool → ℕ → Bool
is_live_at flags place = slice_index_or flags place false

-- a row has the bits, the live places and the weights of these places, in their order
pub record IsRow (points : List Point) (flags : List Bool) (height row : ℕ) (places : List ℕ) (ranks : Ranked) : Type 0 where
  pub second : slice_of ranks ranks.second row 0 (length places) ≡ map (is_second height) places
  pub live : slice_of ranks ranks.live row 0 (length places) ≡ map (is_live_at flags) places
  pub weights : slice_of ranks ranks.weights row 0 (length places) ≡ map (λ p. if is_live_at flags p then weight_of points p else 0) places

-- the rows of a tree, each the one above parted stably into the halves of its blocks; what was carried stands in the last one's halves
pub record AreRows (part : Contents Point) (height count : ℕ) (ranks : Ranked) (carried : List Carried) : Type 0 where
  pub rows : ℕ → List ℕ
  pub stride : ranks.stride ≡ words_for (length part.items)
  pub same_height : ranks.height ≡ height
  pub blocks : (q : ℕ) → q ≤ count → IsInBlocks (λ p. p) part.places (height - q) (rows q)
  pub each : (q : ℕ) → q < count → IsRow part.items part.flags (height - q) q (rows q) ranks
  pub last : map (λ c. c.place) carried ≡ rows count

-- the rows of the structure over a part
pub record IsTree (part : Contents Point) (rows : RangeTree) : Type 0 where
  pub few : length part.items ≤ 2 ^ 31
  pub height : rows.height ≡ height_of (length part.items)
  pub xs : rows.xs.items ≡ map (λ p. p.x) part.items
  pub leaves : AreLeaves part.items part.flags rows.leaves.items
  pub top : 0 < rows_to rows.height → IsTop part.items part.places rows.top.items
  pub ranks : 0 < rows_to rows.height → AreRows part rows.height (rows_to rows.height) rows.ranks rows.source.items
