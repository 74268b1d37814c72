-- What stands over the segments of a part: their upper ends, and which of them are live in either order.
use Rattle.std.specs.Prelude.{◌≡◌, ℕ, ◌^◌, ◌<◌, ◌≤◌, Bool, List, length, map, zip, slice_index}
use Rattle.query_laws.specs.Orders.{before_in}
use Rattle.query_laws.specs.declared.item.Order.{Order}
use Rattle.weak_delete.specs.declared.place.Place.{Place}
use Rattle.weak_delete.specs.Places.{IsBuilt}
use Rattle.builder_trait.specs.Parts.{Contents}
use Rattle.builder_trait.specs.Rebuilding.{flags_reordered}
use Rattle.map_shapes.specs.declared.segment.Segment.{Segment}
use Rattle.interval_tree.specs.declared.rows.StabRows.{StabRows}
use Rattle.interval_tree.specs.declared.trees.Trees.{Trees}

-- the orders of segments
abbrev pub before : Order → Segment → Segment → Bool
before = before_in (λ s. s.lo) (λ s. s.hi) (λ s. s.stamp)

-- a place of the maximum: the segment's upper end, live as the segment is
abbrev pub end_place : Segment × Bool → Place
end_place held = record { amount = held.0.hi; live = held.1 }

-- a place of the counts, which weighs nothing
abbrev pub count_place : Bool → Place
count_place flag = record { amount = 0; live = flag }

-- the upper ends in the first order
abbrev pub ends_of : Contents Segment → List Place
ends_of part = map end_place (zip part.items part.flags)

-- which segments are live, in the first order and in the second
abbrev pub lives_of : Contents Segment → List Place
lives_of part = map count_place part.flags

abbrev pub lives_reordered : Contents Segment → List Place
lives_reordered part = map count_place (flags_reordered part)

-- of all indices of the second order this one has the place
pub record IsIndexOf (places : List ℕ) (place index : ℕ) : Type 0 where
  pub within : index < length places
  pub at_index : slice_index places index ≡ place
  pub alone : (k : ℕ) → k < length places → slice_index places k ≡ place → k ≡ index

-- the trees are those of a part
pub record AreOver (part : Contents Segment) (trees : Trees) : Type 0 where
  pub few : length part.items ≤ 2 ^ 31
  pub flagged : length part.flags ≡ length part.items
  pub ends_built : IsBuilt trees.ends
  pub ends : trees.ends.places ≡ ends_of part
  pub by_lower_built : IsBuilt trees.by_lower
  pub by_lower : trees.by_lower.places ≡ lives_of part
  pub by_upper_built : IsBuilt trees.by_upper
  pub by_upper : trees.by_upper.places ≡ lives_reordered part

-- each tree has room for so many places
pub record HaveRoom (cap : ℕ) (trees : Trees) : Type 0 where
  pub ends : trees.ends.capacity ≡ cap
  pub by_lower : trees.by_lower.capacity ≡ cap
  pub by_upper : trees.by_upper.capacity ≡ cap

-- the trees have room for what a builder of this level takes
pub record HasRoom (at_level : ℕ) (rows : StabRows) : Type 0 where
  pub small : at_level < 32
  pub trees : HaveRoom (2 ^ at_level) rows.trees

-- The rows that a part keeps, which have room for what the next builder takes.
pub record AreKept (part : Contents Segment) (rows : StabRows) : Type 0 where
  pub small : part.at_level < 32
  pub room : HaveRoom (2 ^ part.at_level) rows.trees
  pub over : AreOver part rows.trees
