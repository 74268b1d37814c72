-- How far a part is read into a builder, in either order.
use Rattle.std.specs.Prelude.{ℕ, Bool, false, List, take, map, slice_index_or}
use Rattle.std.specs.List.{items_where_true}
use Rattle.builder_trait.specs.Parts.{Contents}

module _ {Item : Type 0} where
  -- the live items before a place of the first order
  abbrev pub live_before : ℕ → Contents Item → List Item
  live_before k part = items_where_true (take k part.flags) (take k part.items)

  -- for each item in the second order, whether it is live
  abbrev pub flags_reordered : Contents Item → List Bool
  flags_reordered part = map (λ p. slice_index_or part.flags p false) part.places

  -- the live items before an index of the second order
  abbrev pub live_reordered_before : ℕ → Contents Item → List Item
  live_reordered_before k part = items_where_true (take k (flags_reordered part)) (take k part.reordered)
