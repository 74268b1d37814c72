-- A part read place by place: what each item adds to those that were read, and how many there are.
use Rattle.std.proofs.Common.{◌≡◌, ℕ, ◌+◌, ◌<◌, Bool, true, false, [], ◌∷◌, ◌++◌, length, take, get_or, sym, ap, ◌∙◌, arith, Some, slice_get, slice_index, take_all, ⊎_elim}
use Rattle.std.specs.List.{items_where_true}
use Rattle.std.proofs.lemmas.Option.{slice_get-get_or, slice_get-map, slice_get_within, slice_get_cases, get_or_from_slice_get}
use Rattle.std.specs.Option.{option_map}
use Rattle.std.proofs.lemmas.List.{length-map}
use Rattle.std.proofs.lemmas.List.FromFn.{length-range_with_len}
use Rattle.query_laws.proofs.Permutations.{Permuted-length}
use Rattle.query_laws.specs.declared.item.Order.{Order}
use Rattle.builder_trait.specs.Parts.{Contents, IsPart, live_of}
use Rattle.builder_trait.specs.Rebuilding.{live_before, flags_reordered, live_reordered_before}
use Rattle.builder_trait.proofs.Places.{slice_get-placed}
use Rattle.builder_trait.proofs.Kept.{kept-more_live, kept-more_dead, length-kept_reordered}

module _ {Item : Type 0} {before : Order → Item → Item → Bool} {part : Contents Item} (valid : IsPart before part) where
  -- the lists of both orders are as long as one another
  pub length-reordered : length part.reordered ≡ length part.items
  length-reordered = Permuted-length valid.same_items

  pub length-places : length part.places ≡ length part.items
  length-places = Permuted-length valid.each_place ∙ length-range_with_len 0 (length part.items)

  -- the item at an index of the second order stands at its place in the first order
  pub placed-at : (k : ℕ) (x : Item) → slice_get part.reordered k ≡ Some x → slice_get part.items (slice_index part.places k) ≡ Some x
  placed-at = slice_get-placed part.items part.reordered part.places valid.placed

  -- and that place is one of the part's
  pub place_within : (k : ℕ) → k < length part.items → slice_index part.places k < length part.items
  place_within k below =
      ⊎_elim
      (λ (x, inside, at, _). slice_get_within part.items (slice_index part.places k) x (placed-at k x at))
      (λ (past, _). absurd (omega (arith, length-reordered)))
      (slice_get_cases part.reordered k).1

  -- the flag at an index of the second order is the one at its place
  pub slice_get-flags_reordered : (k : ℕ) (flag : Bool) → k < length part.items
      → slice_get part.flags (slice_index part.places k) ≡ Some flag → slice_get (flags_reordered part) k ≡ Some flag
  slice_get-flags_reordered k flag below at =
      let here : slice_get part.places k ≡ Some (slice_index part.places k) =
      slice_get-get_or part.places k 0 (omega (arith, length-places)) in
      slice_get-map (λ p. get_or part.flags p false) part.places k ∙ ap (option_map (λ p. get_or part.flags p false)) here
      ∙ ap Some (get_or_from_slice_get part.flags (slice_index part.places k) flag false at)

  -- all live items are read once the first order is
  pub live_before-all : live_before (length part.items) part ≡ live_of part
  live_before-all =
      let flags : take (length part.items) part.flags ≡ part.flags = take_all (length part.items) part.flags (omega (arith, valid.flagged)) in
      let items : take (length part.items) part.items ≡ part.items = take_all (length part.items) part.items (omega arith) in
      ap (λ l. items_where_true l (take (length part.items) part.items)) flags ∙ ap (items_where_true part.flags) items

  -- and in the second order
  pub live_reordered_before-all : live_reordered_before (length part.items) part ≡ items_where_true (flags_reordered part) part.reordered
  live_reordered_before-all =
      let flags : take (length part.items) (flags_reordered part) ≡ flags_reordered part =
      take_all (length part.items) (flags_reordered part)
      (omega (arith, length-map part.places (λ p. get_or part.flags p false), length-places)) in
      let items : take (length part.items) part.reordered ≡ part.reordered = take_all (length part.items) part.reordered (omega (arith, length-reordered)) in
      ap (λ l. items_where_true l (take (length part.items) part.reordered)) flags ∙ ap (items_where_true (flags_reordered part)) items

  -- as many are read in both
  pub length-live_reordered_before : length (live_reordered_before (length part.items) part) ≡ length (live_of part)
  length-live_reordered_before =
      ap length live_reordered_before-all
      ∙ length-kept_reordered part.flags part.items part.places part.reordered valid.flagged (length-places ∙ sym length-reordered) valid.each_place

  -- what an item in the second order adds to those that were read, live or dead
  pub live_reordered-more : (k : ℕ) (x : Item) → k < length part.items
      → slice_get part.flags (slice_index part.places k) ≡ Some true → slice_get part.reordered k ≡ Some x
      → live_reordered_before (k + 1) part ≡ live_reordered_before k part ++ x ∷ []
  live_reordered-more k x below stands at =
      kept-more_live (flags_reordered part) part.reordered k x (slice_get-flags_reordered k true below stands) at

  pub live_reordered-same : (k : ℕ) → k < length part.items → slice_get part.flags (slice_index part.places k) ≡ Some false
      → live_reordered_before (k + 1) part ≡ live_reordered_before k part
  live_reordered-same k below falls =
      kept-more_dead (flags_reordered part) part.reordered k (slice_get-flags_reordered k false below falls)
