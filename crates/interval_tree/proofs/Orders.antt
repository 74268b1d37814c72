-- The live segments of both orders are the same.
use Rattle.std.proofs.Common.{◌≡◌, ℕ, Bool, true, false, cond, List, [], ◌∷◌, length, map, get_or, refl, sym, ap, ap₂, ◌∙◌, subst, Some, slice_get}
use Rattle.std.proofs.lemmas.Option.{get_or_from_slice_get}
use Rattle.std.specs.List.{filter, items_where_true, range_with_len}
use Rattle.query_laws.specs.Permuted.{Permuted}
use Rattle.query_laws.proofs.Permutations.{Permuted-map, Permuted-filter}
use Rattle.query_laws.specs.declared.item.Order.{Order}
use Rattle.builder_trait.specs.Parts.{Contents, IsPart, live_of}
use Rattle.builder_trait.specs.Rebuilding.{flags_reordered}
use Rattle.builder_trait.proofs.Kept.{map-get_or_range}

module _ {Item : Type 0} where
  kept-mapped : (f : ℕ → Bool) (g : ℕ → Item) (ps : List ℕ) → items_where_true (map f ps) (map g ps) ≡ map g (filter f ps)
  kept-mapped f g [] = refl
  kept-mapped f g (p ∷ ps) = by (f p) (kept-mapped f g ps)
    where
      by : (b : Bool) → items_where_true (map f ps) (map g ps) ≡ map g (filter f ps)
          → items_where_true (b ∷ map f ps) (g p ∷ map g ps) ≡ map g (cond b (p ∷ filter f ps) (filter f ps))
      by true rest = ap (λ l. g p ∷ l) rest
      by false rest = rest

  -- items read at their places
  read_at : (items : List Item) (d : Item) (ps : List ℕ) (ys : List Item) → map (slice_get items) ps ≡ map Some ys → map (λ p. get_or items p d) ps ≡ ys
  read_at items d [] [] placed = refl
  read_at items d [] (y ∷ ys) placed = absurd cc
  read_at items d (p ∷ ps) [] placed = absurd cc
  read_at items d (p ∷ ps) (y ∷ ys) placed =
      let head : slice_get items p ≡ Some y = cc in
      let tail : map (slice_get items) ps ≡ map Some ys = cc in
      ap₂ (λ z zs. z ∷ zs) (get_or_from_slice_get items p y d head) (read_at items d ps ys tail)

  -- the live items of the second order are those of the first
  pub Permuted-reordered : {before : Order → Item → Item → Bool} (part : Contents Item) → IsPart before part → (d : Item)
      → Permuted (items_where_true (flags_reordered part) part.reordered) (live_of part)
  Permuted-reordered part valid d =
      let flag : ℕ → Bool = λ p. get_or part.flags p false in
      let item : ℕ → Item = λ p. get_or part.items p d in
      let all : List ℕ = range_with_len 0 (length part.items) in
      let flags : map flag all ≡ part.flags =
      ap (λ n. map flag (range_with_len 0 n)) (sym valid.flagged) ∙ map-get_or_range part.flags false in
      let second : items_where_true (flags_reordered part) part.reordered ≡ map item (filter flag part.places) =
      ap (items_where_true (flags_reordered part)) (sym (read_at part.items d part.places part.reordered valid.placed)) ∙ kept-mapped flag item part.places in
      let first : map item (filter flag all) ≡ live_of part =
      sym (kept-mapped flag item all) ∙ ap₂ items_where_true flags (map-get_or_range part.items d) in
      subst (λ l. Permuted l (live_of part)) (sym second)
      (subst (λ l. Permuted (map item (filter flag part.places)) l) first
      (Permuted-map item (Permuted-filter flag valid.each_place)))
