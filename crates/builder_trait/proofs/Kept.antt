-- The items whose flags stand, as a list is read from its front.
use Rattle.std.proofs.Common.{◌≡◌, ℕ, zero, suc, ◌+◌, ◌<◌, ◌≤◌, Bool, true, false, List, [], ◌∷◌, ◌++◌, length, take, map, get_or, refl, sym, ap, ◌∙◌, arith, subst, add-one, zero-add, Some, slice_get, All, AllPairs}
use Rattle.std.specs.List.{items_where_true, filter, range_with_len}
use Rattle.std.proofs.lemmas.Option.{slice_get_within, get_or_from_slice_get}
use Rattle.std.proofs.lemmas.List.Elements.{All-cons, All-nil, All-tail, All-head}
use Rattle.std.proofs.lemmas.List.{same_lists, get_or-map, length-map, get_or_default}
use Rattle.std.proofs.lemmas.List.FromFn.{get_or-range_with_len, length-range_with_len}
use Rattle.query_laws.specs.Permuted.{Permuted}
use Rattle.query_laws.proofs.Permutations.{Permuted-map, Permuted-filter, Permuted-length}

module _ {A : Type 0} where
  -- those among the first k
  abbrev pub kept : ℕ → List Bool → List A → List A
  kept k flags xs = items_where_true (take k flags) (take k xs)

  -- one more item, live or dead
  kept_live : (flags : List Bool) (xs : List A) (k : ℕ) (x : A) → slice_get flags k ≡ Some true → slice_get xs k ≡ Some x
      → kept (suc k) flags xs ≡ kept k flags xs ++ x ∷ []
  kept_live [] xs k x stands at = absurd cc
  kept_live (b ∷ flags) [] k x stands at = absurd cc
  kept_live (true ∷ flags) (y ∷ xs) zero x stands at = let e : y ≡ x = cc in ap (λ z. z ∷ []) e
  kept_live (false ∷ flags) (y ∷ xs) zero x stands at = absurd cc
  kept_live (true ∷ flags) (y ∷ xs) (suc k) x stands at = ap (λ ys. y ∷ ys) (kept_live flags xs k x stands at)
  kept_live (false ∷ flags) (y ∷ xs) (suc k) x stands at = kept_live flags xs k x stands at

  kept_dead : (flags : List Bool) (xs : List A) (k : ℕ) → slice_get flags k ≡ Some false → kept (suc k) flags xs ≡ kept k flags xs
  kept_dead [] xs k falls = absurd cc
  kept_dead (b ∷ flags) [] zero falls = refl
  kept_dead (b ∷ flags) [] (suc k) falls = refl
  kept_dead (true ∷ flags) (y ∷ xs) zero falls = absurd cc
  kept_dead (false ∷ flags) (y ∷ xs) zero falls = refl
  kept_dead (true ∷ flags) (y ∷ xs) (suc k) falls = ap (λ ys. y ∷ ys) (kept_dead flags xs k falls)
  kept_dead (false ∷ flags) (y ∷ xs) (suc k) falls = kept_dead flags xs k falls

  pub kept-more_live : (flags : List Bool) (xs : List A) (k : ℕ) (x : A) → slice_get flags k ≡ Some true → slice_get xs k ≡ Some x
      → kept (k + 1) flags xs ≡ kept k flags xs ++ x ∷ []
  kept-more_live flags xs k x stands at = rw (add-one k) (kept_live flags xs k x stands at)

  pub kept-more_dead : (flags : List Bool) (xs : List A) (k : ℕ) → slice_get flags k ≡ Some false
      → kept (k + 1) flags xs ≡ kept k flags xs
  kept-more_dead flags xs k falls = rw (add-one k) (kept_dead flags xs k falls)

  -- no more than were read
  pub length-kept_le : (k : ℕ) (flags : List Bool) (xs : List A) → length (kept k flags xs) ≤ k
  length-kept_le zero flags xs = omega arith
  length-kept_le (suc k) [] xs = omega arith
  length-kept_le (suc k) (b ∷ flags) [] = omega arith
  length-kept_le (suc k) (true ∷ flags) (x ∷ xs) = omega (arith, length-kept_le k flags xs)
  length-kept_le (suc k) (false ∷ flags) (x ∷ xs) = omega (arith, length-kept_le k flags xs)

  -- what is true of all items is true of those kept
  pub All-kept : (P : A → Type 0) (flags : List Bool) (xs : List A) → All P xs → All P (items_where_true flags xs)
  All-kept P [] xs h = All-nil P
  All-kept P (b ∷ flags) [] h = All-nil P
  All-kept P (true ∷ flags) (x ∷ xs) h =
      All-cons P x (items_where_true flags xs) (All-head P x xs h) (All-kept P flags xs (All-tail P x xs h))
  All-kept P (false ∷ flags) (x ∷ xs) h = All-kept P flags xs (All-tail P x xs h)

  -- in a list whose items stand in a relation to all later ones, those before an item stand in it to that item
  pub AllPairs-before : (R : A → A → Type 0) (xs : List A) (k : ℕ) (x : A) → AllPairs R xs → slice_get xs k ≡ Some x
      → All (λ y. R y x) (take k xs)
  AllPairs-before R [] k x h at = absurd cc
  AllPairs-before R (y ∷ xs) zero x h at = All-nil (λ z. R z x)
  AllPairs-before R (y ∷ xs) (suc k) x h at =
      let here : R y x = subst (λ z. R y z) (get_or_from_slice_get xs k x y at) (h 0 (suc k) y (omega arith) (omega (arith, slice_get_within xs k x at))) in
      All-cons (λ z. R z x) y (take k xs) here
      (AllPairs-before R xs k x (λ i j d below within. h (suc i) (suc j) d (omega arith) (omega arith)) at)

  pub All-kept_before : (R : A → A → Type 0) (flags : List Bool) (xs : List A) (k : ℕ) (x : A) → AllPairs R xs → slice_get xs k ≡ Some x
      → All (λ y. R y x) (kept k flags xs)
  All-kept_before R flags xs k x h at = All-kept (λ y. R y x) (take k flags) (take k xs) (AllPairs-before R xs k x h at)

  -- as many are kept as flags stand
  pub length-items_where_true : (flags : List Bool) (xs : List A) → length flags ≡ length xs
      → length (items_where_true flags xs) ≡ length (filter (λ b. b) flags)
  length-items_where_true [] xs e = refl
  length-items_where_true (b ∷ flags) [] e = absurd (omega arith)
  length-items_where_true (true ∷ flags) (x ∷ xs) e = ap suc (length-items_where_true flags xs (omega arith))
  length-items_where_true (false ∷ flags) (x ∷ xs) e = length-items_where_true flags xs (omega arith)

  -- a list read place by place
  pub map-get_or_range : (xs : List A) (d : A) → map (λ p. get_or xs p d) (range_with_len 0 (length xs)) ≡ xs
  map-get_or_range xs d =
      same_lists (map (λ p. get_or xs p d) (range_with_len 0 (length xs))) xs
      (length-map (range_with_len 0 (length xs)) (λ p. get_or xs p d) ∙ length-range_with_len 0 (length xs))
      (λ k e below.
      let within : k < length (range_with_len 0 (length xs)) = omega (arith, length-map (range_with_len 0 (length xs)) (λ p. get_or xs p d)) in
      let inside : k < length xs = omega (arith, length-range_with_len 0 (length xs)) in
      get_or-map (λ p. get_or xs p d) (range_with_len 0 (length xs)) k 0 e within
      ∙ ap (λ p. get_or xs p d) (get_or-range_with_len 0 (length xs) k 0 inside ∙ zero-add k)
      ∙ get_or_default xs k d e inside)

module _ {A B : Type 0} where
  -- as many are kept in another order
  pub length-kept_reordered : (flags : List Bool) (xs : List A) (places : List ℕ) (ys : List B)
      → length flags ≡ length xs → length places ≡ length ys → Permuted places (range_with_len 0 (length xs))
      → length (items_where_true (map (λ p. get_or flags p false) places) ys) ≡ length (items_where_true flags xs)
  length-kept_reordered flags xs places ys e f p =
      let flag : ℕ → Bool = λ p. get_or flags p false in
      let reads : Permuted (map flag places) (map flag (range_with_len 0 (length flags))) =
      Permuted-map flag (subst (λ n. Permuted places (range_with_len 0 n)) (sym e) p) in
      let same : Permuted (map flag places) flags = subst (λ l. Permuted (map flag places) l) (map-get_or_range flags false) reads in
      length-items_where_true (map flag places) ys (length-map places flag ∙ f)
      ∙ Permuted-length (Permuted-filter (λ b. b) same)
      ∙ sym (length-items_where_true flags xs e)
