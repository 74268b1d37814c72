-- What follows from the laws of a decomposable question, once for all questions.
use Rattle.std.proofs.Common.{◌≡◌, ℕ, ◌<◌, Bool, not, List, [], ◌∷◌, ◌++◌, length, get_or, map, fold, refl, sym, ap, ◌∙◌}
use Rattle.std.specs.List.{filter, flat_map, remove}
use Rattle.std.specs.List.Sorted.{IsPermutation}
use Rattle.std.proofs.lemmas.List.Sorted.{IsPermutation-remove}
use Rattle.query_laws.specs.Decomposable.{IsDecomposable}
use Rattle.query_laws.specs.Permuted.{Permuted, nothing, same_head, swapped_heads, composed}
use Rattle.query_laws.proofs.Permutations.{Permuted-from_IsPermutation, Permuted-middle, Permuted-flat_map, Permuted-partition}

module _ {I A : Type 0} {value : List I → A} {join : A → A → A} {unit : A} {lawful : A → Type 0}
    (laws : IsDecomposable value join unit lawful) where
  -- the answer over nothing is lawful, and neutral on either side
  pub unit_lawful : lawful unit
  unit_lawful = rw (← laws.of_nothing) (laws.value_lawful [])

  pub join-unit_left : (a : A) → lawful a → join unit a ≡ a
  join-unit_left a h = laws.commutative unit a unit_lawful h ∙ laws.neutral a h

  -- one item and the rest
  pub value-cons : (x : I) (xs : List I) → value (x ∷ xs) ≡ join (value (x ∷ [])) (value xs)
  value-cons x xs = laws.of_both (x ∷ []) xs

  -- two parts, in either order
  pub value-swap_parts : (xs ys : List I) → value (xs ++ ys) ≡ value (ys ++ xs)
  value-swap_parts xs ys =
      laws.of_both xs ys ∙ laws.commutative (value xs) (value ys) (laws.value_lawful xs) (laws.value_lawful ys)
      ∙ sym (laws.of_both ys xs)

  -- the answer doesn't depend on the order of the items
  pub value-Permuted : {xs ys : List I} → Permuted xs ys → value xs ≡ value ys
  value-Permuted nothing = refl
  value-Permuted (same_head x p) =
      value-cons x _ ∙ ap (join (value (x ∷ []))) (value-Permuted p) ∙ sym (value-cons x _)
  value-Permuted (swapped_heads x y xs) =
      laws.of_both (x ∷ y ∷ []) xs ∙ ap (λ a. join a (value xs)) (value-swap_parts (x ∷ []) (y ∷ []))
      ∙ sym (laws.of_both (y ∷ x ∷ []) xs)
  value-Permuted (composed p q) = value-Permuted p ∙ value-Permuted q

  -- the same, by the library's word
  pub value-IsPermutation : (xs ys : List I) → IsPermutation xs ys → value xs ≡ value ys
  value-IsPermutation xs ys p = value-Permuted (Permuted-from_IsPermutation xs ys p)

  -- one item among the others, taken out
  pub value-middle : (xs : List I) (x : I) (ys : List I) → value (xs ++ x ∷ ys) ≡ join (value (x ∷ [])) (value (xs ++ ys))
  value-middle xs x ys = value-Permuted (Permuted-middle xs x ys) ∙ value-cons x (xs ++ ys)

  -- the item at a place, taken out
  pub value-remove : (xs : List I) (i : ℕ) (x : I) → i < length xs → x ≡ get_or xs i x
      → value xs ≡ join (value (x ∷ [])) (value (remove xs i))
  value-remove xs i x h e = value-IsPermutation xs (x ∷ remove xs i) (IsPermutation-remove xs i x h e) ∙ value-cons x (remove xs i)

  -- the items that pass a test, and the others
  pub value-partition : (p : I → Bool) (xs : List I)
      → value xs ≡ join (value (filter p xs)) (value (filter (λ x. not (p x)) xs))
  value-partition p xs =
      sym (value-Permuted (Permuted-partition p xs)) ∙ laws.of_both (filter p xs) (filter (λ x. not (p x)) xs)

  -- an answer joined with two values, one after the other
  pub join-values : (a : A) (xs ys : List I) → lawful a → join (join a (value xs)) (value ys) ≡ join a (value (xs ++ ys))
  join-values a xs ys h =
      laws.associative a (value xs) (value ys) h (laws.value_lawful xs) (laws.value_lawful ys) ∙ ap (join a) (sym (laws.of_both xs ys))

  module _ {P : Type 0} (items : P → List I) where
    -- from a lawful answer on, joining the values of several lists is joining the value of them all
    pub fold-join : (a : A) (parts : List P) → lawful a
        → fold join a (map (λ p. value (items p)) parts) ≡ join a (value (flat_map items parts))
    fold-join a [] h = sym (ap (join a) laws.of_nothing ∙ laws.neutral a h)
    fold-join a (p ∷ parts) h =
        fold-join (join a (value (items p))) parts (laws.join_lawful a (value (items p)) h (laws.value_lawful (items p)))
        ∙ join-values a (items p) (flat_map items parts) h

    -- the value of several lists is the fold of their values
    pub value-flat_map : (parts : List P) → value (flat_map items parts) ≡ fold join unit (map (λ p. value (items p)) parts)
    value-flat_map parts =
        sym (join-unit_left (value (flat_map items parts)) (laws.value_lawful (flat_map items parts)))
        ∙ sym (fold-join unit parts unit_lawful)

    -- and it doesn't depend on the order of the lists
    pub value-flat_map_Permuted : {parts others : List P} → Permuted parts others → value (flat_map items parts) ≡ value (flat_map items others)
    value-flat_map_Permuted p = value-Permuted (Permuted-flat_map items p)
