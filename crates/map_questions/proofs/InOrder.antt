-- Where an entry belongs in a list that is in order.
use Rattle.std.proofs.Common.{◌≡◌, ℕ, zero, suc, ◌≤◌, ◌<◌, Bool, true, false, List, [], ◌∷◌, length, get_or, Some, slice_get, inl, inr, refl, sym, ap, ◌∙◌, arith}
use Rattle.std.specs.Prelude.{not, take_while}
use Rattle.std.specs.List.Sorted.{IsPartitionedBy, IsPartitionPoint}
use Rattle.std.proofs.lemmas.Bool.{cases_Bool}
use Rattle.std.proofs.lemmas.Grind.{common_steps}
use Rattle.std.proofs.lemmas.Option.{slice_get_within, get_or_from_slice_get}
use Rattle.std.proofs.lemmas.List.Folds.{length-prefix_len}
use Rattle.std.proofs.lemmas.List.Sums.{prefix_len_is}
use Rattle.map_model.specs.Found.{insert_by, sorted_by}
use Rattle.map_questions.specs.FirstFew.{IsTotalOrder}
use Rattle.map_questions.specs.FirstFewLaws.{reflexive, sorted_tail, sorted_head}

fails_after : (a b : Bool) → (a ≡ true → b ≡ true) → not b ≡ true → not a ≡ true
fails_after true true h k = k
fails_after true false h k = absurd (let e : false ≡ true = h refl in cc)
fails_after false b h k = refl

module _ {A : Type 0} {le : A → A → Bool} (order : IsTotalOrder le) where
  first_two : (x y : A) (ys : List A) → insert_by le x (y ∷ ys) ≡ x ∷ y ∷ ys → le x y ≡ true
  first_two x y ys e = grind (arith, common_steps, reflexive order x, e)

  -- the first comes before each
  first_of_all : (x : A) (xs : List A) → sorted_by le (x ∷ xs) ≡ x ∷ xs → (j : ℕ) (d : A) → j < length xs → le x (get_or xs j d) ≡ true
  first_of_all x [] sorted j d h = absurd (omega (arith, h))
  first_of_all x (y ∷ ys) sorted zero d h = first_two x y ys (sorted_head order x (y ∷ ys) sorted)
  first_of_all x (y ∷ ys) sorted (suc j) d h =
      order.transitive x y (get_or ys j d) (first_two x y ys (sorted_head order x (y ∷ ys) sorted))
      (first_of_all y ys (sorted_tail order x (y ∷ ys) sorted) j d (omega (arith, h)))

  -- each comes before those behind it
  in_order : (xs : List A) → sorted_by le xs ≡ xs → (i j : ℕ) (d : A) → i ≤ j → j < length xs → le (get_or xs i d) (get_or xs j d) ≡ true
  in_order [] sorted i j d h k = absurd (omega (arith, k))
  in_order (x ∷ xs) sorted zero zero d h k = reflexive order x
  in_order (x ∷ xs) sorted zero (suc j) d h k = first_of_all x xs sorted j d (omega (arith, k))
  in_order (x ∷ xs) sorted (suc i) zero d h k = absurd (omega (arith, h))
  in_order (x ∷ xs) sorted (suc i) (suc j) d h k = in_order xs (sorted_tail order x xs sorted) i j d (omega (arith, h)) (omega (arith, k))

  -- those that come before an entry stand at the front
  pub IsPartitionedBy-before : (x : A) (xs : List A) → sorted_by le xs ≡ xs → IsPartitionedBy (λ y. not (le x y)) xs
  IsPartitionedBy-before x xs sorted i j d within inside passes =
      fails_after (le x (get_or xs i d)) (le x (get_or xs j d))
      (λ h. order.transitive x (get_or xs i d) (get_or xs j d) h (in_order xs sorted i j d within inside)) passes

  -- where one at a place comes before an entry, so do those before it
  pub comes_before : (x : A) (xs : List A) → sorted_by le xs ≡ xs → (m : ℕ) (w : A) → slice_get xs m ≡ Some w → not (le x w) ≡ true → (k : ℕ) (d : A) → k ≤ m
      → not (le x (get_or xs k d)) ≡ true
  comes_before x xs sorted m w at passes k d within =
      IsPartitionedBy-before x xs sorted k m d within (slice_get_within xs m w at)
      (ap (λ v. not (le x v)) (get_or_from_slice_get xs m w d at) ∙ passes)

  -- where it doesn't, those behind it don't
  pub comes_behind : (x : A) (xs : List A) → sorted_by le xs ≡ xs → (m : ℕ) (w : A) → slice_get xs m ≡ Some w → not (le x w) ≡ false → (k : ℕ) (d : A) → m ≤ k
      → k < length xs → not (le x (get_or xs k d)) ≡ false
  comes_behind x xs sorted m w at fails k d within inside = elim (cases_Bool (not (le x (get_or xs k d)))) [
    | inl passes ↦ absurd (let here : not (le x w) ≡ true = sym (ap (λ v. not (le x v)) (get_or_from_slice_get xs m w d at)) ∙ IsPartitionedBy-before x xs sorted m k d within inside passes in cc)
    | inr behind ↦ behind
  ]

-- a search for the first that fails counts those at the front that pass
pub count-searched : {A : Type 0} (p : A → Bool) (x : A) (xs : List A) (n : ℕ) → n ≤ length xs → IsPartitionPoint (λ y. p y ≡ true) (λ y. p y ≡ false) xs n
    → n ≡ length (take_while p xs)
count-searched p x xs n within point =
    sym (length-prefix_len p xs ∙ prefix_len_is p xs n x within (λ k below. point.0 k x (omega arith) below) (λ below. point.1 n x (omega arith) below))
