-- That the first few entries of parts are joined in any order.
use Rattle.std.proofs.Common.{◌≡◌, ℕ, zero, suc, ◌≤◌, Bool, true, false, cond, List, [], ◌∷◌, ◌++◌, length, take, Option, Some, None, slice_get, refl, sym, ap, ◌∙◌, arith, inl, inr, append-nil, append_assoc}
use Rattle.std.specs.Option.{option_to_list}
use Rattle.std.proofs.lemmas.Grind.{common_steps}
use Rattle.std.proofs.lemmas.List.{take-take, take_all, length-take}
use Rattle.std.proofs.Math.Seq.{take-nil}
use Rattle.query_laws.specs.Decomposable.{IsDecomposable}
use Rattle.query_laws.specs.Permuted.{Permuted, nothing, same_head, swapped_heads, composed}
use Rattle.query_laws.proofs.Permutations.{Permuted-refl, Permuted-append_comm}
use Rattle.map_model.specs.Found.{insert_by, sorted_by}
use Rattle.map_questions.specs.AnswerLaws.{IsDecomposable-same, IsDecomposable-through}
use Rattle.map_questions.specs.FirstFew.{IsTotalOrder, IsFirstFew, first_few, first_few_of_both, first, first_of_both}

module _ {A : Type 0} where
  -- lists of at most one are options
  pub front-take : (xs : List A) → slice_get (take 1 xs) 0 ≡ slice_get xs 0
  front-take [] = refl
  front-take (x ∷ xs) = refl

  front-listed : (a : Option A) → slice_get (option_to_list a) 0 ≡ a
  front-listed None = refl
  front-listed (Some x) = refl

  pub listed-front : (xs : List A) → length xs ≤ 1 → option_to_list (slice_get xs 0) ≡ xs
  listed-front [] few = refl
  listed-front (x ∷ []) few = refl
  listed-front (x ∷ y ∷ ys) few = absurd (omega arith)

module _ {A : Type 0} {le : A → A → Bool} (order : IsTotalOrder le) where
  pub reflexive : (a : A) → le a a ≡ true
  reflexive a = elim (order.total a a) [ inl h ↦ h | inr h ↦ h ]

  pub otherwise : (a b : A) → le a b ≡ false → le b a ≡ true
  otherwise a b h = elim (order.total a b) [ inl k ↦ cc | inr k ↦ k ]

  -- two entries may be put in in either order
  insert_by-swap : (x y : A) (zs : List A) → insert_by le x (insert_by le y zs) ≡ insert_by le y (insert_by le x zs)
  insert_by-swap x y [] = grind (arith, common_steps, order.total x y, order.antisymmetric x y)
  insert_by-swap x y (z ∷ zs) =
      grind (arith, common_steps, insert_by-swap x y zs, order.total x y, order.antisymmetric x y, order.transitive x y z, order.transitive y x z)

  -- lists with the same entries are the same once they are sorted
  pub sorted_by-Permuted : {xs ys : List A} → Permuted xs ys → sorted_by le xs ≡ sorted_by le ys
  sorted_by-Permuted nothing = refl
  sorted_by-Permuted (same_head x p) = ap (insert_by le x) (sorted_by-Permuted p)
  sorted_by-Permuted (swapped_heads x y xs) = insert_by-swap x y (sorted_by le xs)
  sorted_by-Permuted (composed p q) = sorted_by-Permuted p ∙ sorted_by-Permuted q

  -- a sorted list has the entries that it had
  inserted : (b : Bool) (x y : A) (ys zs : List A) → Permuted zs (x ∷ ys) → Permuted (cond b (x ∷ y ∷ ys) (y ∷ zs)) (x ∷ y ∷ ys)
  inserted true x y ys zs p = Permuted-refl (x ∷ y ∷ ys)
  inserted false x y ys zs p = composed (same_head y p) (swapped_heads y x ys)

  Permuted-insert_by : (x : A) (ys : List A) → Permuted (insert_by le x ys) (x ∷ ys)
  Permuted-insert_by x [] = Permuted-refl (x ∷ [])
  Permuted-insert_by x (y ∷ ys) = inserted (le x y) x y ys (insert_by le x ys) (Permuted-insert_by x ys)

  pub Permuted-sorted_by : (xs : List A) → Permuted (sorted_by le xs) xs
  Permuted-sorted_by [] = nothing
  Permuted-sorted_by (x ∷ xs) = composed (Permuted-insert_by x (sorted_by le xs)) (same_head x (Permuted-sorted_by xs))

  -- sorting twice is sorting once
  pub sorted_by-sorted_by : (xs : List A) → sorted_by le (sorted_by le xs) ≡ sorted_by le xs
  sorted_by-sorted_by xs = sorted_by-Permuted (Permuted-sorted_by xs)

  -- the tail of a sorted list is sorted, and its head goes in at the front
  insert_by-front : (x : A) (ys xs : List A) → insert_by le x ys ≡ x ∷ xs → ys ≡ xs
  insert_by-front x [] xs e = cc
  insert_by-front x (y ∷ ys) xs e = grind (arith, common_steps, reflexive x, e)

  pub sorted_tail : (x : A) (xs : List A) → sorted_by le (x ∷ xs) ≡ x ∷ xs → sorted_by le xs ≡ xs
  sorted_tail x xs e = insert_by-front x (sorted_by le xs) xs e

  pub sorted_head : (x : A) (xs : List A) → sorted_by le (x ∷ xs) ≡ x ∷ xs → insert_by le x xs ≡ x ∷ xs
  sorted_head x xs e = sym (ap (insert_by le x) (sorted_tail x xs e)) ∙ e

  insert_by-take_front : (x : A) (xs : List A) (k : ℕ) → insert_by le x xs ≡ x ∷ xs → insert_by le x (take k xs) ≡ x ∷ take k xs
  insert_by-take_front x xs zero e = refl
  insert_by-take_front x [] (suc k) e = refl
  insert_by-take_front x (y ∷ ys) (suc k) e = grind (arith, common_steps, reflexive x, e)

  -- the front of a sorted list is sorted
  pub sorted_by-take : (k : ℕ) (xs : List A) → sorted_by le xs ≡ xs → sorted_by le (take k xs) ≡ take k xs
  sorted_by-take zero xs e = refl
  sorted_by-take (suc k) [] e = refl
  sorted_by-take (suc k) (x ∷ xs) e =
      ap (insert_by le x) (sorted_by-take k xs (sorted_tail x xs e)) ∙ insert_by-take_front x xs k (sorted_head x xs e)

  -- what comes after the first k doesn't matter to the first k
  take-cons_take : (k : ℕ) (y : A) (ys : List A) → take k (y ∷ take k ys) ≡ take k (y ∷ ys)
  take-cons_take zero y ys = refl
  take-cons_take (suc k) y ys = ap (λ zs. y ∷ zs) (take-take k (suc k) ys (omega arith))

  take-insert_by : (k : ℕ) (x : A) (ys : List A) → take k (insert_by le x (take k ys)) ≡ take k (insert_by le x ys)
  take-insert_by zero x ys = refl
  take-insert_by (suc k) x [] = refl
  take-insert_by (suc k) x (y ∷ ys) = grind (arith, common_steps, take-insert_by k x ys, take-cons_take k y ys)

  pub first_few-append_right : (k : ℕ) (xs ys : List A) → first_few le k (xs ++ first_few le k ys) ≡ first_few le k (xs ++ ys)
  first_few-append_right k [] ys =
      ap (take k) (sorted_by-take k (sorted_by le ys) (sorted_by-sorted_by ys)) ∙ take-take k k (sorted_by le ys) (omega arith)
  first_few-append_right k (x ∷ xs) ys =
      sym (take-insert_by k x (sorted_by le (xs ++ first_few le k ys)))
      ∙ ap (λ zs. take k (insert_by le x zs)) (first_few-append_right k xs ys)
      ∙ take-insert_by k x (sorted_by le (xs ++ ys))

  first_few-append_comm : (k : ℕ) (xs ys : List A) → first_few le k (xs ++ ys) ≡ first_few le k (ys ++ xs)
  first_few-append_comm k xs ys = ap (take k) (sorted_by-Permuted (Permuted-append_comm xs ys))

  pub first_few-append_left : (k : ℕ) (xs ys : List A) → first_few le k (first_few le k xs ++ ys) ≡ first_few le k (xs ++ ys)
  first_few-append_left k xs ys =
      first_few-append_comm k (first_few le k xs) ys ∙ first_few-append_right k ys xs ∙ first_few-append_comm k ys xs

  pub IsFirstFew-first_few : (k : ℕ) (xs : List A) → IsFirstFew le k (first_few le k xs)
  IsFirstFew-first_few k xs = record {
    sorted = sorted_by-take k (sorted_by le xs) (sorted_by-sorted_by xs);
    few = omega (arith, length-take k (sorted_by le xs));
  }

  -- such a list is its own first few
  pub first_few-IsFirstFew : (k : ℕ) (xs : List A) → IsFirstFew le k xs → first_few le k xs ≡ xs
  first_few-IsFirstFew k xs h = ap (take k) h.sorted ∙ take_all k xs h.few

  pub IsDecomposable-first_few : (k : ℕ) → IsDecomposable (first_few le k) (first_few_of_both le k) [] (IsFirstFew le k)
  IsDecomposable-first_few k = record {
    value_lawful = IsFirstFew-first_few k;
    join_lawful = λ a b h l. IsFirstFew-first_few k (a ++ b);
    of_nothing = take-nil k;
    of_both = λ xs ys. sym (first_few-append_left k xs (first_few le k ys) ∙ first_few-append_right k xs ys);
    associative = λ a b c h l m.
        first_few-append_left k (a ++ b) c ∙ ap (first_few le k) (append_assoc a b c) ∙ sym (first_few-append_right k a (b ++ c));
    commutative = λ a b h l. first_few-append_comm k a b;
    neutral = λ a h. ap (first_few le k) (append-nil a) ∙ first_few-IsFirstFew k a h;
  }

  pub alone-IsFirstFew : (a : Option A) → IsFirstFew le 1 (option_to_list a)
  alone-IsFirstFew None = record { sorted = refl; few = omega arith }
  alone-IsFirstFew (Some x) = record { sorted = refl; few = omega arith }

  -- the very first is the first few of at most one
  pub IsDecomposable-first : IsDecomposable (first le) (first_of_both le) None (λ a. Unit {0})
  IsDecomposable-first =
      IsDecomposable-same (λ xs. front-take (sorted_by le xs)) (λ a b. front-take (sorted_by le (option_to_list a ++ option_to_list b)))
      (IsDecomposable-through (λ xs. slice_get xs 0) option_to_list (IsDecomposable-first_few 1) alone-IsFirstFew
      (λ xs h. listed-front xs h.few) front-listed)
