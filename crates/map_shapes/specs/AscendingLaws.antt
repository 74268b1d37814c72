-- That lists in ascending order are joined in any order.
use Rattle.std.specs.Prelude.{◌≡◌, ℕ, ◌≤◌, Bool, true, false, List, [], ◌∷◌, ◌++◌, nat_le}
use Rattle.std.specs.List.{All}
use Rattle.std.specs.List.Sorted.{IsNonDecreasing, IsPermutation}
use Rattle.std.proofs.Common.{zero, suc, cond, arith, inl, inr, refl, sym, ap, ◌∙◌, append-nil, append_assoc}
use Rattle.std.proofs.lemmas.Bool.{cases_lt, le-leb, lt-leb}
use Rattle.std.proofs.lemmas.Bool.Decides.{nat_tests}
use Rattle.std.proofs.lemmas.List.Elements.{All-cons, All-get_or}
use Rattle.std.proofs.lemmas.List.Sorted.{All-permutation}
use Rattle.std.proofs.lemmas.Grind.{common_steps}
use Rattle.query_laws.specs.Decomposable.{IsDecomposable}
use Rattle.query_laws.specs.Permuted.{Permuted, nothing, same_head, swapped_heads, composed}
use Rattle.query_laws.proofs.Permutations.{Permuted-refl, Permuted-sym, Permuted-append_left, Permuted-append_right, Permuted-append_comm, Permuted-from_IsPermutation, IsPermutation-from_Permuted}
use Rattle.map_model.specs.Found.{insert_by, sorted_by}
use Rattle.map_shapes.specs.Ascending.{insert_sorted, sorted_ids, sorted_union}

-- two numbers may be put in in either order
pub insert_sorted-swap : (x y : ℕ) (zs : List ℕ) → insert_sorted x (insert_sorted y zs) ≡ insert_sorted y (insert_sorted x zs)
insert_sorted-swap x y [] = grind (arith, nat_tests)
insert_sorted-swap x y (z ∷ zs) = let both = insert_sorted-swap x y zs in grind (arith, nat_tests, both)

-- lists with the same numbers are the same once they are sorted
pub sorted_ids-Permuted : {xs ys : List ℕ} → Permuted xs ys → sorted_ids xs ≡ sorted_ids ys
sorted_ids-Permuted nothing = refl
sorted_ids-Permuted (same_head x p) = ap (insert_sorted x) (sorted_ids-Permuted p)
sorted_ids-Permuted (swapped_heads x y xs) = insert_sorted-swap x y (sorted_ids xs)
sorted_ids-Permuted (composed p q) = sorted_ids-Permuted p ∙ sorted_ids-Permuted q

-- a sorted list has the numbers that it had
inserted : (b : Bool) (x y : ℕ) (ys zs : List ℕ) → Permuted zs (x ∷ ys) → Permuted (cond b (x ∷ y ∷ ys) (y ∷ zs)) (x ∷ y ∷ ys)
inserted true x y ys zs p = Permuted-refl (x ∷ y ∷ ys)
inserted false x y ys zs p = composed (same_head y p) (swapped_heads y x ys)

pub Permuted-insert_sorted : (x : ℕ) (ys : List ℕ) → Permuted (insert_sorted x ys) (x ∷ ys)
Permuted-insert_sorted x [] = Permuted-refl (x ∷ [])
Permuted-insert_sorted x (y ∷ ys) = inserted (nat_le x y) x y ys (insert_sorted x ys) (Permuted-insert_sorted x ys)

pub Permuted-sorted_ids : (xs : List ℕ) → Permuted (sorted_ids xs) xs
Permuted-sorted_ids [] = nothing
Permuted-sorted_ids (x ∷ xs) = composed (Permuted-insert_sorted x (sorted_ids xs)) (same_head x (Permuted-sorted_ids xs))

-- a list is in ascending order where its head is no greater than the others and these are
pub IsNonDecreasing-cons : (x : ℕ) (xs : List ℕ) → All (λ y. x ≤ y) xs → IsNonDecreasing xs → IsNonDecreasing (x ∷ xs)
IsNonDecreasing-cons x xs least rest zero zero d h k = omega arith
IsNonDecreasing-cons x xs least rest zero (suc j) d h k = All-get_or (λ y. x ≤ y) xs j d (omega arith) least
IsNonDecreasing-cons x xs least rest (suc i) zero d h k = absurd (omega arith)
IsNonDecreasing-cons x xs least rest (suc i) (suc j) d h k = rest i j d (omega arith) (omega arith)

pub IsNonDecreasing-head : (x : ℕ) (xs : List ℕ) → IsNonDecreasing (x ∷ xs) → All (λ y. x ≤ y) xs
IsNonDecreasing-head x xs sorted j d h = sorted zero (suc j) d (omega arith) (omega arith)

pub IsNonDecreasing-tail : (x : ℕ) (xs : List ℕ) → IsNonDecreasing (x ∷ xs) → IsNonDecreasing xs
IsNonDecreasing-tail x xs sorted i j d h k = sorted (suc i) (suc j) d (omega arith) (omega arith)

-- putting a number in keeps the order
pub IsNonDecreasing-insert_sorted : (x : ℕ) (ys : List ℕ) → IsNonDecreasing ys → IsNonDecreasing (insert_sorted x ys)
IsNonDecreasing-insert_sorted x [] sorted = IsNonDecreasing-cons x [] (λ j d h. absurd (omega arith)) sorted
IsNonDecreasing-insert_sorted x (y ∷ ys) sorted =
    let least = IsNonDecreasing-head y ys sorted in
    let rest = IsNonDecreasing-insert_sorted x ys (IsNonDecreasing-tail y ys sorted) in
    elim (cases_lt y x) [
      | inl above ↦
          rw (lt-leb x y above) (IsNonDecreasing-cons y (insert_sorted x ys)
          (All-permutation (λ z. y ≤ z) (x ∷ ys) (insert_sorted x ys) (IsPermutation-from_Permuted (Permuted-sym (Permuted-insert_sorted x ys)))
          (All-cons (λ z. y ≤ z) x ys (omega arith) least)) rest)
      | inr below ↦
          rw (le-leb x y below) (IsNonDecreasing-cons x (y ∷ ys)
          (All-cons (λ z. x ≤ z) y ys below (λ j d h. let above = least j d h in omega arith)) sorted)
    ]

pub IsNonDecreasing-sorted_ids : (xs : List ℕ) → IsNonDecreasing (sorted_ids xs)
IsNonDecreasing-sorted_ids [] = λ i j d h k. absurd (omega arith)
IsNonDecreasing-sorted_ids (x ∷ xs) = IsNonDecreasing-insert_sorted x (sorted_ids xs) (IsNonDecreasing-sorted_ids xs)

-- a list in ascending order is its own sorted list
insert_sorted-least : (x : ℕ) (xs : List ℕ) → All (λ y. x ≤ y) xs → insert_sorted x xs ≡ x ∷ xs
insert_sorted-least x [] least = refl
insert_sorted-least x (y ∷ ys) least = rw (le-leb x y (least zero y (omega arith))) refl

pub sorted_ids-sorted : (xs : List ℕ) → IsNonDecreasing xs → sorted_ids xs ≡ xs
sorted_ids-sorted [] sorted = refl
sorted_ids-sorted (x ∷ xs) sorted =
    ap (insert_sorted x) (sorted_ids-sorted xs (IsNonDecreasing-tail x xs sorted))
    ∙ insert_sorted-least x xs (IsNonDecreasing-head x xs sorted)

pub sorted_ids-IsPermutation : (xs ys : List ℕ) → IsPermutation xs ys → IsNonDecreasing ys → sorted_ids xs ≡ ys
sorted_ids-IsPermutation xs ys p sorted = sorted_ids-Permuted (Permuted-from_IsPermutation xs ys p) ∙ sorted_ids-sorted ys sorted

-- sorting parts first makes no difference
pub sorted_ids-append_left : (xs ys : List ℕ) → sorted_ids (sorted_ids xs ++ ys) ≡ sorted_ids (xs ++ ys)
sorted_ids-append_left xs ys = sorted_ids-Permuted (Permuted-append_left ys (Permuted-sorted_ids xs))

pub sorted_ids-append_right : (xs ys : List ℕ) → sorted_ids (xs ++ sorted_ids ys) ≡ sorted_ids (xs ++ ys)
sorted_ids-append_right xs ys = sorted_ids-Permuted (Permuted-append_right xs (Permuted-sorted_ids ys))

pub sorted_ids-append : (xs ys : List ℕ) → sorted_ids (xs ++ ys) ≡ sorted_union (sorted_ids xs) (sorted_ids ys)
sorted_ids-append xs ys = sym (sorted_ids-append_left xs (sorted_ids ys) ∙ sorted_ids-append_right xs ys)

pub IsDecomposable-sorted_ids : IsDecomposable sorted_ids sorted_union [] IsNonDecreasing
IsDecomposable-sorted_ids = record {
  value_lawful = IsNonDecreasing-sorted_ids;
  join_lawful = λ a b h k. IsNonDecreasing-sorted_ids (a ++ b);
  of_nothing = refl;
  of_both = sorted_ids-append;
  associative = λ a b c h k l.
      sorted_ids-append_left (a ++ b) c ∙ ap sorted_ids (append_assoc a b c) ∙ sym (sorted_ids-append_right a (b ++ c));
  commutative = λ a b h k. sorted_ids-Permuted (Permuted-append_comm a b);
  neutral = λ a h. ap sorted_ids (append-nil a) ∙ sorted_ids-sorted a h;
}

-- the definitions' list in ascending order is this one
insert_sorted-insert_by : (x : ℕ) (xs : List ℕ) → insert_sorted x xs ≡ insert_by nat_le x xs
insert_sorted-insert_by x [] = refl
insert_sorted-insert_by x (y ∷ ys) = grind (arith, common_steps, insert_sorted-insert_by x ys)

pub sorted_ids-sorted_by : (xs : List ℕ) → sorted_ids xs ≡ sorted_by nat_le xs
sorted_ids-sorted_by [] = refl
sorted_ids-sorted_by (x ∷ xs) = insert_sorted-insert_by x (sorted_ids xs) ∙ ap (insert_by nat_le x) (sorted_ids-sorted_by xs)
