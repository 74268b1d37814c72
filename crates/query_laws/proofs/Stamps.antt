-- Lists of items with different stamps.
use Rattle.std.proofs.Common.{◌≢◌, ℕ, zero, suc, List, ◌∷◌, sym, arith, All, AllPairs}
use Rattle.std.proofs.lemmas.List.Elements.{All-cons, All-tail}
use Rattle.std.proofs.lemmas.List.Kept.{AllPairs-cons}
use Rattle.std.proofs.lemmas.List.Sorted.{All-permutation}
use Rattle.query_laws.specs.Orders.{AllStampsDiffer}
use Rattle.query_laws.specs.Permuted.{Permuted, nothing, same_head, swapped_heads, composed}
use Rattle.query_laws.proofs.Permutations.{IsPermutation-from_Permuted}

module _ {A : Type 0} (R : A → A → Type 0) where
  head_to_all : (x : A) (xs : List A) → AllPairs R (x ∷ xs) → All (R x) xs
  head_to_all x xs pairs = λ k d within. pairs zero (suc k) d (omega arith) (omega arith)

  pairs_of_tail : (x : A) (xs : List A) → AllPairs R (x ∷ xs) → AllPairs R xs
  pairs_of_tail x xs pairs = λ i j d below within. pairs (suc i) (suc j) d (omega arith) (omega arith)

  -- what holds of any two items, in either order, holds of them in any list of theirs
  AllPairs-Permuted : ((x y : A) → R x y → R y x) → {xs ys : List A} → Permuted xs ys → AllPairs R xs → AllPairs R ys
  AllPairs-Permuted symmetric nothing pairs = pairs
  AllPairs-Permuted symmetric (same_head x {xs} {ys} p) pairs =
      AllPairs-cons R x ys (All-permutation (R x) xs ys (IsPermutation-from_Permuted p) (head_to_all x xs pairs))
      (AllPairs-Permuted symmetric p (pairs_of_tail x xs pairs))
  AllPairs-Permuted symmetric (swapped_heads x y xs) pairs =
      let rest = pairs_of_tail x (y ∷ xs) pairs in
      let from_x = head_to_all x (y ∷ xs) pairs in
      AllPairs-cons R y (x ∷ xs) (All-cons (R y) x xs (symmetric x y (from_x 0 x (omega arith))) (head_to_all y xs rest))
      (AllPairs-cons R x xs (All-tail (R x) y xs from_x) (pairs_of_tail y xs rest))
  AllPairs-Permuted symmetric (composed p q) pairs = AllPairs-Permuted symmetric q (AllPairs-Permuted symmetric p pairs)

-- in another order too
pub AllStampsDiffer-permuted : {Item : Type 0} (stamp : Item → ℕ) {xs ys : List Item} → Permuted xs ys
    → AllStampsDiffer stamp xs → AllStampsDiffer stamp ys
AllStampsDiffer-permuted stamp = AllPairs-Permuted (λ x y. stamp x ≢ stamp y) (λ x y differ same. differ (sym same))
