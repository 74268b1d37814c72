-- What binary searches in both orders need and find.
use Rattle.std.proofs.Common.{◌≡◌, ℕ, zero, suc, ◌==◌, ◌+◌, ◌*◌, ◌^◌, ◌<◌, ◌≤◌, ◌&&◌, ◌||◌, Bool, true, false, nat_lt, nat_le, IsTrue, List, length, get_or, Some, slice_get, refl, arith, subst, pow-suc, ⊎_elim}
use Rattle.std.proofs.Math.Nat.{one-le-pow}
use Rattle.std.proofs.lemmas.Bool.{cases_lt, both_ways}
use Rattle.std.proofs.lemmas.Bool.Decides.{nat_tests}
use Rattle.std.proofs.lemmas.Option.{get_or_from_slice_get, slice_get_within}
use Rattle.query_laws.specs.Orders.{IsStrictTotalOrder}
use Rattle.query_laws.specs.StepLedger.{Counts, Spends}
use Rattle.query_laws.specs.Permuted.{Permuted, nothing, same_head, swapped_heads, composed}
use Rattle.query_laws.specs.declared.item.Order.TheVariants.{First, Second}
use Rattle.query_laws.proofs.Counting.{Spends-then, Spends-within}
use Rattle.builder_trait.specs.Parts.{IsRising}
use Rattle.builder_trait.specs.Search.{PassesUpTo}
use Rattle.map_shapes.specs.declared.segment.Segment.{Segment}
use Rattle.interval_tree.specs.Rows.{before}
use Rattle.interval_tree.specs.Queries.{has_begun, has_ended}

-- what stands before another has no greater first number
first-from_before : (x y p q s t : ℕ) → (nat_lt x y || ((x == y) && (nat_lt p q || ((p == q) && nat_lt s t)))) ≡ true → x ≤ y
first-from_before x y p q s t ahead = grind (arith, nat_tests)

begun-down : (x a b : ℕ) → a ≤ b → IsTrue (nat_le b x) → IsTrue (nat_le a x)
begun-down x a b le passed = grind (arith, nat_tests)

ended-down : (x a b : ℕ) → a ≤ b → IsTrue (nat_lt b x) → IsTrue (nat_lt a x)
ended-down x a b le passed = grind (arith, nat_tests)

-- before a segment that has begun all have, in the first order
pub PassesUpTo-begun : (x : ℕ) (segments : List Segment) (high : ℕ) → IsRising (before First) segments → high ≤ length segments
    → PassesUpTo (has_begun x) segments 0 high
PassesUpTo-begun x segments high rising within k l d above less below passed =
    let a = get_or segments k d in
    let b = get_or segments l d in
    begun-down x a.lo b.lo (first-from_before a.lo b.lo a.hi b.hi a.stamp b.stamp (rising k l d less (omega arith))) passed

-- before one that has ended all have, in the second order
pub PassesUpTo-ended : (x : ℕ) (segments : List Segment) (high : ℕ) → IsRising (before Second) segments → high ≤ length segments
    → PassesUpTo (has_ended x) segments 0 high
PassesUpTo-ended x segments high rising within k l d above less below passed =
    let a = get_or segments k d in
    let b = get_or segments l d in
    ended-down x a.hi b.hi (first-from_before a.hi b.hi a.lo b.lo a.stamp b.stamp (rising k l d less (omega arith))) passed

module _ {Item : Type 0} where
  -- what stands in one of two lists with the same items stands in the other
  pub found_in : {xs ys : List Item} → Permuted xs ys → (k : ℕ) (x : Item) → slice_get xs k ≡ Some x → (j : ℕ) × (slice_get ys j ≡ Some x)
  found_in nothing k x at = absurd cc
  found_in (same_head y p) zero x at = (0, at)
  found_in (same_head y p) (suc k) x at = let rest = found_in p k x at in (suc rest.0, rest.1)
  found_in (swapped_heads y z zs) zero x at = (1, at)
  found_in (swapped_heads y z zs) (suc zero) x at = (0, at)
  found_in (swapped_heads y z zs) (suc (suc k)) x at = (suc (suc k), at)
  found_in (composed p q) k x at = let middle = found_in p k x at in found_in q middle.0 x middle.1

  module _ {stamp : Item → ℕ} {before : Item → Item → Bool} (order : IsStrictTotalOrder stamp before) (xs : List Item) (item : Item)
      (rising : IsRising before xs) (k : ℕ) where
    -- in a rising list an item stands where the search for those before it ends
    pub found_at : (earlier : (j : ℕ) (d : Item) → 0 ≤ j → j < k → IsTrue (before (get_or xs j d) item))
        → (later : (j : ℕ) (d : Item) → k ≤ j → j < length xs → before (get_or xs j d) item ≡ false)
        → (j : ℕ) → slice_get xs j ≡ Some item → k ≡ j
    found_at earlier later j at =
        let inside = slice_get_within xs j item at in
        let here = get_or_from_slice_get xs j item item at in
        ⊎_elim
        (λ less. let itself : IsTrue (before item item) = subst (λ y. IsTrue (before y item)) here (earlier j item (omega arith) less) in
        absurd (both_ways (before item item) (order.irreflexive item) itself))
        (λ from. ⊎_elim
        (λ more. let ahead : IsTrue (before (get_or xs k item) item) = subst (λ y. IsTrue (before (get_or xs k item) y)) here (rising k j item more inside) in
        absurd (both_ways (before (get_or xs k item) item) (later k item (omega arith) (omega arith)) ahead))
        (λ up_to. omega arith)
        (cases_lt k j))
        (cases_lt j k)

  -- in a rising list an item stands once
  pub same_place : {stamp : Item → ℕ} {before : Item → Item → Bool} → IsStrictTotalOrder stamp before → (xs : List Item) → IsRising before xs
      → (j k : ℕ) (item : Item) → slice_get xs j ≡ Some item → slice_get xs k ≡ Some item → j ≡ k
  same_place {before = before} order xs rising j k item at_j at_k =
      let here = get_or_from_slice_get xs j item item at_j in
      let there = get_or_from_slice_get xs k item item at_k in
      let clash : IsTrue (before item item) → ⊥ = λ itself. both_ways (before item item) (order.irreflexive item) itself in
      ⊎_elim
      (λ less. absurd (clash (subst (λ y. IsTrue (before y item)) here (subst (λ y. IsTrue (before (get_or xs j item) y)) there (rising j k item less (slice_get_within xs k item at_k))))))
      (λ from. ⊎_elim
      (λ more. absurd (clash (subst (λ y. IsTrue (before y item)) there (subst (λ y. IsTrue (before (get_or xs k item) y)) here (rising k j item more (slice_get_within xs j item at_j))))))
      (λ up_to. omega arith)
      (cases_lt k j))
      (cases_lt j k)

-- two touches, and then a search of at most half of what is left
pub Spends-halved_twice : {old mid new : Counts} (h size rest : ℕ) → Spends old mid 0 0 2 → 0 < size → size < 2 ^ h → rest + rest ≤ size
    → ((k : ℕ) → rest < 2 ^ k → Spends mid new 0 0 (2 * k)) → Spends old new 0 0 (2 * h)
Spends-halved_twice zero size rest touched some small half later = absurd (omega arith)
Spends-halved_twice (suc k) size rest touched some small half later =
    let double : 2 ^ suc k ≡ 2 ^ k * 2 = pow-suc 2 k in
    Spends-within (Spends-then touched (later k (omega arith))) (omega arith) (omega arith) (omega arith)

-- a search of at most 2 ^ h segments, with two touches a step
pub Spends-searched_twice : {old new : Counts} (h size : ℕ) → size ≤ 2 ^ h → ((k : ℕ) → size < 2 ^ k → Spends old new 0 0 (2 * k))
    → Spends old new 0 0 (2 * (h + 1))
Spends-searched_twice h size small searched =
    let double : 2 ^ suc h ≡ 2 ^ h * 2 = pow-suc 2 h in
    let some : 1 ≤ 2 ^ h = one-le-pow h 2 (omega arith) in
    Spends-within (searched (suc h) (omega arith)) refl refl (omega arith)
