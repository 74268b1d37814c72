-- A binary search in a row, and in a rising list.
use Rattle.std.proofs.Common.{◌≡◌, ◌≢◌, ℕ, zero, suc, ◌+◌, ◌*◌, ◌<◌, ◌≤◌, ◌^◌, Bool, true, false, IsTrue, List, length, get_or, sym, ap, ◌∙◌, arith, subst, Some, slice_get, All, ⊎_elim, pow-suc, refl}
use Rattle.std.proofs.Math.Nat.{one-le-pow}
use Rattle.std.proofs.lemmas.Bool.{cases_lt, both_ways, false_from_ne_true}
use Rattle.std.proofs.lemmas.Option.{get_or_from_slice_get}
use Rattle.query_laws.specs.Orders.{IsStrictTotalOrder}
use Rattle.query_laws.specs.StepLedger.{Counts, one_touch, Spends}
use Rattle.query_laws.proofs.Counting.{Spends-one_touch, Spends-then, Spends-within}
use Rattle.builder_trait.specs.Parts.{IsRising, OwnsStamp}
use Rattle.builder_trait.specs.Search.{PassesUpTo}

module _ {T : Type 0} (passes : T → Bool) (entries : List T) (low high m : ℕ) (up_to_some : PassesUpTo passes entries low high)
    (from : low ≤ m) (to : m < high) (x : T) (read : slice_get entries m ≡ Some x) where
  -- up to an entry that passes, all pass
  pub passes_up_to : passes x ≡ true → (k : ℕ) (d : T) → low ≤ k → k < m + 1 → IsTrue (passes (get_or entries k d))
  passes_up_to passed k d above below =
      ⊎_elim
      (λ earlier. up_to_some k m d above earlier to here)
      (λ same. let e : m ≡ k = omega arith in subst (λ j. IsTrue (passes (get_or entries j d))) e here)
      (cases_lt k m)
    where
      here : IsTrue (passes (get_or entries m d))
      here = subst (λ y. IsTrue (passes y)) (sym (get_or_from_slice_get entries m x d read)) passed

  -- from an entry that fails on, all fail
  pub fails_from : passes x ≡ false → (k : ℕ) (d : T) → m ≤ k → k < high → passes (get_or entries k d) ≡ false
  fails_from failed k d above below =
      ⊎_elim
      (λ later. false_from_ne_true (passes (get_or entries k d))
      (λ passed. both_ways (passes (get_or entries m d)) here (up_to_some m k d from later below passed)))
      (λ same. let e : m ≡ k = omega arith in subst (λ j. passes (get_or entries j d) ≡ false) e here)
      (cases_lt m k)
    where
      here : passes (get_or entries m d) ≡ false
      here = subst (λ y. passes y ≡ false) (sym (get_or_from_slice_get entries m x d read)) failed

module _ {Item : Type 0} {stamp : Item → ℕ} {before : Item → Item → Bool} (order : IsStrictTotalOrder stamp before)
    (xs : List Item) (item : Item) (rising : IsRising before xs) where
  -- in a rising list, what stands before an item that stands before the given one does too
  pub PassesUpTo-rising : (low high : ℕ) → high ≤ length xs → PassesUpTo (λ x. before x item) xs low high
  PassesUpTo-rising low high within k l d above less below passed =
      order.transitive (get_or xs k d) (get_or xs l d) item (rising k l d less (omega arith)) passed

  module _ (k high : ℕ) (whole : high ≡ length xs) (earlier : (j : ℕ) (d : Item) → 0 ≤ j → j < k → IsTrue (before (get_or xs j d) item))
      (later : (j : ℕ) (d : Item) → k ≤ j → j < high → before (get_or xs j d) item ≡ false) (owns : OwnsStamp stamp item xs) where
    -- the owner of the stamp is nowhere but where the search ends
    nowhere_else : (j : ℕ) (d : Item) → j < length xs → j ≢ k → stamp (get_or xs j d) ≢ stamp item
    nowhere_else j d inside other same =
        let is : get_or xs j d ≡ item = owns j d inside same in
        let no : before item item ≡ false = order.irreflexive item in
        ⊎_elim
        (λ less. both_ways (before item item) no (subst (λ z. IsTrue (before z item)) is (earlier j d (omega arith) less)))
        (λ from.
        let here : IsTrue (before (get_or xs k d) item) = subst (λ z. IsTrue (before (get_or xs k d) z)) is (rising k j d (past j other from) inside) in
        both_ways (before (get_or xs k d) item) (later k d (omega arith) (omega (arith, whole))) here)
        (cases_lt j k)
      where
        past : (j : ℕ) → j ≢ k → k ≤ j → k < j
        past j other from = omega arith

    -- it isn't in the list at all
    pub All-missing : (y : Item) → slice_get xs k ≡ Some y → stamp y ≢ stamp item → All (λ x. stamp x ≢ stamp item) xs
    All-missing y at differs j d inside same =
        ⊎_elim
        (λ less. nowhere_else j d inside (omega arith) same)
        (λ from. ⊎_elim
        (λ more. nowhere_else j d inside (omega arith) same)
        (λ up_to. let e : j ≡ k = omega arith in
        let is : get_or xs j d ≡ y = ap (λ i. get_or xs i d) e ∙ get_or_from_slice_get xs k y d at in
        differs (ap stamp (sym is) ∙ same))
        (cases_lt k j))
        (cases_lt j k)

-- a touch, and then a search of at most half of what is left
pub Spends-halved : {old mid new : Counts} (h size rest : ℕ) → mid ≡ one_touch old → 0 < size → size < 2 ^ h → rest + rest ≤ size
    → ((k : ℕ) → rest < 2 ^ k → Spends mid new 0 0 k) → Spends old new 0 0 h
Spends-halved zero size rest touched some small half later = absurd (omega arith)
Spends-halved {old} {mid} {new} (suc k) size rest touched some small half later =
    let double : 2 ^ suc k ≡ 2 ^ k * 2 = pow-suc 2 k in
    Spends-within (Spends-then (subst (λ s. Spends old s 0 0 1) (sym touched) (Spends-one_touch old)) (later k (omega arith)))
    (omega arith) (omega arith) (omega arith)

-- a search of at most `2 ^ h` entries
pub Spends-searched : {old new : Counts} (h size : ℕ) → size ≤ 2 ^ h → ((k : ℕ) → size < 2 ^ k → Spends old new 0 0 k)
    → Spends old new 0 0 (h + 1)
Spends-searched h size small searched =
    let double : 2 ^ suc h ≡ 2 ^ h * 2 = pow-suc 2 h in
    let some : 1 ≤ 2 ^ h = one-le-pow h 2 (omega arith) in
    Spends-within (searched (suc h) (omega arith)) refl refl (omega arith)
