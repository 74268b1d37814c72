-- A store, changed at one level.
use Rattle.std.proofs.Common.{◌≡◌, ℕ, ◌+◌, ◌-◌, ◌<◌, ◌≤◌, ◌==◌, true, false, zero, suc, List, [], ◌∷◌, ◌++◌, set, length, inl, inr, arith, ap, sym, refl, ◌∙◌}
use Rattle.std.proofs.lemmas.Grind.{get_or-set_at}
use Rattle.std.proofs.lemmas.List.{get_or-set_other, length-set}
use Rattle.std.proofs.lemmas.Bool.{cases_eq}
use Rattle.std.proofs.lemmas.Bool.Decides.{nat_tests}
use Rattle.part_store.specs.Shelves.{Shelved, shelf_at, kept_at, lent_at, held_at, Keeps, Lends, TakesBack, TakesUpTo, GivesUp, AreInPlace}

module _ (l : List Shelved) (i : ℕ) (s : Shelved) (within : i < length l) where
  abbrev at_set : (k : ℕ) → (k ≡ i) → shelf_at k (set l i s) ≡ s
  at_set k e = get_or-set_at l i k s (record { level = 0; kept = 0; lent = 0 }) e within

  abbrev at_other : (k : ℕ) → (k ≡ i → ⊥) → shelf_at k (set l i s) ≡ shelf_at k l
  at_other k e = get_or-set_other l i k s (record { level = 0; kept = 0; lent = 0 }) e

  pub in_place_set : AreInPlace l → s.level ≡ i → AreInPlace (set l i s)
  in_place_set places level k inside = elim (cases_eq k i) [
    | inl same ↦ ap (λ x. x.level) (at_set k same) ∙ (level ∙ sym same)
    | inr apart ↦ ap (λ x. x.level) (at_other k apart) ∙ places k (omega (arith, inside, length-set l i s))
  ]

  held_set : s.kept + s.lent ≡ held_at i l → Keeps l (set l i s)
  held_set same k = elim (cases_eq k i) [
    | inl e ↦ ap (λ x. x.kept + x.lent) (at_set k e) ∙ (same ∙ ap (λ j. held_at j l) (sym e))
    | inr apart ↦ ap (λ x. x.kept + x.lent) (at_other k apart)
  ]

  pub lends_set : s.kept + s.lent ≡ held_at i l → s.lent ≡ lent_at i l + 1 → Lends i l (set l i s)
  lends_set same more = record {
    keeps = held_set same;
    lent = λ k. elim (cases_eq k i) [
      | inl e ↦ let a = ap (λ x. x.lent) (at_set k e) in let b = ap (λ j. lent_at j l) e in let c : (k == i) ≡ true = grind (arith, nat_tests) in rw c (omega (arith, a, b, more))
      | inr apart ↦ let a = ap (λ x. x.lent) (at_other k apart) in let c : (k == i) ≡ false = grind (arith, nat_tests) in rw c (omega (arith, a))
    ];
  }

  pub takes_back_set : s.kept + s.lent ≡ held_at i l → s.lent + 1 ≡ lent_at i l → TakesBack i l (set l i s)
  takes_back_set same less = record {
    keeps = held_set same;
    lent = λ k. elim (cases_eq k i) [
      | inl e ↦ let a = ap (λ x. x.lent) (at_set k e) in let b = ap (λ j. lent_at j l) e in let c : (k == i) ≡ true = grind (arith, nat_tests) in rw c (omega (arith, a, b, less))
      | inr apart ↦ let a = ap (λ x. x.lent) (at_other k apart) in let c : (k == i) ≡ false = grind (arith, nat_tests) in rw c (omega (arith, a))
    ];
  }

  -- the store was the same of each level before its shelves were made
  pub takes_set : (old : List Shelved) (wanted : ℕ) → ((k : ℕ) → kept_at k l ≡ kept_at k old) → ((k : ℕ) → lent_at k l ≡ lent_at k old)
      → s.lent ≡ lent_at i l → kept_at i l ≤ s.kept → s.kept ≤ kept_at i l + (wanted - kept_at i l) → TakesUpTo i wanted old (set l i s)
  takes_set old wanted was_kept was_lent lent no_less no_more = record {
    lent = λ k. elim (cases_eq k i) [
      | inl e ↦ let a = ap (λ x. x.lent) (at_set k e) in let b = ap (λ j. lent_at j l) e in omega (arith, a, b, lent, was_lent k)
      | inr apart ↦ let a = ap (λ x. x.lent) (at_other k apart) in omega (arith, a, was_lent k)
    ];
    no_less = λ k. elim (cases_eq k i) [
      | inl e ↦ let a = ap (λ x. x.kept) (at_set k e) in let b = ap (λ j. kept_at j l) e in omega (arith, a, b, no_less, was_kept k)
      | inr apart ↦ let a = ap (λ x. x.kept) (at_other k apart) in omega (arith, a, was_kept k)
    ];
    no_more = λ k. elim (cases_eq k i) [
      | inl e ↦ let a = ap (λ x. x.kept) (at_set k e) in let b = ap (λ j. kept_at j l) e in let c : (k == i) ≡ true = grind (arith, nat_tests) in rw c (omega (arith, a, b, no_more, was_kept k))
      | inr apart ↦ let a = ap (λ x. x.kept) (at_other k apart) in let c : (k == i) ≡ false = grind (arith, nat_tests) in rw c (omega (arith, a, was_kept k))
    ];
  }

  pub frees_set : s.lent ≡ lent_at i l → s.kept ≡ kept_at i l - 1 → GivesUp i l (set l i s)
  frees_set lent less = record {
    lent = λ k. elim (cases_eq k i) [
      | inl e ↦ let a = ap (λ x. x.lent) (at_set k e) in let b = ap (λ j. lent_at j l) e in omega (arith, a, b, lent)
      | inr apart ↦ let a = ap (λ x. x.lent) (at_other k apart) in omega (arith, a)
    ];
    kept = λ k. elim (cases_eq k i) [
      | inl e ↦ let a = ap (λ x. x.kept) (at_set k e) in let b = ap (λ j. kept_at j l) e in let c : (k == i) ≡ true = grind (arith, nat_tests) in rw c (omega (arith, a, b, less))
      | inr apart ↦ let a = ap (λ x. x.kept) (at_other k apart) in let c : (k == i) ≡ false = grind (arith, nat_tests) in rw c (omega (arith, a))
    ];
  }

pub takes_none : (level wanted : ℕ) (l : List Shelved) → TakesUpTo level wanted l l
takes_none level wanted l = record { lent = λ k. refl; no_less = λ k. omega arith; no_more = λ k. omega arith }

module _ (s : Shelved) where
  pub kept_push : s.kept ≡ 0 → (l : List Shelved) (k : ℕ) → kept_at k (l ++ s ∷ []) ≡ kept_at k l
  kept_push none [] zero = none
  kept_push none [] (suc k) = refl
  kept_push none (x ∷ l) zero = refl
  kept_push none (x ∷ l) (suc k) = kept_push none l k

  pub lent_push : s.lent ≡ 0 → (l : List Shelved) (k : ℕ) → lent_at k (l ++ s ∷ []) ≡ lent_at k l
  lent_push none [] zero = none
  lent_push none [] (suc k) = refl
  lent_push none (x ∷ l) zero = refl
  lent_push none (x ∷ l) (suc k) = lent_push none l k

  pub in_place_push : (l : List Shelved) → AreInPlace l → s.level ≡ length l → AreInPlace (l ++ s ∷ [])
  in_place_push l places level k within =
      let h = from 0 l (omega (arith, level)) (λ j w. let q = places j w in omega (arith, q)) k within in omega (arith, h)
    where
      from : (n : ℕ) (l : List Shelved) → s.level ≡ n + length l → ((k : ℕ) → k < length l → (shelf_at k l).level ≡ n + k)
          → (k : ℕ) → k < length (l ++ s ∷ []) → (shelf_at k (l ++ s ∷ [])).level ≡ n + k
      from n [] e places zero within = e
      from n [] e places (suc k) within = absurd (omega (arith, within))
      from n (x ∷ l) e places zero within = places 0 (omega arith)
      from n (x ∷ l) e places (suc k) within = let h = from (n + 1) l (omega (arith, e)) (λ j w. let q = places (suc j) (omega (arith, w)) in omega (arith, q)) k (omega (arith, within)) in omega (arith, h)
