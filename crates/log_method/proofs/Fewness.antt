-- How much of one level a stack has and may want.
use Rattle.std.proofs.Common.{◌≡◌, ◌==◌, ℕ, zero, suc, ◌+◌, ◌<◌, ◌≤◌, Bool, true, false, List, [], ◌∷◌, All, length, get_or, inl, inr, refl, ap, arith}
use Rattle.std.specs.Option.{is_some}
use Rattle.std.proofs.lemmas.Bool.{cases_eq}
use Rattle.std.proofs.lemmas.Bool.Decides.{nat_tests}
use Rattle.std.proofs.lemmas.List.Elements.{All-head, All-tail}
use Rattle.builder_trait.specs.Builders.{PartProfile}
use Rattle.builder_trait.specs.Parts.{Contents}
use Rattle.part_store.specs.Shelves.{one_if}
use Rattle.log_levels.specs.Slots.{Slots}
use Rattle.log_levels.specs.Towers.{AreAllLevels}
use Rattle.log_levels.specs.Trades.{used_in, used_at, built_at, is_due, due_at}
use Rattle.log_method.specs.Stack.{AreInPlace}
use Rattle.log_method.specs.Few.{HaveFew}
use Rattle.log_method.proofs.FewParts.{three}
use Rattle.log_method.proofs.Forecasting.{none_at_zero, none_below, in_place}

one_fits : (b : Bool) → one_if b ≤ 1
one_fits true = omega arith
one_fits false = omega arith

module _ {P Item : Type 0} where
  -- below the lowest of some levels they have nothing
  used_below : (from k : ℕ) (levels : List (Slots P Item)) → AreInPlace from levels → k < from → used_at k levels ≡ 0
  used_below from k [] h low = refl
  used_below from k (l ∷ above) h low =
      let other : (k == l.level) ≡ false = grind (arith, nat_tests, h.0, low) in rw other (omega (arith, used_below (from + 1) k above h.1 (omega (arith, low))))

  built_below : (from k : ℕ) (levels : List (Slots P Item)) → AreInPlace from levels → k < from → built_at k levels ≡ 0
  built_below from k [] h low = refl
  built_below from k (l ∷ above) h low =
      let other : (k == l.level) ≡ false = grind (arith, nat_tests, h.0, low) in rw other (omega (arith, built_below (from + 1) k above h.1 (omega (arith, low))))

  -- of a level they have what stands at its place
  pub used_there : (from place k : ℕ) (levels : List (Slots P Item)) (l : Slots P Item) → AreInPlace from levels → place < length levels
      → l ≡ get_or levels place l → k ≡ from + place → used_at k levels ≡ used_in l
  used_there from place k [] l h within is at = absurd (omega (arith, within))
  used_there from zero k (x ∷ above) l h within is at =
      let same : l ≡ x = is in
      let here : (k == x.level) ≡ true = grind (arith, nat_tests, h.0, at) in
      rw here (omega (arith, used_below (from + 1) k above h.1 (omega (arith, at)), ap used_in same))
  used_there from (suc place) k (x ∷ above) l h within is at =
      let other : (k == x.level) ≡ false = grind (arith, nat_tests, h.0, at) in
      rw other (omega (arith, used_there (from + 1) place k above l h.1 (omega (arith, within)) is (omega (arith, at))))

  -- and above the highest nothing
  pub used_past : (from k : ℕ) (levels : List (Slots P Item)) → AreInPlace from levels → from + length levels ≤ k → used_at k levels ≡ 0
  used_past from k [] h high = refl
  used_past from k (l ∷ above) h high =
      let other : (k == l.level) ≡ false = grind (arith, nat_tests, h.0, high) in rw other (omega (arith, used_past (from + 1) k above h.1 (omega (arith, high))))

  used_few : (from k : ℕ) (levels : List (Slots P Item)) → AreInPlace from levels → All (λ l. length l.parts ≤ 3) levels → used_at k levels ≤ 4
  used_few from k [] h three = omega arith
  used_few from k (l ∷ above) h three = elim (cases_eq k l.level) [
    | inl same ↦ let here : (k == l.level) ≡ true = grind (arith, nat_tests, same) in
        rw here (omega (arith, used_below (from + 1) k above h.1 (omega (arith, same, h.0)), All-head (λ v. length v.parts ≤ 3) l above three, one_fits (is_some l.construction)))
    | inr apart ↦ let other : (k == l.level) ≡ false = grind (arith, nat_tests, apart) in
        rw other (omega (arith, used_few (from + 1) k above h.1 (All-tail (λ v. length v.parts ≤ 3) l above three)))
  ]

  pub built_few : (from k : ℕ) (levels : List (Slots P Item)) → AreInPlace from levels → built_at k levels ≤ 1
  built_few from k [] h = omega arith
  built_few from k (l ∷ above) h = elim (cases_eq k l.level) [
    | inl same ↦ let here : (k == l.level) ≡ true = grind (arith, nat_tests, same) in
        rw here (omega (arith, built_below (from + 1) k above h.1 (omega (arith, same, h.0)), one_fits (is_some l.construction)))
    | inr apart ↦ let other : (k == l.level) ≡ false = grind (arith, nat_tests, apart) in
        rw other (omega (arith, built_few (from + 1) k above h.1))
  ]

  due_few : (n from k : ℕ) (levels : List (Slots P Item)) → AreInPlace from levels → due_at n k levels ≤ 1
  due_few n from k [] h = omega arith
  due_few n from k (l ∷ above) h = elim (cases_eq k (l.level + 1)) [
    | inl same ↦ let here : (k == (l.level + 1)) ≡ true = grind (arith, nat_tests, same) in
        rw here (omega (arith, none_below n (from + 1) k above h.1 (omega (arith, same, h.0)), one_fits (is_due n l)))
    | inr apart ↦ let other : (k == (l.level + 1)) ≡ false = grind (arith, nat_tests, apart) in
        rw other (omega (arith, due_few n (from + 1) k above h.1))
  ]

  -- into the lowest level no construction runs, so it has three at most
  lowest_few : (l : Slots P Item) (above : List (Slots P Item)) → AreInPlace 0 (l ∷ above) → length l.parts ≤ 3 → is_some l.construction ≡ false
      → used_at 0 (l ∷ above) ≤ 3
  lowest_few l above h few none =
      let here : (0 == l.level) ≡ true = grind (arith, nat_tests, h.0) in
      rw (here, none) (omega (arith, few, used_below 1 0 above h.1 (omega arith)))

module _ {P Item : Type 0} (contents : P → Contents Item) (profile : PartProfile Item) where
  at_lowest : (levels : List (Slots P Item)) → AreAllLevels contents profile levels → used_at 0 levels ≤ 3
  at_lowest [] h = omega arith
  at_lowest (l ∷ above) h =
      lowest_few l above (in_place contents profile (l ∷ above) h)
      (All-head (λ v. length v.parts ≤ 3) l above (three contents profile (l ∷ above) h)) (ap is_some h.1)

  pub have_few : (levels : List (Slots P Item)) → AreAllLevels contents profile levels → HaveFew levels
  have_few levels h =
      let places = in_place contents profile levels h in
      record {
        builders = λ k. elim (cases_eq k 0) [
          | inl lowest ↦ rw lowest (omega (arith, at_lowest levels h, none_at_zero 2 levels))
          | inr above ↦ let other : (k == 0) ≡ false = grind (arith, nat_tests, above) in
              rw other (omega (arith, used_few 0 k levels places (three contents profile levels h), due_few 2 0 k levels places))
        ];
        tables = λ k. omega (arith, built_few 0 k levels places, due_few 2 0 k levels places);
      }
