-- The highest of some levels that has a part.
use Rattle.std.proofs.Common.{◌≡◌, ℕ, ◌<◌, ◌∙◌, true, false, List, ◌∷◌, Option, Some, None, IfSome, nat_lt, refl, ap, sym, arith}
use Rattle.std.specs.Option.{is_some}
use Rattle.std.proofs.lemmas.Bool.Decides.{nat_tests}
use Rattle.log_levels.specs.Slots.{Slots}
use Rattle.log_levels.specs.Trades.{used_in}
use Rattle.log_method.specs.Retired.{used_of, top_of}

module _ {P Item : Type 0} (l : Slots P Item) (above : List (Slots P Item)) where
  pub some_used : (higher result : Option ℕ) → is_some higher ≡ nat_lt 0 (used_of above) → ((k : ℕ) → higher ≡ Some k → result ≡ Some k)
      → (higher ≡ None → is_some result ≡ nat_lt 0 (used_in l)) → is_some result ≡ nat_lt 0 (used_of (l ∷ above))
  some_used None result some up here =
      let nothing : used_of above ≡ 0 = grind (arith, nat_tests, some) in
      here refl ∙ ap (nat_lt 0) (omega (arith, nothing))
  some_used (Some k) result some up here =
      let there : 0 < used_of above = grind (arith, nat_tests, some) in
      let yes : nat_lt 0 (used_of (l ∷ above)) ≡ true = grind (arith, nat_tests, there) in ap is_some (up k refl) ∙ sym yes

  pub top_used : (higher result : Option ℕ) → is_some higher ≡ nat_lt 0 (used_of above) → ((k : ℕ) → higher ≡ Some k → result ≡ Some k)
      → (higher ≡ None → IfSome result (λ k. k ≡ l.level)) → IfSome higher (λ k. k ≡ top_of above) → IfSome result (λ k. k ≡ top_of (l ∷ above))
  top_used None result some up here found =
      let no : nat_lt 0 (used_of above) ≡ false = sym some in rw no (here refl)
  top_used (Some k) result some up here found =
      let yes : nat_lt 0 (used_of above) ≡ true = sym some in rw (up k refl, yes) found
