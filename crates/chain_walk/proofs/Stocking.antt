-- A stack that finds what its next ticks may take.
use Rattle.std.proofs.Common.{◌≡◌, ◌==◌, ℕ, ◌+◌, ◌^◌, ◌≤◌, ◌&&◌, Bool, true, false, if◌then◌else◌, nat_le, List, [], ◌∷◌, length, inl, inr, refl, ap, arith}
use Rattle.std.proofs.lemmas.Bool.{cases_lt}
use Rattle.std.proofs.lemmas.Bool.Decides.{nat_tests}
use Rattle.part_store.specs.Shelves.{one_if}
use Rattle.part_store.specs.Store.{Stored}
use Rattle.log_levels.specs.Slots.{Slots, ticks_of}
use Rattle.log_levels.specs.Trades.{is_due, due_at, wanted_at, IsQuietAbove, IsQuiet, IsStocked}

module _ {P Item : Type 0} where
  -- what is due within one tick is within two
  due_soon : (l : Slots P Item) → one_if (is_due 1 l) ≤ one_if (is_due 2 l)
  due_soon l = elim (cases_lt (ticks_of l + 2) (2 ^ l.level)) [
    | inl late ↦ let off : nat_le (2 ^ l.level) (ticks_of l + 1) ≡ false = grind (arith, nat_tests, late) in rw off (omega arith)
    | inr soon ↦ let on : nat_le (2 ^ l.level) (ticks_of l + 2) ≡ true = grind (arith, nat_tests, soon) in
        rw on (fits (nat_le (2 ^ l.level) (ticks_of l + 1) && (length l.parts == 1)))
  ]
    where
      fits : (b : Bool) → one_if b ≤ 1
      fits true = omega arith
      fits false = omega arith

  pub due_less : (k : ℕ) (levels : List (Slots P Item)) → due_at 1 k levels ≤ due_at 2 k levels
  due_less k [] = omega arith
  due_less k (l ∷ above) = omega (arith, there (k == (l.level + 1)) (due_soon l), due_less k above)
    where
      there : (b : Bool) {m n : ℕ} → m ≤ n → (if b then m else 0) ≤ (if b then n else 0)
      there true le = le
      there false le = omega arith

  pub wanted_less : (k : ℕ) (levels : List (Slots P Item)) → wanted_at 1 k levels ≤ wanted_at 2 k levels
  wanted_less k levels = omega (arith, both (k == 0), due_less k levels)
    where
      both : (b : Bool) → (if b then 1 else 0) ≤ (if b then 2 else 0)
      both true = omega arith
      both false = omega arith

  quiet_above : (l : Slots P Item) (above : List (Slots P Item)) → IsQuietAbove 2 l above → IsQuietAbove 1 l above
  quiet_above l [] quiet = none (is_due 1 l) (due_soon l)
    where
      none : (b : Bool) → one_if b ≤ one_if (is_due 2 l) → b ≡ false
      none false le = refl
      none true le = absurd (omega (arith, le, ap one_if quiet))
  quiet_above l (next ∷ above) quiet = quiet_above next above quiet

  pub quiet_less : (levels : List (Slots P Item)) → IsQuiet 2 levels → IsQuiet 1 levels
  quiet_less [] quiet = quiet
  quiet_less (l ∷ above) quiet = quiet_above l above quiet

  -- a stack that finds what two ticks may take finds what one may
  pub ticks_less : (levels : List (Slots P Item)) (store : Stored) → IsStocked levels store 2 → IsStocked levels store 1
  ticks_less levels store s = record {
    builders = λ k. omega (arith, s.builders k, wanted_less k levels);
    tables = λ k. omega (arith, s.tables k, due_less k levels);
    quiet = quiet_less levels s.quiet;
  }
