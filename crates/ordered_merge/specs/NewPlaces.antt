-- New places in four bytes.
use Rattle.std.specs.Prelude.{◌≡◌, ℕ, ◌==◌, ◌-◌, ◌^◌, Bool, true, false, Option, None, Some, if◌then◌else◌, refl}
use Rattle.std.proofs.Common.{sym}
use Rattle.std.proofs.lemmas.Bool.{eqb-true}

-- the place that a number notes: the greatest number of four bytes notes none
abbrev pub noted : ℕ → Option ℕ
noted n = if n == 2 ^ 32 - 1 then None else Some n

-- and the number that notes it
abbrev pub note : Option ℕ → ℕ
note None = 2 ^ 32 - 1
note (Some n) = n

pub note-noted : (n : ℕ) → note (noted n) ≡ n
note-noted n = by (n == 2 ^ 32 - 1) refl
  where
    by : (b : Bool) → (n == 2 ^ 32 - 1) ≡ b → note (if b then None else Some n) ≡ n
    by true test = sym (eqb-true n (2 ^ 32 - 1) test)
    by false test = refl
