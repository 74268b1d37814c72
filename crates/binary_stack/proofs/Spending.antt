-- What calls cost one after the other.
use Rattle.std.proofs.Common.{◌≡◌, ℕ, ◌+◌, ◌-◌, ◌*◌, ◌≤◌, refl, subst, arith}
use Rattle.query_laws.specs.StepLedger.{Counts, Spends}
use Rattle.query_laws.proofs.Counting.{Spends-then, Spends-within}

-- so many marks, and then more
pub Spends-marks : {old mid new : Counts} (t : ℕ) → Spends old mid 0 (mid.marks - old.marks) ((mid.marks - old.marks) * t)
    → Spends mid new 0 (new.marks - mid.marks) ((new.marks - mid.marks) * t) → Spends old new 0 (new.marks - old.marks) ((new.marks - old.marks) * t)
Spends-marks {old} {mid} {new} t first second =
    let n = mid.marks - old.marks in
    let m = new.marks - mid.marks in
    let sum : n + m ≡ new.marks - old.marks = omega (arith, first.marks_spent, second.marks_spent) in
    let shared : n * t + m * t ≡ (n + m) * t = grind arith in
    subst (λ j. Spends old new 0 j (j * t)) sum (Spends-within (Spends-then first second) refl refl (omega (arith, shared)))

-- the marks of one call
pub Spends-as_marks : {old new : Counts} (n t : ℕ) → Spends old new 0 n t → (u : ℕ) → t ≤ n * u → Spends old new 0 (new.marks - old.marks) ((new.marks - old.marks) * u)
Spends-as_marks {old} {new} n t spent u few =
    let same : n ≡ new.marks - old.marks = omega (arith, spent.marks_spent) in
    subst (λ j. Spends old new 0 j (j * u)) same (Spends-within spent refl refl few)

-- turns that were added to those spent, and then more
pub Spends-risen : {old mid new : Counts} (a b c : ℕ) → a ≤ b → b ≤ c → Spends old mid (b - a) 0 (16 * (b - a))
    → Spends mid new (c - b) 0 (16 * (c - b)) → Spends old new (c - a) 0 (16 * (c - a))
Spends-risen {old} {mid} {new} a b c up further first second =
    let sum : b - a + (c - b) ≡ c - a = omega (arith, up, further) in
    let touches : 16 * (b - a) + 16 * (c - b) ≤ 16 * (c - a) = omega (arith, up, further) in
    subst (λ n. Spends old new n 0 (16 * (c - a))) sum (Spends-within (Spends-then first second) refl refl touches)

-- turns that were added to those spent, as the ledger has them
pub Spends-as_turns : {old new : Counts} (n : ℕ) → Spends old new n 0 (16 * n)
    → Spends old new (new.turns - old.turns) 0 (16 * (new.turns - old.turns))
Spends-as_turns {old} {new} n spent =
    let same : n ≡ new.turns - old.turns = omega (arith, spent.turns_spent) in
    subst (λ k. Spends old new k 0 (16 * k)) same spent
