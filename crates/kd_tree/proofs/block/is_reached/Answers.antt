use Rattle.std.proofs.Common.{◌≡◌, ℕ, ◌-◌, ◌*◌, ◌/◌, ◌<◌, ◌≤◌, true, false, nat_le, arith, subst, ⊎_elim}
use Rattle.std.proofs.Math.Nat.{le-div_iff_mul-le}
use Rattle.std.proofs.lemmas.Bool.{cases_lt}
use Rattle.std.proofs.lemmas.Bool.Decides.{nat_tests}
use Rattle.kd_tree.specs.Heights.{span}
use Rattle.kd_tree.specs.HeightLaws.{span_some}
use Rattle.kd_tree.proofs.block.is_reached.Goals as goal

at_most : (a b : ℕ) → nat_le a b ≡ true → a ≤ b
at_most a b test = grind (arith, nat_tests)

more : (a b : ℕ) → nat_le a b ≡ false → b < a
more a b test = grind (arith, nat_tests)

reached : (place size len : ℕ) → 0 < size → 0 < len → place ≤ (len - 1) / size → place * size < len
reached place size len some many within = let low : place * size ≤ len - 1 = (le-div_iff_mul-le {k = size} {x = place} {y = len - 1} some).0 within in omega arith

beyond : (place size len : ℕ) → 0 < size → 0 < len → (len - 1) / size < place → len ≤ place * size
beyond place size len some many past =
    ⊎_elim
    (λ less.
    let within : place ≤ (len - 1) / size = (le-div_iff_mul-le {k = size} {x = place} {y = len - 1} some).1 (omega arith) in
    absurd (omega arith))
    (λ from. from)
    (cases_lt (place * size) len)

pub returns-clause-reached : goal.returns-clause-reached
returns-clause-reached c test =
    reached c.args.place (span c.args.level) c.args.len (omega (arith, span_some c.args.level)) c.requires.some
    (subst (λ s. c.args.place ≤ (c.args.len - 1) / s) c.block_bits.ensures.bits (at_most c.args.place _ test))

pub returns-clause-beyond : goal.returns-clause-beyond
returns-clause-beyond c test =
    beyond c.args.place (span c.args.level) c.args.len (omega (arith, span_some c.args.level)) c.requires.some
    (subst (λ s. (c.args.len - 1) / s < c.args.place) c.block_bits.ensures.bits (more c.args.place _ test))
