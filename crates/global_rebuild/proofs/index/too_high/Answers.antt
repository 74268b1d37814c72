use Rattle.std.proofs.Common.{ℕ, ◌+◌, ◌*◌, ◌^◌, ◌≤◌, ⊎_elim, inl, inr, pow_mono, arith}
use Rattle.std.proofs.lemmas.Bool.{cases_lt}
use Rattle.std.proofs.lemmas.Nat.{one_shl}
use Rattle.chain_walk.specs.Walk.{live_in}
use Rattle.global_rebuild.specs.Index.{IsCleared}
use Rattle.global_rebuild.proofs.Freeing.{anyway_none}
use Rattle.global_rebuild.proofs.index.too_high.Goals.{else-level-lt-BITS-via-then-level-lt-BITS+else-level-most, else-level-lt-BITS-via-else-level-lt-BITS}
use Rattle.global_rebuild.proofs.index.too_high.Goals as goal

pub returns-in_err-level-clause-none : goal.returns-in_err-level-clause-none
returns-in_err-level-clause-none g c =
    let none : IsCleared g.B.Part.Part.contents c.args.main.now c.args.shadow.now c.args.store.now = λ k high. inl (c.in_err-level.ensures.none k (omega arith)) in
    anyway_none _ none

pub returns-then-wanted-builders-clause-none : goal.returns-then-wanted-builders-clause-none
returns-then-wanted-builders-clause-none g c k high = ⊎_elim
    (λ above. inl (c.in_ok-level.ensures.found.above k (omega (arith, above))))
    (λ within. inr (c.in_ok-level.level, within, omega (arith, c.if-wanted-gt0.true, c.wanted-wanted.ensures.value)))
    (cases_lt c.in_ok-level.level k)

pub returns-then-level-most-clause-none : goal.returns-then-level-most-clause-none
returns-then-level-most-clause-none g c k high =
    let level : ℕ = c.in_ok-level.level in
    let small : 2 ^ level ≤ 2 * live_in g.B.Part.Part.contents c.args.main.now + 10 =
    omega (arith, one_shl level 128 c.if-level-lt-BITS.true, c.if-level-most.true, c.live.ensures, c.from.ensures) in
    ⊎_elim
    (λ above. inl (c.in_ok-level.ensures.found.above k (omega (arith, above))))
    (λ within. absurd (let more : 2 ^ k ≤ 2 ^ level = pow_mono {i = k} {j = level} within in omega (arith, more, high, small)))
    (cases_lt level k)

pub returns-clause-high : goal.returns-clause-high
returns-clause-high g c = elim c.else-level-lt-BITS.branch [
  | else-level-lt-BITS-via-then-level-lt-BITS+else-level-most w ↦
      omega (arith, one_shl c.in_ok-level.level 128 w.if-level-lt-BITS.true, w.if-level-most.false, c.live.ensures, c.from.ensures)
  | else-level-lt-BITS-via-else-level-lt-BITS w ↦
      let high : 2 ^ 128 ≤ 2 ^ c.in_ok-level.level = pow_mono {i = 128} {j = c.in_ok-level.level} (omega (arith, w.if-level-lt-BITS.false)) in
      omega (arith, high, c.live.ensures, c.live.type_inv)
]
