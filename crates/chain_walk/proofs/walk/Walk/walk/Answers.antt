use Rattle.std.proofs.Common.{◌≡◌, ℕ, ◌+◌, ◌-◌, ◌*◌, ◌≤◌, ◌∙◌, ⊎_elim, inl, inr, ap, subst, arith}
use Rattle.log_levels.specs.Cost.{IsWithin, quotas}
use Rattle.query_laws.specs.StepLedger.{Counts}
use Rattle.log_levels.proofs.Spending.{IsWithin-ticks}
use Rattle.chain_walk.proofs.Lending.{lends-then, lent_after}
use Rattle.chain_walk.proofs.Handing.{handed_then, lighter}
use Rattle.chain_walk.proofs.walk.Walk.walk.Goals as goal

-- some items are handed over, and then some more
within_then : (l m n turns marks : ℕ) {touches : ℕ} {old mid new : Counts} → l ≤ m → m ≤ n → IsWithin ((m - l) * turns) ((m - l) * marks) touches old mid
    → IsWithin ((n - m) * turns) ((n - m) * marks) touches mid new → IsWithin ((n - l) * turns) ((n - l) * marks) touches old new
within_then l m n turns marks {touches} {old} {mid} {new} some more first second =
    let all : m - l + (n - m) ≡ n - l = omega (arith, some, more) in
    subst (λ k. IsWithin (k * turns) (k * marks) touches old new) all (IsWithin-ticks (m - l) (n - m) turns marks first second)

pub take_next-requires-clause-lent : goal.take_next-requires-clause-lent
take_next-requires-clause-lent g c = lent_after c.loop-taken.invariant.memory c.requires.lent

pub loop-taken-preserved : goal.loop-taken-preserved
loop-taken-preserved g c =
    let before = c.loop-taken.invariant in
    let e = c.take_next.ensures in
    record {
      chain = λ stamps rise h. e.chain stamps rise (before.chain stamps rise h);
      taken = ⊎_elim (λ none. inl (ap (λ r. r.cursor) (e.ended none) ∙ none))
          (λ so_far. ⊎_elim (λ none. inl none) (λ one. inr (omega (arith, one, so_far))) c.in_ok-take_next.ensures.taken) before.taken;
      handed = handed_then before.handed e.handed (omega arith);
      memory = lends-then before.memory e.memory;
      some_turns = omega (arith, before.some_turns, e.some_turns, before.handed.no_fewer, e.handed.no_fewer);
      cost = λ g' light. within_then _ _ _ (quotas g.B.Builder.SLOPE g.B.Builder.BASE 0 g') (2 * g') before.handed.no_fewer e.handed.no_fewer (before.cost g' (lighter e.handed light)) (e.cost g' light);
    }

pub returns-in_err-take_next-clause-cost : goal.returns-in_err-take_next-clause-cost
returns-in_err-take_next-clause-cost g c g' light =
    let before = c.loop-taken.invariant in
    let e = c.take_next.ensures in
    within_then _ _ _ (quotas g.B.Builder.SLOPE g.B.Builder.BASE 0 g') (2 * g') before.handed.no_fewer e.handed.no_fewer (before.cost g' (lighter e.handed light)) (e.cost g' light)

pub returns-in_err-take_next-clause-handed : goal.returns-in_err-take_next-clause-handed
returns-in_err-take_next-clause-handed g c =
    handed_then c.loop-taken.invariant.handed c.take_next.ensures.handed (omega (arith, c.loop-taken-test.true))

pub returns-in_err-take_next-clause-memory : goal.returns-in_err-take_next-clause-memory
returns-in_err-take_next-clause-memory g c = lends-then c.loop-taken.invariant.memory c.take_next.ensures.memory

pub returns-in_err-take_next-clause-some_turns : goal.returns-in_err-take_next-clause-some_turns
returns-in_err-take_next-clause-some_turns g c =
    let before = c.loop-taken.invariant in
    let e = c.take_next.ensures in
    omega (arith, before.some_turns, e.some_turns, before.handed.no_fewer, e.handed.no_fewer)
