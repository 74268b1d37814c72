use Rattle.std.proofs.Common.{rules, ◌≡◌, ◌-◌, ◌*◌, ap, subst, length, arith}
use Rattle.log_levels.specs.Cost.{IsWithin, quotas}
use Rattle.log_method.proofs.Forecasting.{when_ok}
use Rattle.chain_walk.specs.Walk.{live_in}
use Rattle.late_index.specs.Late.{goal_of, IsShortOf}
use Rattle.late_index.proofs.Catching.{owns_more, kept_late, readied, handed_kept, holds_then}
use Rattle.late_index.proofs.late.Late.prepare.Goals as goal

pub invariant_of-self : goal.invariant_of-self
invariant_of-self g c = owns_more c.self.invariant c.prepare.new.self.stack c.prepare.new.store c.prepare.ensures.memory

pub returns-clause-chain : goal.returns-clause-chain
returns-clause-chain g c stamps h =
    let late = rw (← c.self.view_is) at (c.catch_up.ensures.chain stamps h) in
    kept_late c.prepare.new.store c.prepare.ensures.kept late

pub returns-clause-prepared : goal.returns-clause-prepared
returns-clause-prepared g c =
    let late = rw (← c.self.view_is) at (c.catch_up.ensures.chain c.requires.chain.0 c.requires.chain.1) in
    let told : IsShortOf g.B.Part.Part.contents (goal_of c.catch_up.new.self) c.catch_up.new.self c.args.chain.now.entries = search rules in
    let short = rw (← c.self.view_is) at told in
    when_ok c.prepare.result (readied c.prepare.new.store c.prepare.ensures.kept late short) c.prepare.ensures.stocked

pub returns-clause-handed : goal.returns-clause-handed
returns-clause-handed g c =
    let handed = rw (← c.self.view_is) at c.catch_up.ensures.handed in handed_kept handed c.prepare.ensures.kept

pub returns-clause-held : goal.returns-clause-held
returns-clause-held g c =
    let held = rw (← c.self.view_is) at c.catch_up.ensures.held in holds_then held c.prepare.ensures.memory.no_less

pub returns-clause-some_turns : goal.returns-clause-some_turns
returns-clause-some_turns g c =
    omega (arith, c.catch_up.ensures.some_turns, ap length c.prepare.ensures.kept.live, ap (λ l. live_in g.B.Part.Part.contents l.walk.stack) c.self.view_is)

pub returns-clause-cost : goal.returns-clause-cost
returns-clause-cost g c g' light =
    let live = live_in g.B.Part.Part.contents in
    let was = live c.args.self.now.walk.stack in
    let turns = quotas g.B.Builder.SLOPE g.B.Builder.BASE 0 g' in
    let same : live c.catch_up.new.self.walk.stack ≡ live c.prepare.new.self.stack =
    omega (arith, ap length c.prepare.ensures.kept.live, ap (λ l. live_in g.B.Part.Part.contents l.walk.stack) c.self.view_is) in
    subst (λ n. IsWithin ((n - was) * turns) ((n - was) * (2 * g')) (g.B.Part.Part.mark_touches g') c.args.steps.now c.catch_up.new.steps) same
    (c.catch_up.ensures.cost g' light)
