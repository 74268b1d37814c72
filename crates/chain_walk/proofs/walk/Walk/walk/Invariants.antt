use Rattle.std.proofs.Common.{◌≡◌, ℕ, ◌+◌, ◌-◌, ◌*◌, ◌^◌, ◌<◌, ◌≤◌, ◌⊎◌, None}
use Rattle.id_chain.specs.StampsRise.{StampsRise}
use Rattle.log_levels.specs.Levels.{weight_of}
use Rattle.log_levels.specs.Cost.{IsWithin, quotas}
use Rattle.chain_walk.specs.Walk.{live_in, HandsOver, IsWalkOf}
use Rattle.chain_walk.specs.Memory.{LendsFew}
use Rattle.chain_walk.proofs.walk.Walk.walk.Given as goal

abbrev pub invariant-loop-taken : goal.invariant-loop-taken
invariant-loop-taken g l =
    let contents = g.B.Part.Part.contents in
    let stamp = g.B.Item.Item.stamp in
    record {
      chain : (stamps : ℕ) → StampsRise stamp 0 l.initial.chain.entries stamps
          → IsWalkOf contents stamp l.initial.self l.initial.chain.entries stamps → IsWalkOf contents stamp l.self l.initial.chain.entries stamps;
      taken : (l.self.cursor ≡ None) ⊎ (live_in contents l.self.stack ≡ live_in contents l.initial.self.stack + l._taken);
      handed : HandsOver contents l._taken l.initial.self l.self;
      memory : LendsFew l.initial.self.stack.levels l.initial.store l.self.stack.levels l.store;
      some_turns : l.initial.steps.turns + 3 * (live_in contents l.self.stack - live_in contents l.initial.self.stack) ≤ l.steps.turns;
      cost : (g' : ℕ) → weight_of l.self.stack.levels < 2 ^ (g' + 1)
          → let ticks = live_in contents l.self.stack - live_in contents l.initial.self.stack in
          IsWithin (ticks * quotas g.B.Builder.SLOPE g.B.Builder.BASE 0 g') (ticks * (2 * g')) (g.B.Part.Part.mark_touches g') l.initial.steps l.steps;
    }
