use Rattle.std.proofs.Common.{◌≡◌, ◌-◌, ◌*◌}
use Rattle.query_laws.specs.StepLedger.{Spends}
use Rattle.builder_trait.specs.Builders.{sealed_with}
use Rattle.builder_trait.proofs.builder.Builder.turns.Given as goal

abbrev pub invariant-loop-taken : goal.invariant-loop-taken
invariant-loop-taken g l = record {
  turned : g.Self.Builder.progress l.self ≡ sealed_with ((g.Self.Builder.progress l.initial.self).left - l._taken) (g.Self.Builder.progress l.initial.self);
  spent : Spends l.initial.steps l.steps l._taken 0 (16 * l._taken);
}
