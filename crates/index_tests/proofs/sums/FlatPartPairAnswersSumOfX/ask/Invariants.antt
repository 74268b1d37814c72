use Rattle.std.proofs.Common.{◌≡◌, ◌*◌, ◌<◌, ◌^◌}
use Rattle.query_laws.specs.Sums.{capped_sum, capped_add}
use Rattle.query_laws.specs.StepLedger.{Spends}
use Rattle.builder_trait.specs.Rebuilding.{live_before}
use Rattle.index_tests.proofs.sums.FlatPartPairAnswersSumOfX.ask.Given as goal

abbrev pub invariant-loop-k : goal.invariant-loop-k
invariant-loop-k g l = record {
  owned : l.tally < 2 ^ 64;
  joined : l.tally ≡ capped_add l.initial.tally (capped_sum (λ pair. pair.x) (live_before l.k l.self));
  read : 0 < l.k → l.initial.steps.touches < l.steps.touches;
  spent : Spends l.initial.steps l.steps 0 0 (4 * l.k);
}
