use Rattle.std.proofs.Common.{◌≡◌, ◌∙◌, ap, arith, length}
use Rattle.query_laws.specs.Sums.{capped_sum, capped_add}
use Rattle.builder_trait.specs.Rebuilding.{live_before}
use Rattle.builder_trait.proofs.RebuildingLemmas.{live_before-all}
use Rattle.index_tests.proofs.sums.FlatPartPairAnswersSumOfX.ask.Goals as goal

pub returns-clause-joined : goal.returns-clause-joined
returns-clause-joined g c =
    let ended : c.loop-k.k ≡ length c.args.self.now.items = omega arith in
    c.loop-k.invariant.joined
    ∙ ap (λ k. capped_add c.args.tally.now (capped_sum (λ pair. pair.x) (live_before k c.args.self.now))) ended
    ∙ ap (λ l. capped_add c.args.tally.now (capped_sum (λ pair. pair.x) l)) (live_before-all c.len-k-end.ensures.valid)
