use Rattle.std.proofs.Common.{◌∙◌, ap}
use Rattle.query_laws.specs.declared.item.Order.TheVariants.{First}
use Rattle.ordered_merge.specs.Merging.{is_passed}
use Rattle.ordered_merge.proofs.Fronts.{Passed-at}
use Rattle.ordered_merge.proofs.merge.Merge.passed.Goals as goal

pub returns-clause-of_a : goal.returns-clause-of_a
returns-clause-of_a g c a b builder k merges at =
    Passed-at (g.B.Item.Item.before First) c.args.self.now.reached a.items merges.taking.passed k c.args.item.now at c.is_within.result
    (c.is_within.ensures ∙ ap (λ m. is_passed (g.B.Item.Item.before First) m.reached c.args.item.now) c.self.view_is)

pub returns-clause-of_b : goal.returns-clause-of_b
returns-clause-of_b g c a b builder k merges at =
    Passed-at (g.B.Item.Item.before First) c.args.self.now.reached b.items merges.taking.other_passed k c.args.item.now at c.is_within.result
    (c.is_within.ensures ∙ ap (λ m. is_passed (g.B.Item.Item.before First) m.reached c.args.item.now) c.self.view_is)
