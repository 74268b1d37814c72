use Rattle.builder_trait.proofs.StampLemmas.{outside_not_there}
use Rattle.builder_trait.proofs.rows.RowsPartPart.mark.Goals as goal

pub returns-clause-outside : goal.returns-clause-outside
returns-clause-outside g c outside = absurd (outside_not_there g.R.Item.Item.stamp c.args.item.now c.in-Some.place c.self.view_is c.in-Some.ensures.place.0 outside)
