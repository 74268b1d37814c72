use Rattle.std.proofs.Common.{sym, subst}
use Rattle.builder_trait.specs.Builders.{with_put}
use Rattle.query_laws.specs.declared.item.Order.TheVariants.{First}
use Rattle.range_tree.specs.declared.rows.RangeTree.{RangeTree}
use Rattle.range_tree.specs.Growing.{IsPutting}
use Rattle.range_tree.proofs.Putting.{IsPutting-first}
use Rattle.range_tree.proofs.rows.RangeTreeRows.put_first.Goals as goal

pub returns-clause-putting : goal.returns-clause-putting
returns-clause-putting g c =
    let b = c.args.points.now in
    subst (λ (r : RangeTree). IsPutting (with_put First c.args.item.now c.args.place b) r) (sym c.put_leaf.ensures.kept)
    (IsPutting-first b c.args.self.now c.args.item.now c.args.place c.requires.putting c.requires.valid c.requires.fits c.push.new.self c.put_leaf.new.self.leaves
    c.push.ensures.appended c.put_leaf.ensures.own c.put_leaf.ensures.live c.put_leaf.ensures.others c.put_leaf.ensures.bits c.put_leaf.ensures.many
    c.put_leaf.ensures.room)
