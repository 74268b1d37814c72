use Rattle.std.proofs.Common.{ap, ◌∙◌}
use Rattle.range_tree.specs.Tree.{y_at}
use Rattle.range_tree.proofs.LeafLemmas.{y_at-opened}
use Rattle.range_tree.proofs.rows.RangeTree.put_leaf.Goals as goal

pub returns-then-place-eq0-clause-others : goal.returns-then-place-eq0-clause-others
returns-then-place-eq0-clause-others g c k other =
    ap (λ (row : _). y_at row.items k) c.push.ensures.appended
    ∙ y_at-opened c.args.self.now.leaves.items c.put.new.self c.args.y c.args.place c.requires.next c.if-place-eq0.true
    c.put.ensures.ys k other
