use Rattle.std.proofs.Common.{arith, subst, sym}
use Rattle.priority_tree.specs.declared.rows.TopRows.{TopRows}
use Rattle.priority_tree.specs.Growing.{IsGrowing}
use Rattle.priority_tree.proofs.GrowthLemmas.{IsGrowing-next, IsGrowing-higher}
use Rattle.priority_tree.proofs.rows.TopRows.next_block.Goals as goal

pub returns-then-next-block_len-clause-growing : goal.returns-then-next-block_len-clause-growing
returns-then-next-block_len-clause-growing c part grown =
    subst (λ (rows : TopRows). IsGrowing part rows) (sym c.start_block.ensures)
    (IsGrowing-next part c.args.self.now grown c.requires.under_way c.requires.in_leaf (omega (arith, c.if-next-block_len.true, c.block_len.ensures)))

pub returns-else-next-block_len-clause-growing : goal.returns-else-next-block_len-clause-growing
returns-else-next-block_len-clause-growing c part grown =
    subst (λ (rows : TopRows). IsGrowing part rows) (sym c.start_block-else-next-block_len.ensures)
    (IsGrowing-higher part c.args.self.now grown c.requires.under_way c.requires.in_leaf (omega (arith, c.if-next-block_len.false, c.block_len.ensures)))
