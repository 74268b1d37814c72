use Rattle.log_method.proofs.Taking.{lent_on}
use Rattle.index_tests.proofs.stacks.give_up_all.Goals as goal

pub loop-given-preserved : goal.loop-given-preserved
loop-given-preserved g c = lent_on _ _ _ _ c.give_up.ensures.trades c.loop-given.invariant
