use Rattle.chain_walk.proofs.Renewing.{one_delete}
use Rattle.chain_walk.proofs.walk.Walk.delete.Goals as goal

pub returns-clause-cost : goal.returns-clause-cost
returns-clause-cost g c g' light = one_delete g' (c.delete.ensures.cost.within g' light) (c.delete.ensures.few_asked g' light)
