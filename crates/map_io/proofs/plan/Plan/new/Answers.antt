use Rattle.map_io.proofs.CallLaws.{RisesAfter-start}
use Rattle.std.proofs.Common.{arith}
use Rattle.map_io.proofs.plan.Plan.new.Goals as goal

pub invariant_of-result : goal.invariant_of-result
invariant_of-result c = (omega arith, RisesAfter-start _ c.requires.rising c.requires.numbered)
