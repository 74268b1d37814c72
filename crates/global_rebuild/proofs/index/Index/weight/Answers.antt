use Rattle.std.proofs.Common.{arith}
use Rattle.global_rebuild.proofs.Weights.{main_within}
use Rattle.global_rebuild.proofs.index.Index.weight.Goals as goal

pub returns-clause-light : goal.returns-clause-light
returns-clause-light g c = omega (arith, main_within c.self.view_is c.self.invariant, c.weight.ensures.value)
