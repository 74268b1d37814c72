use Rattle.std.proofs.Common.{ap}
use Rattle.std.specs.Prelude.{not}
use Rattle.kd_tree.proofs.block.Block.of.Goals as goal

pub returns-else-not-is_empty-clause-far : goal.returns-else-not-is_empty-clause-far
returns-else-not-is_empty-clause-far c spot has within = (ap not (c.is_empty.ensures spot has), c.distance.ensures.nearest spot has)
