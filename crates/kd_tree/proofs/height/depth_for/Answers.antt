use Rattle.std.proofs.Common.{arith}
use Rattle.kd_tree.specs.HeightLaws.{covered}
use Rattle.kd_tree.proofs.height.depth_for.Goals as goal

pub returns-clause-covers : goal.returns-clause-covers
returns-clause-covers c = covered c.args.n c.height_of.result c.max.result c.height_of.ensures.above (omega (arith, c.max.ensures, c.saturating_sub.ensures))
