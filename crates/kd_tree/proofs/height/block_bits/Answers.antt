use Rattle.kd_tree.specs.HeightLaws.{span-is}
use Rattle.kd_tree.proofs.height.block_bits.Goals as goal

pub returns-clause-bits : goal.returns-clause-bits
returns-clause-bits c = span-is c.args.level
