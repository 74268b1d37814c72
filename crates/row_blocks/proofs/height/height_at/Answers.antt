use Rattle.std.proofs.Common.{arith}
use Rattle.row_blocks.proofs.Blocks.{height_at-is}
use Rattle.row_blocks.proofs.height.height_at.Goals as goal

pub returns-clause-value : goal.returns-clause-value
returns-clause-value c = omega (arith, height_at-is c.args.end)
