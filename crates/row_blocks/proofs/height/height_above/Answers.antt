use Rattle.std.proofs.Common.{arith}
use Rattle.row_blocks.proofs.Blocks.{height_above}
use Rattle.row_blocks.proofs.height.height_above.Goals as goal

pub returns-clause-above : goal.returns-clause-above
returns-clause-above c = (height_above c.args.n (omega arith)).above

pub returns-clause-within : goal.returns-clause-within
returns-clause-within c = (height_above c.args.n (omega arith)).least 31 c.requires

pub returns-clause-least : goal.returns-clause-least
returns-clause-least c = (height_above c.args.n (omega arith)).least

pub returns-clause-lowest : goal.returns-clause-lowest
returns-clause-lowest c = (height_above c.args.n (omega arith)).lowest
