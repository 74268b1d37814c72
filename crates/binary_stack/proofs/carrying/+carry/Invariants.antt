use Rattle.std.proofs.Common.{length}
use Rattle.binary_stack.proofs.carrying.+carry.Given as goal

abbrev pub decreases-carry : goal.decreases-carry
decreases-carry g l = length l.levels.now
