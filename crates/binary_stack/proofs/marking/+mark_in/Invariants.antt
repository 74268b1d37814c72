use Rattle.std.proofs.Common.{length}
use Rattle.binary_stack.proofs.marking.+mark_in.Given as goal

abbrev pub decreases-mark_in : goal.decreases-mark_in
decreases-mark_in g l = length l.levels.now
