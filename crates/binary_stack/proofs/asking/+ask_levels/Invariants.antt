use Rattle.std.proofs.Common.{length}
use Rattle.binary_stack.proofs.asking.+ask_levels.Given as goal

abbrev pub decreases-ask_levels : goal.decreases-ask_levels
decreases-ask_levels g l = length l.levels.now
