use Rattle.std.proofs.Common.{length}
use Rattle.log_levels.proofs.asking.+ask_levels.Given as goal

abbrev pub decreases-ask_levels : goal.decreases-ask_levels
decreases-ask_levels g l = length l.levels.now
