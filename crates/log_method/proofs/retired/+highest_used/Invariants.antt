use Rattle.std.proofs.Common.{length}
use Rattle.log_method.proofs.retired.+highest_used.Given as goal

abbrev pub decreases-highest_used : goal.decreases-highest_used
decreases-highest_used g l = length l.levels.now
