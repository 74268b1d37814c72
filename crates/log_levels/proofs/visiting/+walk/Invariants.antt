use Rattle.std.proofs.Common.{length}
use Rattle.log_levels.proofs.visiting.+walk.Given as goal

abbrev pub decreases-walk : goal.decreases-walk
decreases-walk g l = length l.above.now
