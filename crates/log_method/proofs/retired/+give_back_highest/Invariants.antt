use Rattle.std.proofs.Common.{length}
use Rattle.log_method.proofs.retired.+give_back_highest.Given as goal

abbrev pub decreases-give_back_highest : goal.decreases-give_back_highest
decreases-give_back_highest g l = length l.levels.now
