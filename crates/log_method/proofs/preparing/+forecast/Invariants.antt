use Rattle.std.proofs.Common.{length}
use Rattle.log_method.proofs.preparing.+forecast.Given as goal

abbrev pub decreases-forecast : goal.decreases-forecast
decreases-forecast g l = length l.levels.now
