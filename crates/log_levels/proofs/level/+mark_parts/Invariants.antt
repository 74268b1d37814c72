use Rattle.std.proofs.Common.{length}
use Rattle.log_levels.proofs.level.+mark_parts.Given as goal

abbrev pub decreases-mark_parts : goal.decreases-mark_parts
decreases-mark_parts g l = length l.parts.now
