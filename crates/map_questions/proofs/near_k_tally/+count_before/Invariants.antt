use Rattle.std.proofs.Common.{◌-◌}
use Rattle.map_questions.proofs.near_k_tally.+count_before.Given as goal

abbrev pub decreases-count_before : goal.decreases-count_before
decreases-count_before l = l.high - l.low
