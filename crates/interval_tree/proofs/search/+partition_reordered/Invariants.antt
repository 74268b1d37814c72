use Rattle.std.proofs.Common.{◌-◌}
use Rattle.interval_tree.proofs.search.+partition_reordered.Given as goal

abbrev pub decreases-partition_reordered : goal.decreases-partition_reordered
decreases-partition_reordered g l = l.high - l.low
