use Rattle.std.proofs.Common.{◌-◌}
use Rattle.builder_trait.proofs.search.+partition_point.Given as goal

abbrev pub decreases-partition_point : goal.decreases-partition_point
decreases-partition_point g l = l.high - l.low
