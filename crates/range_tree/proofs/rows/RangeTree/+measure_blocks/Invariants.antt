use Rattle.std.proofs.Common.{◌-◌}
use Rattle.range_tree.specs.Heights.{rows_to}
use Rattle.range_tree.proofs.rows.RangeTree.+measure_blocks.Given as goal

abbrev pub decreases-measure_blocks : goal.decreases-measure_blocks
decreases-measure_blocks g l = rows_to l.self.now.height - l.span.row
