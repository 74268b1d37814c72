use Rattle.std.proofs.Common.{◌-◌}
use Rattle.range_tree.specs.Heights.{rows_to}
use Rattle.range_tree.proofs.rows.RangeTree.+list_blocks.Given as goal

abbrev pub decreases-list_blocks : goal.decreases-list_blocks
decreases-list_blocks g l = rows_to l.self.now.height - l.span.row
