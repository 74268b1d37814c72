use Rattle.std.proofs.Common.{length}
use Rattle.priority_tree.proofs.leaf.+front_of.Given as goal

abbrev pub decreases-front_of : goal.decreases-front_of
decreases-front_of l = length l.slots.now
