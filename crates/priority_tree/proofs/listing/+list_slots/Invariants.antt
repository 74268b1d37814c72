use Rattle.std.proofs.Common.{length}
use Rattle.priority_tree.proofs.listing.+list_slots.Given as goal

abbrev pub decreases-list_slots : goal.decreases-list_slots
decreases-list_slots l = length l.slots.now
