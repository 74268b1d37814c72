use Rattle.std.proofs.Common.{length}
use Rattle.priority_tree.proofs.offering.+offer_slots.Given as goal

abbrev pub decreases-offer_slots : goal.decreases-offer_slots
decreases-offer_slots l = length l.slots.now
