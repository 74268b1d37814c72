use Rattle.priority_tree.proofs.heap.Heap.+offer.Given as goal

abbrev pub decreases-offer : goal.decreases-offer
decreases-offer g l = l.height
