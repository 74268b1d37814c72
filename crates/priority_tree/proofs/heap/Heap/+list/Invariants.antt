use Rattle.priority_tree.proofs.heap.Heap.+list.Given as goal

abbrev pub decreases-list : goal.decreases-list
decreases-list g l = l.height
