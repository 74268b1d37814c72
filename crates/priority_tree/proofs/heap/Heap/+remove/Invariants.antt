use Rattle.priority_tree.proofs.heap.Heap.+remove.Given as goal

abbrev pub decreases-remove : goal.decreases-remove
decreases-remove g l = l.height
