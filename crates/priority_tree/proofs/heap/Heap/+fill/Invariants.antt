use Rattle.priority_tree.proofs.heap.Heap.+fill.Given as goal

abbrev pub decreases-fill : goal.decreases-fill
decreases-fill g l = l.height
