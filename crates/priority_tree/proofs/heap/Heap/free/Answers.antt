use Rattle.priority_tree.proofs.LeafLemmas.{Permuted-leaf}
use Rattle.priority_tree.proofs.heap.Heap.free.Goals as goal

pub returns-clause-taken : goal.returns-clause-taken
returns-clause-taken g c =
    Permuted-leaf c.args.self.now.leaves.items c.args.l c.entry_mut.result.now c.free.new.self c.args.entry.now c.entry_mut.ensures.read
    c.entry_mut.ensures.read_or c.free.ensures c.requires.heap c.requires.there
