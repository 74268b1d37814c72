use Rattle.std.proofs.Common.{◌≡◌, ◌-◌, suc, arith, rules}
use Rattle.query_laws.proofs.Permutations.{Permuted-refl}
use Rattle.priority_tree.specs.Tree.{entries_in}
use Rattle.priority_tree.proofs.AtHeights.{child_block, child_hole, filled_heap, filled_entries, filled_same}
use Rattle.priority_tree.proofs.heap.Heap.+fill.Goals as goal

pub fill-requires : goal.fill-requires
fill-requires g t c =
    let e : c.args.height ≡ suc (c.args.height - 1) = omega arith in
    let block = child_block c.args.self.now c.pull-child.new.self c.args.height (c.args.height - 1) c.args.start c.pull-child.result c.pull-child.ensures.pulled e c.requires.block in
    let hole = child_hole c.args.self.now c.pull-child.new.self c.args.height (c.args.height - 1) c.args.start c.pull-child.result c.pull-child.ensures.pulled in
    search rules

pub returns-then-height-gt0-clause-heap : goal.returns-then-height-gt0-clause-heap
returns-then-height-gt0-clause-heap g t c =
    filled_heap c.args.self.now c.pull-child.new.self c.args.height (c.args.height - 1) c.args.start c.pull-child.result c.pull-child.ensures.pulled
    c.fill.new.self c.fill.ensures.heap c.fill.ensures.same_entries c.fill.ensures.same

pub returns-then-height-gt0-clause-same_entries : goal.returns-then-height-gt0-clause-same_entries
returns-then-height-gt0-clause-same_entries g t c =
    filled_entries c.args.self.now c.pull-child.new.self c.args.height (c.args.height - 1) c.args.start c.pull-child.result c.pull-child.ensures.pulled
    c.fill.new.self c.fill.ensures.heap c.fill.ensures.same_entries c.fill.ensures.same

pub returns-then-height-gt0-clause-same : goal.returns-then-height-gt0-clause-same
returns-then-height-gt0-clause-same g t c =
    filled_same c.args.self.now c.pull-child.new.self c.args.height (c.args.height - 1) c.args.start c.pull-child.result c.pull-child.ensures.pulled
    c.fill.new.self c.fill.ensures.heap c.fill.ensures.same_entries c.fill.ensures.same

pub returns-else-height-gt0-clause-same_entries : goal.returns-else-height-gt0-clause-same_entries
returns-else-height-gt0-clause-same_entries g t c = Permuted-refl (entries_in c.args.self.now c.args.height c.args.start)
