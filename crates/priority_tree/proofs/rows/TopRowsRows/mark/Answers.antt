use Rattle.std.proofs.Common.{length, refl, arith}
use Rattle.std.proofs.lemmas.Option.{slice_get_within}
use Rattle.builder_trait.specs.Parts.{Contents}
use Rattle.map_shapes.specs.declared.point.Point.{Point}
use Rattle.priority_tree.proofs.GrowthLemmas.{block_of_shape}
use Rattle.priority_tree.proofs.Marking.{few_points, among_tree, owned_in_tree, IsTree-marked}
use Rattle.priority_tree.proofs.rows.TopRowsRows.mark.Goals as goal

pub overflow_cast-entry : goal.overflow_cast-entry
overflow_cast-entry g c =
    let part : Contents Point = record c.args.points.now { flags = c.requires.behind.flags } in
    omega (arith, few_points part c.args.self.now.heap c.args.self.now.height c.requires.behind.done, slice_get_within c.args.points.now.items c.args.place c.args.item.now c.requires.there)

pub remove-requires-clause-block : goal.remove-requires-clause-block
remove-requires-clause-block g c = block_of_shape (length c.args.points.now.items) c.args.self.now.heap c.args.self.now.height c.requires.behind.done.shape

pub remove-requires-clause-there : goal.remove-requires-clause-there
remove-requires-clause-there g c =
    let part : Contents Point = record c.args.points.now { flags = c.requires.behind.flags } in
    among_tree part c.args.self.now.heap c.args.self.now.height c.args.place c.args.item.now c.requires.behind.done c.requires.there c.requires.behind.was_live

pub remove-requires-clause-owned : goal.remove-requires-clause-owned
remove-requires-clause-owned g c =
    let part : Contents Point = record c.args.points.now { flags = c.requires.behind.flags } in
    owned_in_tree part c.args.self.now.heap c.args.self.now.height c.args.place c.args.item.now c.requires.behind.done c.requires.there

pub returns-clause-done : goal.returns-clause-done
returns-clause-done g c =
    let part : Contents Point = record c.args.points.now { flags = c.requires.behind.flags } in
    IsTree-marked c.args.points.now part c.args.self.now.heap c.remove.new.self c.args.self.now.height c.args.place c.args.item.now c.requires.behind.done refl
    c.requires.behind.died c.requires.behind.was_live c.remove.ensures.heap c.remove.ensures.taken c.remove.ensures.same
