use Rattle.std.proofs.Common.{sym, ◌∙◌}
use Rattle.map_shapes.proofs.FoundLists.{list-length}
use Rattle.map_shapes.proofs.found_list.FoundList.len.Goals as goal

pub returns-clause-count : goal.returns-clause-count
returns-clause-count c =
    c.len.ensures.value ∙ sym (list-length c.self.inside.shorts.items c.self.inside.far.items c.args.self.now c.self.invariant c.self.view_is)
