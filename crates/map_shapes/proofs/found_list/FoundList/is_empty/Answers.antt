use Rattle.std.proofs.Common.{ℕ, ◌==◌, sym, ap, ◌∙◌}
use Rattle.map_shapes.proofs.FoundLists.{list-length}
use Rattle.map_shapes.proofs.found_list.FoundList.is_empty.Goals as goal

pub returns : goal.returns
returns c =
    c.is_empty.ensures
    ∙ ap (λ (n : ℕ). n == 0) (sym (list-length c.self.inside.shorts.items c.self.inside.far.items c.args.self.now c.self.invariant c.self.view_is))
