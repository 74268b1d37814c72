use Rattle.std.proofs.Common.{take, ap, ◌∙◌}
use Rattle.map_shapes.specs.Founds.{founds_in}
use Rattle.map_shapes.proofs.FoundLists.{founds-take}
use Rattle.map_shapes.proofs.found_list.FoundList.truncate.Goals as goal

pub returns : goal.returns
returns c =
    (λ i. founds_in (c.truncate.ensures.items i) (c.truncate-2.ensures.items i))
    ∙ founds-take c.args.len c.self.inside.shorts.items c.self.inside.far.items
    ∙ ap (take c.args.len) c.self.view_is
