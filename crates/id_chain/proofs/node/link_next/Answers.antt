use Rattle.std.proofs.Common.{◌≡◌, Some, ◌∙◌, ap, sym}
use Rattle.id_chain.proofs.Links.{ChangesNode-write}
use Rattle.id_chain.proofs.node.link_next.Goals as goal

pub returns-in-Some-clause-nodes : goal.returns-in-Some-clause-nodes
returns-in-Some-clause-nodes g c =
    let is : c.args.from ≡ Some c.handle.inside.place = c.in-Some.is ∙ ap Some (sym c.handle.view_is) in
    ChangesNode-write _ _ _ _ _ is (c.requires _ is) c.set_next.ensures
