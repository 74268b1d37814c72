use Rattle.std.proofs.Common.{ap, sym, ◌∙◌}
use Rattle.slab.specs.Slab.{get}
use Rattle.id_chain.specs.Chain.{is_linked}
use Rattle.id_chain.proofs.Chains.{opened, linked_present, IsNodeOf-linked}
use Rattle.id_chain.proofs.chain.Chain.node.Goals as goal

pub index-requires : goal.index-requires
index-requires g c =
    let chain = opened _ _ _ _ c.self.invariant (ap (λ v. v.entries) c.self.view_is) in
    linked_present _ _ _ _ c.handle.inside.place chain (ap (λ h. is_linked h c.args.self.now.entries) c.handle.view_is ∙ c.requires)

pub returns-clause-node : goal.returns-clause-node
returns-clause-node g c =
    let chain = opened _ _ _ _ c.self.invariant (ap (λ v. v.entries) c.self.view_is) in
    IsNodeOf-linked _ _ _ _ c.args.handle c.index.result.now chain c.requires (ap (get c.self.inside.nodes) (sym c.handle.view_is) ∙ c.index.ensures)

pub returns-clause-differ : goal.returns-clause-differ
returns-clause-differ g c = (opened _ _ _ _ c.self.invariant (ap (λ v. v.entries) c.self.view_is)).differ
