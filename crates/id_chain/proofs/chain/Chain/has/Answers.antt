use Rattle.std.proofs.Common.{ap, ◌∙◌}
use Rattle.id_chain.specs.Chain.{is_linked}
use Rattle.id_chain.proofs.Chains.{opened, has_is}
use Rattle.id_chain.proofs.chain.Chain.has.Goals as goal

pub returns : goal.returns
returns g c =
    let chain = opened _ _ _ _ c.self.invariant (ap (λ v. v.entries) c.self.view_is) in
    has_is _ _ _ _ c.handle.inside.place c.contains.result chain c.contains.ensures
    ∙ ap (λ h. is_linked h c.args.self.now.entries) c.handle.view_is
