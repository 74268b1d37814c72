use Rattle.std.proofs.Common.{ap}
use Rattle.id_chain.proofs.Chains.{opened, IsChainOf-room, Refines-walked, list_of-chain}
use Rattle.id_chain.proofs.chain.Chain.reserve.Goals as goal

pub invariant_of-self : goal.invariant_of-self
invariant_of-self g c =
    let chain = opened _ _ _ _ c.self.invariant (ap (λ v. v.entries) c.self.view_is) in
    Refines-walked _ _ _ _ (IsChainOf-room _ _ _ _ _ c.reserve.ensures.rest_kept chain)

pub returns-clause-entries : goal.returns-clause-entries
returns-clause-entries g c =
    let chain = opened _ _ _ _ c.self.invariant (ap (λ v. v.entries) c.self.view_is) in
    list_of-chain _ _ _ _ (IsChainOf-room _ _ _ _ _ c.reserve.ensures.rest_kept chain)
