use Rattle.std.proofs.Common.{◌++◌, ap, sym, ◌∙◌, arith}
use Rattle.slab.specs.Slab.{get}
use Rattle.id_chain.specs.Chain.{is_linked, before, after}
use Rattle.id_chain.proofs.Cursors.{before-without, without_handle-other, unlinked-without, others-without, after-without, next-without}
use Rattle.id_chain.proofs.Chains.{opened, linked_present, IsNodeOf-linked, neighbours_stay, unlinked_at, Refines-walked, list_of-chain}
use Rattle.id_chain.proofs.chain.Chain.unlink.Goals as goal

pub remove-node-requires : goal.remove-node-requires
remove-node-requires g c =
    let chain = opened _ _ _ _ c.self.invariant (ap (λ v. v.entries) c.self.view_is) in
    linked_present _ _ _ _ c.handle.inside.place chain (ap (λ h. is_linked h c.args.self.now.entries) c.handle.view_is ∙ c.requires)

pub link_next-requires : goal.link_next-requires
link_next-requires g c =
    let chain = opened _ _ _ _ c.self.invariant (ap (λ v. v.entries) c.self.view_is) in
    let linked = ap (λ h. is_linked h c.args.self.now.entries) c.handle.view_is ∙ c.requires in
    (neighbours_stay _ _ _ _ _ c.handle.inside.place _ chain linked c.remove-node.ensures.value c.remove-node.ensures.updates).prev

pub link_prev-requires : goal.link_prev-requires
link_prev-requires g c =
    let chain = opened _ _ _ _ c.self.invariant (ap (λ v. v.entries) c.self.view_is) in
    let linked = ap (λ h. is_linked h c.args.self.now.entries) c.handle.view_is ∙ c.requires in
    (neighbours_stay _ _ _ _ _ c.handle.inside.place _ chain linked c.remove-node.ensures.value c.remove-node.ensures.updates).next _ c.link_next.ensures.nodes

pub invariant_of-self : goal.invariant_of-self
invariant_of-self g c =
    let chain = opened _ _ _ _ c.self.invariant (ap (λ v. v.entries) c.self.view_is) in
    let linked = ap (λ h. is_linked h c.args.self.now.entries) c.handle.view_is ∙ c.requires in
    Refines-walked _ _ _ _ (unlinked_at _ _ _ _ _ _ _ _ _ c.handle.inside.place _ _ chain linked c.remove-node.ensures.value c.remove-node.ensures.updates c.remove-node.ensures.len c.link_next.ensures.nodes c.link_prev.ensures.nodes (grind arith) c.link_next.ensures.first c.link_prev.ensures.last)

pub returns-clause-item : goal.returns-clause-item
returns-clause-item g c =
    let chain = opened _ _ _ _ c.self.invariant (ap (λ v. v.entries) c.self.view_is) in
    (IsNodeOf-linked _ _ _ _ c.args.handle c.remove-node.result chain c.requires (ap (get c.self.inside.nodes) (sym c.handle.view_is) ∙ c.remove-node.ensures.value)).item

pub returns-clause-entries : goal.returns-clause-entries
returns-clause-entries g c =
    let chain = opened _ _ _ _ c.self.invariant (ap (λ v. v.entries) c.self.view_is) in
    let linked = ap (λ h. is_linked h c.args.self.now.entries) c.handle.view_is ∙ c.requires in
    list_of-chain _ _ _ _ (unlinked_at _ _ _ _ _ _ _ _ _ c.handle.inside.place _ _ chain linked c.remove-node.ensures.value c.remove-node.ensures.updates c.remove-node.ensures.len c.link_next.ensures.nodes c.link_prev.ensures.nodes (grind arith) c.link_next.ensures.first c.link_prev.ensures.last)
    ∙ ap (λ h. before h c.args.self.now.entries ++ after h c.args.self.now.entries) c.handle.view_is

pub returns-clause-unlinked : goal.returns-clause-unlinked
returns-clause-unlinked g c =
    let chain = opened _ _ _ _ c.self.invariant (ap (λ v. v.entries) c.self.view_is) in
    ap (is_linked c.args.handle) (returns-clause-entries g c) ∙ unlinked-without c.args.handle c.args.self.now.entries chain.differ

pub returns-clause-others : goal.returns-clause-others
returns-clause-others g c = λ other apart.
    let chain = opened _ _ _ _ c.self.invariant (ap (λ v. v.entries) c.self.view_is) in
    let kept = others-without c.args.handle other c.args.self.now.entries apart in
    let front = ap (before other) (returns-clause-entries g c) ∙ before-without c.args.handle other c.args.self.now.entries apart in
    record {
      linked = rw (returns-clause-entries g c) kept.0;
      item = rw (returns-clause-entries g c) kept.1;
      front = front;
      rest = ap (after other) (returns-clause-entries g c) ∙ after-without c.args.handle other c.args.self.now.entries chain.differ apart;
      front_kept = λ none. front ∙ without_handle-other c.args.handle (before other c.args.self.now.entries) none;
    }

pub returns-clause-before_next : goal.returns-clause-before_next
returns-clause-before_next g c =
    let chain = opened _ _ _ _ c.self.invariant (ap (λ v. v.entries) c.self.view_is) in
    rw (returns-clause-entries g c) (next-without c.args.handle c.args.self.now.entries chain.differ).1

pub returns-clause-next : goal.returns-clause-next
returns-clause-next g c =
    let chain = opened _ _ _ _ c.self.invariant (ap (λ v. v.entries) c.self.view_is) in
    rw (returns-clause-entries g c) (next-without c.args.handle c.args.self.now.entries chain.differ).0
