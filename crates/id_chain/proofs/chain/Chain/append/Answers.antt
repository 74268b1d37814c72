use Rattle.std.proofs.Common.{[], ap, ◌∙◌, arith}
use Rattle.id_chain.specs.Chain.{is_linked, before, after}
use Rattle.id_chain.proofs.Cursors.{before-append, after-append, others-append, linked-append}
use Rattle.id_chain.proofs.Entries.{before-split}
use Rattle.id_chain.proofs.Chains.{opened, present_last, appended_at, appended_new, Refines-walked, list_of-chain}
use Rattle.id_chain.proofs.chain.Chain.append.Goals as goal

pub link_next-requires : goal.link_next-requires
link_next-requires g c =
    let chain = opened _ _ _ _ c.self.invariant (ap (λ v. v.entries) c.self.view_is) in
    present_last _ _ _ _ _ _ _ chain c.insert_reserved-place.ensures.was_vacant c.insert_reserved-place.ensures.updates

pub invariant_of-self : goal.invariant_of-self
invariant_of-self g c =
    let chain = opened _ _ _ _ c.self.invariant (ap (λ v. v.entries) c.self.view_is) in
    Refines-walked _ _ _ _ (appended_at _ _ _ _ _ _ _ _ _ c.args.item _ chain c.insert_reserved-place.ensures.was_vacant c.insert_reserved-place.ensures.updates (grind arith) c.insert_reserved-place.ensures.len (omega arith) c.link_next.ensures.nodes c.link_next.ensures.first)

pub returns-clause-new_handle : goal.returns-clause-new_handle
returns-clause-new_handle g c =
    let chain = opened _ _ _ _ c.self.invariant (ap (λ v. v.entries) c.self.view_is) in
    appended_new _ _ _ _ _ _ chain c.insert_reserved-place.ensures.was_vacant (omega arith)

pub returns-clause-entries : goal.returns-clause-entries
returns-clause-entries g c =
    let chain = opened _ _ _ _ c.self.invariant (ap (λ v. v.entries) c.self.view_is) in
    list_of-chain _ _ _ _ (appended_at _ _ _ _ _ _ _ _ _ c.args.item _ chain c.insert_reserved-place.ensures.was_vacant c.insert_reserved-place.ensures.updates (grind arith) c.insert_reserved-place.ensures.len (omega arith) c.link_next.ensures.nodes c.link_next.ensures.first)

pub returns-clause-others : goal.returns-clause-others
returns-clause-others g c = λ other linked.
    let kept = others-append other c.args.self.now.entries _ linked in
    record {
      linked = rw (returns-clause-entries g c) kept.0;
      item = rw (returns-clause-entries g c) kept.1;
      front = ap (before other) (returns-clause-entries g c) ∙ before-append other c.args.self.now.entries _ linked;
      rest = ap (after other) (returns-clause-entries g c) ∙ after-append other c.args.self.now.entries _ linked;
    }

pub returns-clause-linked : goal.returns-clause-linked
returns-clause-linked g c = ap (is_linked _) (returns-clause-entries g c) ∙ linked-append c.args.self.now.entries _

pub returns-clause-before_new : goal.returns-clause-before_new
returns-clause-before_new g c = ap (before _) (returns-clause-entries g c) ∙ before-split _ _ c.args.self.now.entries [] (returns-clause-new_handle g c)
