use Rattle.std.proofs.Common.{◌≡◌, ◌+◌, ◌^◌, ◌∙◌, Contains, length, refl, ap, sym, subst, arith}
use Rattle.binary_stack.specs.Levels.{parts_of, live_items, HaveAtMost, AreMarked}
use Rattle.binary_stack.proofs.Counters.{IsCounter-marked, IsReady-marked}
use Rattle.binary_stack.proofs.Levels.{take_whole}
use Rattle.binary_stack.proofs.Marked.{owned_live, one_fewer, length-same, weight-same}
use Rattle.binary_stack.proofs.stack.BinaryStack.delete.Goals as goal

pub mark_in-requires-clause-apart : goal.mark_in-requires-clause-apart
mark_in-requires-clause-apart g c = rw c.deref_mut.ensures.value c.self.invariant.0.apart

pub mark_in-requires-clause-owner : goal.mark_in-requires-clause-owner
mark_in-requires-clause-owner g c =
    rw c.deref_mut.ensures.value (owned_live g.B.Part.Part.contents g.B.Item.Item.stamp c.self.inside.levels.items c.args.item.now
    c.self.invariant.0.apart (rw (← c.self.view_is) at c.requires))

pub overflow_sub-self : goal.overflow_sub-self
overflow_sub-self g c =
    omega (arith, c.self.invariant.2, ap (λ s. length (live_items g.B.Part.Part.contents s.levels)) c.self.view_is, c.requires.1)

pub invariant_of-self : goal.invariant_of-self
invariant_of-self g c =
    let contents = g.B.Part.Part.contents in
    let stamp = g.B.Item.Item.stamp in
    let h = c.self.invariant in
    let old = c.self.inside.levels.items in
    let new = c.mark_in.new.levels in
    let value = c.deref_mut.ensures.value in
    let m = subst (λ ls. AreMarked contents stamp (stamp c.args.item.now) ls new) value c.mark_in.ensures.marked in
    let there : Contains (live_items contents old) c.args.item.now = rw (← c.self.view_is) at c.requires in
    let live : length (live_items contents new) + 1 ≡ length (live_items contents old) =
    ap (λ l. length l + 1) m.live ∙ one_fewer contents stamp old c.args.item.now h.0.apart there in
    let weight = weight-same contents old new m.same in
    rw (take_whole new old c.self.inside.levels.len (omega (arith, length-same contents old new m.same, c.deref_mut.ensures.len, ap length value))) (
      IsCounter-marked h.0 m.same refl refl,
      omega (arith, weight, h.1),
      omega (arith, live, h.2),
      omega (arith, live, h.2, weight, h.3),
      λ one. IsReady-marked (h.4 one) m.same,
    )

pub returns-clause-marked : goal.returns-clause-marked
returns-clause-marked g c =
    let contents = g.B.Part.Part.contents in
    let stamp = g.B.Item.Item.stamp in
    let old = c.self.inside.levels.items in
    let new = c.mark_in.new.levels in
    let value = c.deref_mut.ensures.value in
    let h = c.mark_in.ensures.marked in
    let same = length-same contents c.deref_mut.result.now new h.same in
    let m = subst (λ ls. AreMarked contents stamp (stamp c.args.item.now) ls new) (value ∙ ap (λ s. s.levels) c.self.view_is) h in
    rw (take_whole new old c.self.inside.levels.len (omega (arith, same, c.deref_mut.ensures.len))) m

pub returns-clause-few : goal.returns-clause-few
returns-clause-few g c = omega (arith, c.mark_in.ensures.few, ap parts_of c.deref_mut.ensures.value, ap (λ s. parts_of s.levels) c.self.view_is)

pub returns-clause-cost : goal.returns-clause-cost
returns-clause-cost g c k fits =
    c.mark_in.ensures.cost k (subst (HaveAtMost g.B.Part.Part.contents (2 ^ k)) (sym (c.deref_mut.ensures.value ∙ ap (λ s. s.levels) c.self.view_is)) fits)
