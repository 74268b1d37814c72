use Rattle.std.proofs.Common.{◌^◌, ◌≤◌, ◌∙◌, Some, length, refl, ap, sym, subst, arith}
use Rattle.query_laws.proofs.Counting.{Spends-nothing, Spends-within}
use Rattle.builder_trait.specs.Parts.{OwnsStamp, has_stamp, without}
use Rattle.binary_stack.specs.Levels.{parts_in, live_in, items_in, IsSameLevel}
use Rattle.binary_stack.proofs.Levels.{below_power}
use Rattle.binary_stack.proofs.Marked.{IsSameLevel-marked, IsSameLevel-refl}
use Rattle.binary_stack.proofs.Spending.{Spends-as_marks}
use Rattle.binary_stack.proofs.marking.mark_level.Goals as goal

pub mark-requires : goal.mark-requires
mark-requires g c =
    subst (λ l. OwnsStamp g.P.Item.Item.stamp c.args.item.now (items_in g.P.Part.contents l)) c.in-Some.is c.requires

pub returns-in-Some-clause-found : goal.returns-in-Some-clause-found
returns-in-Some-clause-found g c =
    let contents = g.P.Part.contents in
    let stamp = g.P.Item.Item.stamp in
    c.mark.ensures.found ∙ sym (ap (λ l. has_stamp stamp (stamp c.args.item.now) (live_in contents l)) c.in-Some.is)

pub returns-in-Some-clause-live : goal.returns-in-Some-clause-live
returns-in-Some-clause-live g c =
    let contents = g.P.Part.contents in
    let stamp = g.P.Item.Item.stamp in
    c.mark.ensures.live ∙ sym (ap (λ l. without stamp (stamp c.args.item.now) (live_in contents l)) c.in-Some.is)

pub returns-in-Some-clause-same : goal.returns-in-Some-clause-same
returns-in-Some-clause-same g c =
    let contents = g.P.Part.contents in
    let stamp = g.P.Item.Item.stamp in
    let p = c.in-Some.part in
    let marked = IsSameLevel-marked contents stamp (stamp c.args.item.now) p c.mark.new.self c.mark.ensures.marked c.mark.ensures.live in
    subst (λ l. IsSameLevel contents l (Some c.mark.new.self)) (sym c.in-Some.is) marked

pub returns-in-Some-clause-few : goal.returns-in-Some-clause-few
returns-in-Some-clause-few g c =
    let n = length (g.P.Part.contents c.in-Some.part).items in
    omega (arith, (c.mark.ensures.cost n (below_power n)).marks_spent, ap parts_in c.in-Some.is)

pub returns-in-Some-clause-cost : goal.returns-in-Some-clause-cost
returns-in-Some-clause-cost g c k fits =
    let small = subst (λ l. length (items_in g.P.Part.contents l) ≤ 2 ^ k) c.in-Some.is fits in
    Spends-as_marks 1 (g.P.Part.mark_touches k) (c.mark.ensures.cost k small) (g.P.Part.mark_touches k) (omega arith)

pub returns-in-None : goal.returns-in-None
returns-in-None g c =
    let contents = g.P.Part.contents in
    let stamp = g.P.Item.Item.stamp in
    let s = stamp c.args.item.now in
    let is = c.in-None.is in
    record {
      found = sym (ap (λ l. has_stamp stamp s (live_in contents l)) is);
      live = ap (live_in contents) is ∙ sym (ap (λ l. without stamp s (live_in contents l)) is);
      same = IsSameLevel-refl contents c.args.level.now;
      few = omega arith;
      cost = λ k fits. Spends-within (Spends-nothing c.args.steps.now) refl (omega arith) (omega arith);
    }
