use Rattle.std.proofs.Common.{◌≡◌, ◌+◌, ◌∙◌, ap, arith, refl, subst, sym}
use Rattle.query_laws.proofs.Counting.{Spends-nothing, Spends-then, Spends-within}
use Rattle.rank_rows.specs.Ranked.{Ranked, marked, next_place, IsPlace}
use Rattle.range_tree.specs.Heights.{rows_to}
use Rattle.range_tree.specs.Marks.{IsMarkedTo}
use Rattle.range_tree.proofs.Falls.{IsMarkedTo-begun, IsPlace-here, live_at_here, weight_at_here, IsMarkedTo-next, AreRows-marked}
use Rattle.range_tree.proofs.marking.mark_down.Goals as goal

pub loop-row-init : goal.loop-row-init
loop-row-init g c = record {
  same = refl;
  marked = λ part place carried falling. IsMarkedTo-begun part place c.args.height c.args.weight c.args.k c.args.ranks.now carried falling;
  spent = Spends-within (Spends-nothing c.args.steps.now) refl refl (omega arith);
}

pub mark-requires-clause-place : goal.mark-requires-clause-place
mark-requires-clause-place g c =
    let part = c.requires.falling.0 in
    let place = c.requires.falling.1 in
    let carried = c.requires.falling.2 in
    let falling = c.requires.falling.3 in
    IsPlace-here part place c.args.height c.args.weight c.args.k c.args.ranks.now carried falling c.loop-row.row c.loop-row.k (omega (arith, c.rows_for-row-end.ensures))
    c.loop-row.ranks c.loop-row.invariant.same (c.loop-row.invariant.marked part place carried falling)

pub mark-requires-clause-live : goal.mark-requires-clause-live
mark-requires-clause-live g c =
    let part = c.requires.falling.0 in
    let place = c.requires.falling.1 in
    let carried = c.requires.falling.2 in
    let falling = c.requires.falling.3 in
    live_at_here part place c.args.height c.args.weight c.args.k c.args.ranks.now carried falling c.loop-row.row c.loop-row.k (omega (arith, c.rows_for-row-end.ensures))
    c.loop-row.ranks c.loop-row.invariant.same (c.loop-row.invariant.marked part place carried falling)

pub mark-requires-clause-weight : goal.mark-requires-clause-weight
mark-requires-clause-weight g c =
    let part = c.requires.falling.0 in
    let place = c.requires.falling.1 in
    let carried = c.requires.falling.2 in
    let falling = c.requires.falling.3 in
    weight_at_here part place c.args.height c.args.weight c.args.k c.args.ranks.now carried falling c.loop-row.row c.loop-row.k (omega (arith, c.rows_for-row-end.ensures))
    c.loop-row.ranks c.loop-row.invariant.same (c.loop-row.invariant.marked part place carried falling)

pub next-k-requires : goal.next-k-requires
next-k-requires g c =
    let part = c.requires.falling.0 in
    let place = c.requires.falling.1 in
    let carried = c.requires.falling.2 in
    let falling = c.requires.falling.3 in
    let here = IsPlace-here part place c.args.height c.args.weight c.args.k c.args.ranks.now carried falling c.loop-row.row c.loop-row.k (omega (arith, c.rows_for-row-end.ensures))
    c.loop-row.ranks c.loop-row.invariant.same (c.loop-row.invariant.marked part place carried falling) in
    subst (λ v. IsPlace v c.loop-row.row c.loop-row.k) (sym c.mark.ensures.marked) (record { there = here.there; within = here.within; high = here.high })

pub loop-row-preserved : goal.loop-row-preserved
loop-row-preserved g c =
    let row = c.loop-row.row in
    let k = c.loop-row.k in
    let height_is = ap (λ (v : Ranked). v.height) c.loop-row.invariant.same in
    let high = c.requires.falling.3.rows_are.same_height in
    let new : c.mark.new.self ≡ marked row k c.loop-row.ranks = c.mark.ensures.marked in
    let spot : c.next-k.result ≡ next_place (marked row k c.loop-row.ranks) row k = c.next-k.ensures.value ∙ ap (λ v. next_place v row k) new in
    record {
      same = new ∙ ap (λ v. marked row k v) c.loop-row.invariant.same
          ∙ ap (λ (v : Ranked). record c.args.ranks.now { live = v.live; weights = v.weights }) (ap (λ v. marked row k v) (sym c.loop-row.invariant.same) ∙ sym new);
      marked = λ part place carried falling.
          let next = IsMarkedTo-next part place c.args.height c.args.weight c.args.k c.args.ranks.now carried falling row k (omega (arith, c.rows_for-row-end.ensures))
          c.loop-row.ranks c.loop-row.invariant.same (c.loop-row.invariant.marked part place carried falling) in
          subst (λ v. IsMarkedTo part falling.rows_are.rows c.args.height (rows_to c.args.height) place (row + 1) c.next-k.result v) (sym new)
          (subst (λ n. IsMarkedTo part falling.rows_are.rows c.args.height (rows_to c.args.height) place (row + 1) n (marked row k c.loop-row.ranks)) (sym spot) next);
      spent = Spends-within (Spends-then (Spends-then c.loop-row.invariant.spent c.mark.ensures.cost) c.next-k.ensures.cost) refl refl
          (omega (arith, height_is, high));
    }

pub returns-clause-marked : goal.returns-clause-marked
returns-clause-marked g c part place carried falling =
    AreRows-marked part place c.args.height c.args.weight c.args.k c.args.ranks.now carried falling c.loop-row.row c.loop-row.k
    (omega (arith, c.rows_for-row-end.ensures, c.loop-row.auto.row-end)) c.loop-row.ranks c.loop-row.invariant.same (c.loop-row.invariant.marked part place carried falling)
