use Rattle.std.proofs.Common.{◌≡◌, ◌+◌, ◌-◌, ◌*◌, ◌<◌, ◌≤◌, arith, refl, subst, sym}
use Rattle.query_laws.proofs.Counting.{Spends-then, Spends-within}
use Rattle.std.specs.List.{sum_by}
use Rattle.range_tree.specs.Heights.{rows_to}
use Rattle.range_tree.specs.Measures.{measure_of, word_touches}
use Rattle.range_tree.specs.Queries.{live_in_span}
use Rattle.range_tree.proofs.SpanLemmas.{span_front}
use Rattle.range_tree.proofs.SpanMeasures.{live_fronts, weight_fronts, counted_span, weighed_span}
use Rattle.range_tree.proofs.rows.RangeTree.measure_span.Goals as goal

pub live_before-requires : goal.live_before-requires
live_before-requires g c =
    span_front c.args.points.now c.args.self.now c.requires.valid.each_place c.requires.over c.requires.span.0 c.requires.span.1 c.args.span c.requires.span.2
    c.requires.some c.requires.span.1 c.args.span.to c.requires.span.2.to

pub live_before-requires-in-Count : goal.live_before-requires-in-Count
live_before-requires-in-Count g c =
    span_front c.args.points.now c.args.self.now c.requires.valid.each_place c.requires.over c.requires.span.0 c.requires.span.1 c.args.span c.requires.span.2
    c.requires.some c.requires.span.0 c.args.span.from c.requires.span.2.from

pub overflow_sub-result : goal.overflow_sub-result
overflow_sub-result g c =
    omega (
      arith,
      c.live_before.ensures.value,
      c.live_before-in-Count.ensures.value,
      live_fronts c.args.points.now c.args.self.now c.requires.valid.each_place c.requires.over c.requires.span.0 c.requires.span.1 c.args.span c.requires.span.2 c.requires.some,
    )

pub weight_before-requires : goal.weight_before-requires
weight_before-requires g c =
    span_front c.args.points.now c.args.self.now c.requires.valid.each_place c.requires.over c.requires.span.0 c.requires.span.1 c.args.span c.requires.span.2
    c.requires.some c.requires.span.1 c.args.span.to c.requires.span.2.to

pub weight_before-requires-in-Weight : goal.weight_before-requires-in-Weight
weight_before-requires-in-Weight g c =
    span_front c.args.points.now c.args.self.now c.requires.valid.each_place c.requires.over c.requires.span.0 c.requires.span.1 c.args.span c.requires.span.2
    c.requires.some c.requires.span.0 c.args.span.from c.requires.span.2.from

pub overflow_sub-result-in-Weight : goal.overflow_sub-result-in-Weight
overflow_sub-result-in-Weight g c =
    omega (
      arith,
      c.weight_before.ensures.value,
      c.weight_before-in-Weight.ensures.value,
      weight_fronts c.args.points.now c.args.self.now c.requires.valid.each_place c.requires.over c.requires.span.0 c.requires.span.1 c.args.span c.requires.span.2 c.requires.some,
    )

pub returns-in-Count-clause-sum : goal.returns-in-Count-clause-sum
returns-in-Count-clause-sum g c low high places is whole =
    let part = c.args.points.now in
    let rows = c.args.self.now in
    let each = c.requires.valid.each_place in
    subst (λ m. c.live_before.result - c.live_before-in-Count.result ≡ sum_by (measure_of m) (live_in_span part rows low high places c.args.span)) (sym c.in-Count.is)
    (omega (
      arith,
      c.live_before.ensures.value,
      c.live_before-in-Count.ensures.value,
      live_fronts part rows each c.requires.over low high c.args.span is c.requires.some,
      counted_span part rows each c.requires.over low high c.args.span is c.requires.some places whole,
    ))

pub returns-in-Weight-clause-sum : goal.returns-in-Weight-clause-sum
returns-in-Weight-clause-sum g c low high places is whole =
    let part = c.args.points.now in
    let rows = c.args.self.now in
    let each = c.requires.valid.each_place in
    subst (λ m. c.weight_before.result - c.weight_before-in-Weight.result ≡ sum_by (measure_of m) (live_in_span part rows low high places c.args.span)) (sym c.in-Weight.is)
    (omega (
      arith,
      c.weight_before.ensures.value,
      c.weight_before-in-Weight.ensures.value,
      weight_fronts part rows each c.requires.over low high c.args.span is c.requires.some,
      weighed_span part rows each c.requires.over low high c.args.span is c.requires.some places whole,
    ))

pub returns-in-Count-clause-cost : goal.returns-in-Count-clause-cost
returns-in-Count-clause-cost g c =
    let rows = c.args.self.now in
    let row = c.args.span.row in
    let some : 0 < rows_to rows.height = omega (arith, c.requires.span.2.row) in
    let high = rows.ranks.height - row in
    Spends-within (Spends-then c.live_before.ensures.cost c.live_before-in-Count.ensures.cost) refl refl
    (subst (λ m. high + high ≤ 2 * (rows.height - row) + word_touches m) (sym c.in-Count.is) (omega (arith, (c.requires.over.ranks some).same_height)))

pub returns-in-Weight-clause-cost : goal.returns-in-Weight-clause-cost
returns-in-Weight-clause-cost g c =
    let rows = c.args.self.now in
    let row = c.args.span.row in
    let some : 0 < rows_to rows.height = omega (arith, c.requires.span.2.row) in
    let high = rows.ranks.height - row + 64 in
    Spends-within (Spends-then c.weight_before.ensures.cost c.weight_before-in-Weight.ensures.cost) refl refl
    (subst (λ m. high + high ≤ 2 * (rows.height - row) + word_touches m) (sym c.in-Weight.is) (omega (arith, (c.requires.over.ranks some).same_height)))
