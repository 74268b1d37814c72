use Rattle.std.proofs.Common.{◌^◌, ◌≤◌, length, slice_range, arith, refl}
use Rattle.query_laws.proofs.Counting.{Spends-then, Spends-within}
use Rattle.row_blocks.proofs.Lists.{length-slice_range}
use Rattle.range_tree.specs.Measures.{measure_of, word_touches}
use Rattle.range_tree.specs.Queries.{ends_inside}
use Rattle.range_tree.proofs.SpanLemmas.{many_places}
use Rattle.range_tree.proofs.SpanMeasures.{measure_halves, measure-small, cost_halves, cost_whole}
use Rattle.range_tree.proofs.rows.RangeTree.+measure_blocks.Goals as goal

pub measure_blocks-requires-in-Halves : goal.measure_blocks-requires-in-Halves
measure_blocks-requires-in-Halves g t c κs within =
    let low = c.requires.span.0 in
    let high = c.requires.span.1 in
    let cut = c.in-Halves.ensures.cut low high c.requires.span.2 in (
      omega (arith, c.decreases, cut.0, cut.1.second_row),
      (within, (c.requires.valid, (c.requires.over, ((low, high, cut.1.second_span), c.requires.whole)))),
    )

pub overflow_add-result : goal.overflow_add-result
overflow_add-result g t c =
    let part = c.args.points.now in
    let low = c.requires.span.0 in
    let high = c.requires.span.1 in
    let is = c.requires.span.2 in
    let halves = (c.in-Halves.ensures.cut low high is).1 in
    let few : length (slice_range part.places low high) ≤ 2 ^ 31 = omega (arith, length-slice_range part.places low high is.ordered is.within, is.within, many_places part c.requires.valid.each_place, c.requires.over.few) in
    omega (
      arith,
      c.measure_blocks.ensures.sum low high halves.first_span,
      c.measure_blocks-in-Halves.ensures.sum low high halves.second_span,
      measure-small part c.args.self.now low high c.args.places c.in-Halves.first c.args.measure few,
      measure-small part c.args.self.now low high c.args.places c.in-Halves.second c.args.measure few,
    )

pub returns-in-Whole-clause-cost : goal.returns-in-Whole-clause-cost
returns-in-Whole-clause-cost g t c =
    let h = c.args.self.now.height in
    Spends-within (Spends-then c.cut.ensures.cost c.measure_span.ensures.cost) refl refl
    (cost_whole (word_touches c.args.measure) h c.args.span.row (ends_inside h c.args.places c.args.span) c.requires.span.2.row)

pub returns-in-Halves-clause-sum : goal.returns-in-Halves-clause-sum
returns-in-Halves-clause-sum g t c low high is =
    let cut = c.in-Halves.ensures.cut low high is in
    omega (
      arith,
      c.measure_blocks.ensures.sum low high cut.1.first_span,
      c.measure_blocks-in-Halves.ensures.sum low high cut.1.second_span,
      measure_halves c.args.points.now c.args.self.now low high c.args.places c.args.span c.in-Halves.first c.in-Halves.second cut.1 cut.0 (measure_of c.args.measure),
    )

pub returns-in-Halves-clause-cost : goal.returns-in-Halves-clause-cost
returns-in-Halves-clause-cost g t c =
    let cut = c.in-Halves.ensures.cut c.requires.span.0 c.requires.span.1 c.requires.span.2 in
    Spends-within (Spends-then (Spends-then c.cut.ensures.cost c.measure_blocks.ensures.cost) c.measure_blocks-in-Halves.ensures.cost) refl refl
    (cost_halves (word_touches c.args.measure) c.args.points.now c.args.self.now c.requires.span.0 c.requires.span.1 c.args.places c.args.span c.in-Halves.first c.in-Halves.second cut.1 cut.0 cut.2)
