use Rattle.std.proofs.Common.{◌+◌, ◌-◌, ◌*◌, ◌/◌, ◌<◌, ◌≤◌, ◌^◌, inl, inr, length, slice_range, refl, ap, ◌∙◌, subst, arith}
use Rattle.std.specs.List.{sum_by}
use Rattle.std.proofs.lemmas.Bool.{cases_eq}
use Rattle.query_laws.proofs.Counting.{Spends-then, Spends-within}
use Rattle.builder_trait.specs.Parts.{live_of}
use Rattle.range_tree.specs.Costs.{blocks_touches, touches_to_measure}
use Rattle.range_tree.specs.Heights.{rows_to}
use Rattle.range_tree.specs.Measures.{leaf_touches, measure_of, most_scanned, word_touches}
use Rattle.range_tree.specs.Queries.{ends_inside}
use Rattle.row_blocks.proofs.Lists.{length-slice_range}
use Rattle.range_tree.proofs.SpanLemmas.{height-above, many_places}
use Rattle.range_tree.proofs.SpanMeasures.{measure-small}
use Rattle.range_tree.proofs.Middle.{middle}
use Rattle.range_tree.proofs.Budgets.{measure_scanned, measure_counted, scanned_enough}
use Rattle.range_tree.proofs.Answering.{added_all, places_small, all_of, sum_three, AreWhole-found, tall, ends_few}
use Rattle.range_tree.proofs.rows.RangeTree.add_measure.Goals as goal

pub whole_blocks-whole-requires-clause-ordered : goal.whole_blocks-whole-requires-clause-ordered
whole_blocks-whole-requires-clause-ordered g c = c.places_in-places.ensures.inside.ordered

pub whole_blocks-whole-requires-clause-small : goal.whole_blocks-whole-requires-clause-small
whole_blocks-whole-requires-clause-small g c = omega (arith, c.places_in-places.ensures.inside.within, c.requires.over.few)

pub are_scanned-scan-requires : goal.are_scanned-scan-requires
are_scanned-scan-requires g c = c.places_in-places.ensures.inside.ordered

pub measure_places-sum-requires-clause-inside : goal.measure_places-sum-requires-clause-inside
measure_places-sum-requires-clause-inside g c = (c.places_in-places.result, c.places_in-places.ensures.inside, omega arith, omega arith)

pub returns-then-scan-clause-added : goal.returns-then-scan-clause-added
returns-then-scan-clause-added g c =
    let part = c.args.points.now in
    let rect = c.args.rect.now in
    added_all c.args.tally.now c.add.new.self c.measure_places-sum.result c.args.measure rect (live_of part) c.add.ensures
    (c.measure_places-sum.ensures.sum ∙ ap (sum_by (measure_of c.args.measure)) (all_of part rect c.places_in-places.result c.requires.valid.flagged c.places_in-places.ensures.inside))

pub returns-then-scan-clause-cost : goal.returns-then-scan-clause-cost
returns-then-scan-clause-cost g c =
    let part = c.args.points.now in
    let rows = c.args.self.now in
    let h = rows.height in
    let places = c.places_in-places.result in
    let inside = c.places_in-places.ensures.inside in
    let blocks = c.whole_blocks-whole.ensures in
    let above = height-above part rows c.requires.over in
    let d = places.to - places.from in
    let measure = c.args.measure in
    let few : d ≤ most_scanned measure = elim (cases_eq c.whole_blocks-whole.result.from c.whole_blocks-whole.result.to) [
      | inl none ↦ omega (arith, none, blocks.few, blocks.first, blocks.last, inside.ordered, scanned_enough measure)
      | inr apart ↦ omega (arith, c.are_scanned-scan.ensures.few c.if-scan.true apart, c.most_scanned-most.ensures)
    ] in
    Spends-within (Spends-then (c.places_in-places.ensures.cost h above) c.measure_places-sum.ensures.cost) refl refl
    (subst (λ n. 2 * (h + 1) + (d / 16 + 2 + leaf_touches measure d) ≤ touches_to_measure measure n) c.requires.over.height
    (measure_scanned measure h (length part.items) d (omega (arith, inside.within)) above few))

pub span_in-span-requires-clause-some : goal.span_in-span-requires-clause-some
span_in-span-requires-clause-some g c =
    let part = c.args.points.now in
    let rows = c.args.self.now in
    let places = c.places_in-places.result in
    let whole = c.whole_blocks-whole.result in
    let blocks = c.whole_blocks-whole.ensures in
    let some : whole.from < whole.to = omega (arith, c.are_scanned-scan.ensures.some c.if-scan.false, blocks.ordered) in
    let are = AreWhole-found part places whole c.places_in-places.ensures.inside.within blocks.last some blocks.front blocks.back in
    omega (arith, tall part rows c.requires.over whole are some)

pub measure_places-first-requires-clause-inside : goal.measure_places-first-requires-clause-inside
measure_places-first-requires-clause-inside g c =
    (c.places_in-places.result, c.places_in-places.ensures.inside, omega arith, omega (arith, c.whole_blocks-whole.ensures.ordered, c.whole_blocks-whole.ensures.last))

pub measure_places-last-requires-clause-inside : goal.measure_places-last-requires-clause-inside
measure_places-last-requires-clause-inside g c =
    (c.places_in-places.result, c.places_in-places.ensures.inside, omega (arith, c.whole_blocks-whole.ensures.ordered, c.whole_blocks-whole.ensures.first), omega arith)

pub measure_blocks-inner-requires-clause-span : goal.measure_blocks-inner-requires-clause-span
measure_blocks-inner-requires-clause-span g c = (c.span_in-span.result.from, c.span_in-span.result.to, c.span_in-span.ensures.span)

pub measure_blocks-inner-requires-clause-whole : goal.measure_blocks-inner-requires-clause-whole
measure_blocks-inner-requires-clause-whole g c =
    let whole = c.whole_blocks-whole.result in
    let blocks = c.whole_blocks-whole.ensures in
    let some : whole.from < whole.to = omega (arith, c.are_scanned-scan.ensures.some c.if-scan.false, blocks.ordered) in
    AreWhole-found c.args.points.now c.places_in-places.result whole c.places_in-places.ensures.inside.within blocks.last some blocks.front blocks.back

pub overflow_add-first : goal.overflow_add-first
overflow_add-first g c =
    let part = c.args.points.now in
    let rect = c.args.rect.now in
    let places = c.places_in-places.result in
    let whole = c.whole_blocks-whole.result in
    let blocks = c.whole_blocks-whole.ensures in
    let inside = c.places_in-places.ensures.inside in
    let front = places_small part rect (record { from = places.from; to = whole.from }) c.args.measure (omega (arith, blocks.ordered, blocks.last, inside.within, c.requires.over.few)) in
    let back = places_small part rect (record { from = whole.to; to = places.to }) c.args.measure (omega (arith, inside.within, c.requires.over.few)) in
    omega (arith, front, back, c.measure_places-first.ensures.sum, c.measure_places-last.ensures.sum)

pub overflow_add-first-2 : goal.overflow_add-first-2
overflow_add-first-2 g c =
    let part = c.args.points.now in
    let rect = c.args.rect.now in
    let places = c.places_in-places.result in
    let whole = c.whole_blocks-whole.result in
    let span = c.span_in-span.result in
    let is = c.span_in-span.ensures.span in
    let blocks = c.whole_blocks-whole.ensures in
    let inside = c.places_in-places.ensures.inside in
    let front = places_small part rect (record { from = places.from; to = whole.from }) c.args.measure (omega (arith, blocks.ordered, blocks.last, inside.within, c.requires.over.few)) in
    let back = places_small part rect (record { from = whole.to; to = places.to }) c.args.measure (omega (arith, inside.within, c.requires.over.few)) in
    let few : length (slice_range part.places span.from span.to) ≤ 2 ^ 31 =
    omega (arith, length-slice_range part.places span.from span.to is.ordered is.within, is.within, many_places part c.requires.valid.each_place, c.requires.over.few) in
    let mid = measure-small part c.args.self.now span.from span.to whole span c.args.measure few in
    omega (
      arith,
      front,
      back,
      mid,
      c.measure_places-first.ensures.sum,
      c.measure_places-last.ensures.sum,
      c.measure_blocks-inner.ensures.sum span.from span.to is,
    )

pub returns-clause-added : goal.returns-clause-added
returns-clause-added g c =
    let part = c.args.points.now in
    let rows = c.args.self.now in
    let rect = c.args.rect.now in
    let places = c.places_in-places.result in
    let whole = c.whole_blocks-whole.result in
    let span = c.span_in-span.result in
    let blocks = c.whole_blocks-whole.ensures in
    let inside = c.places_in-places.ensures.inside in
    let valid = c.requires.valid in
    let mid = middle part valid rect span.from span.to c.span_in-span.ensures.ys places whole inside blocks.first blocks.ordered blocks.last rows c.requires.over span
    c.span_in-span.ensures.row c.span_in-span.ensures.start in
    added_all c.args.tally.now c.add-2.new.self (c.measure_places-first.result + c.measure_places-last.result + c.measure_blocks-inner.result) c.args.measure rect (live_of part) c.add-2.ensures
    (omega (
      arith,
      c.measure_places-first.ensures.sum,
      c.measure_places-last.ensures.sum,
      c.measure_blocks-inner.ensures.sum span.from span.to c.span_in-span.ensures.span,
      sum_three part rect places valid.flagged inside whole.from whole.to blocks.first blocks.ordered blocks.last (measure_of c.args.measure) _ mid,
    ))

pub returns-clause-cost : goal.returns-clause-cost
returns-clause-cost g c =
    let part = c.args.points.now in
    let rows = c.args.self.now in
    let h = rows.height in
    let places = c.places_in-places.result in
    let whole = c.whole_blocks-whole.result in
    let span = c.span_in-span.result in
    let blocks = c.whole_blocks-whole.ensures in
    let inside = c.places_in-places.ensures.inside in
    let above = height-above part rows c.requires.over in
    let some : whole.from < whole.to = omega (arith, c.are_scanned-scan.ensures.some c.if-scan.false, blocks.ordered) in
    let are = AreWhole-found part places whole inside.within blocks.last some blocks.front blocks.back in
    let high : 9 ≤ h = tall part rows c.requires.over whole are some in
    let front = whole.from - places.from in
    let back = places.to - whole.to in
    let ends = ends_inside h whole span in
    let few : front + back ≤ 1022 = omega (arith, blocks.few) in
    let measure = c.args.measure in
    let rest = rows_to h - span.row in
    let bound = measure_counted measure h front back ends rest (omega (arith, high, c.span_in-span.ensures.row)) (ends_few h whole span) few in
    Spends-within
    (Spends-then
    (Spends-then (Spends-then (Spends-then (c.places_in-places.ensures.cost h above) (c.span_in-span.ensures.cost h above)) c.measure_places-first.ensures.cost)
    c.measure_places-last.ensures.cost)
    c.measure_blocks-inner.ensures.cost)
    refl refl
    (subst (λ n. 2 * (h + 1) + 2 * (h + 1) + (front / 16 + 2 + leaf_touches measure front) + (back / 16 + 2 + leaf_touches measure back)
    + blocks_touches (word_touches measure) rest ends ≤ touches_to_measure measure n) c.requires.over.height bound)

pub returns-then-scan-clause-read : goal.returns-then-scan-clause-read
returns-then-scan-clause-read g c some =
    omega (arith, c.places_in-places.ensures.read some, c.measure_places-sum.ensures.cost.touches_kept)

pub returns-clause-read : goal.returns-clause-read
returns-clause-read g c some =
    let span = c.span_in-span.ensures.cost 64 (omega (arith, c.requires.over.few)) in
    omega (
      arith,
      c.places_in-places.ensures.read some,
      span.touches_kept,
      c.measure_places-first.ensures.cost.touches_kept,
      c.measure_places-last.ensures.cost.touches_kept,
      c.measure_blocks-inner.ensures.cost.touches_kept,
    )
