use Rattle.std.proofs.Common.{◌≡◌, ℕ, ◌+◌, ◌-◌, ◌*◌, ◌<◌, ◌≤◌, ◌++◌, List, length, map, get_or, Some, slice_get, append-nil, refl, sym, ap, ◌∙◌, subst, arith}
use Rattle.std.specs.List.{flat_map}
use Rattle.std.proofs.lemmas.Nat.{mul-le}
use Rattle.query_laws.specs.StepLedger.{Counts, Spends}
use Rattle.query_laws.proofs.Counting.{Spends-one_touch, Spends-then, Spends-within}
use Rattle.map_shapes.specs.declared.point.Point.{Point}
use Rattle.rank_rows.specs.Ranked.{how_many, slice_of}
use Rattle.range_tree.specs.Costs.{list_touches_each}
use Rattle.range_tree.specs.Heights.{rows_to}
use Rattle.range_tree.specs.Queries.{live_at, live_in_span}
use Rattle.range_tree.proofs.SpanLemmas.{height-small, span_front, span_ordered}
use Rattle.range_tree.proofs.Begun.{slice_none}
use Rattle.range_tree.proofs.Listed.{list_below, list_long, list_standing, span_within, span_points, span_next, span_lives_next, span_rest, span_more, span_counted, span_inside, pushed_more}
use Rattle.range_tree.proofs.rows.RangeTree.list_span.Goals as goal

-- one point more
spent_more : {a b c d e : Counts} (first height row kept rows n m : ℕ) → Spends a b 0 0 (first + n * list_touches_each height) → Spends b c 0 0 (kept - row + 1)
    → Spends c d 0 0 (2 * (rows - row) + 1) → Spends d e 0 0 1 → kept ≤ height → rows ≤ height → m ≡ n + 1
    → Spends a e 0 0 (first + m * list_touches_each height)
spent_more first height row kept rows n m spent second third fourth same few more =
    Spends-within (Spends-then (Spends-then (Spends-then spent second) third) fourth) refl refl (omega (arith, same, few, ap (λ k. k * (8 * (height + 2))) more))

pub live_before-first-requires : goal.live_before-first-requires
live_before-first-requires g c =
    span_front c.args.points.now c.args.self.now c.requires.valid.each_place c.requires.over c.requires.span.0 c.requires.span.1 c.args.span c.requires.span.2
    c.requires.some c.requires.span.0 c.args.span.from c.requires.span.2.from

pub live_before-last-requires : goal.live_before-last-requires
live_before-last-requires g c =
    span_front c.args.points.now c.args.self.now c.requires.valid.each_place c.requires.over c.requires.span.0 c.requires.span.1 c.args.span c.requires.span.2
    c.requires.some c.requires.span.1 c.args.span.to c.requires.span.2.to

pub loop-rank-init : goal.loop-rank-init
loop-rank-init g c =
    let part = c.args.points.now in
    let rows = c.args.self.now in
    let each = c.requires.valid.each_place in
    let is = c.requires.span.2 in
    let some : 0 < rows_to rows.height = omega (arith, is.row) in
    let same = (c.requires.over.ranks some).same_height in
    record {
      listed = λ over some.
          sym (ap (λ l. c.args.tally.now ++ map (λ (p : Point). p.id) (flat_map (live_at part) l))
          (slice_none ((over.ranks some).rows c.args.span.row) c.args.span.from c.args.span.from (omega arith)) ∙ append-nil c.args.tally.now);
      ranked = sym c.live_before-first.ensures.value;
      from = omega arith;
      to = span_ordered part rows each c.requires.span.0 c.requires.span.1 c.args.span is;
      spent = Spends-within (Spends-then c.live_before-first.ensures.cost c.live_before-last.ensures.cost) refl refl (omega (arith, same));
    }

pub next_live-found-requires-clause-front : goal.next_live-found-requires-clause-front
next_live-found-requires-clause-front g c =
    span_front c.args.points.now c.args.self.now c.requires.valid.each_place c.requires.over c.requires.span.0 c.requires.span.1 c.args.span c.requires.span.2
    c.requires.some c.requires.span.1 c.args.span.to c.requires.span.2.to

pub next_live-found-requires-clause-from : goal.next_live-found-requires-clause-from
next_live-found-requires-clause-from g c = omega (arith, c.requires.span.2.from, c.loop-rank.invariant.from)

pub next_live-found-requires-clause-inside : goal.next_live-found-requires-clause-inside
next_live-found-requires-clause-inside g c =
    let is = c.requires.span.2 in
    let some : 0 < rows_to c.args.self.now.height = omega (arith, is.row) in
    span_inside c.args.points.now c.args.self.now c.requires.valid.each_place c.requires.over c.requires.span.0 c.requires.span.1 c.args.span is c.requires.some some
    c.loop-rank.k c.loop-rank.rank c.loop-rank.invariant.to c.loop-rank.invariant.ranked (omega (arith, c.live_before-last.ensures.value, c.loop-rank-test.true))

pub next_live-found-requires-clause-ranked : goal.next_live-found-requires-clause-ranked
next_live-found-requires-clause-ranked g c = c.loop-rank.invariant.ranked

pub next_live-found-requires-clause-some : goal.next_live-found-requires-clause-some
next_live-found-requires-clause-some g c = omega (arith, c.live_before-last.ensures.value, c.loop-rank-test.true)

pub place_of-place-requires-clause-low : goal.place_of-place-requires-clause-low
place_of-place-requires-clause-low g c = height-small c.args.points.now c.args.self.now c.requires.over

pub place_of-place-requires-clause-standing : goal.place_of-place-requires-clause-standing
place_of-place-requires-clause-standing g c =
    let part = c.args.points.now in
    let rows = c.args.self.now in
    let each = c.requires.valid.each_place in
    let is = c.requires.span.2 in
    let some : 0 < rows_to rows.height = omega (arith, is.row) in
    let end = span_within part rows each c.requires.over c.requires.span.0 c.requires.span.1 c.args.span is c.requires.some some in (
      part,
      get_or ((c.requires.over.ranks some).rows c.args.span.row) c.next_live-found.result 0,
      list_standing part rows each c.requires.over c.args.span.row is.row some c.next_live-found.result (omega (arith, end, c.next_live-found.ensures.within)),
    )

pub at-item-requires : goal.at-item-requires
at-item-requires g c =
    let part = c.args.points.now in
    let rows = c.args.self.now in
    let each = c.requires.valid.each_place in
    let is = c.requires.span.2 in
    let some : 0 < rows_to rows.height = omega (arith, is.row) in
    let end = span_within part rows each c.requires.over c.requires.span.0 c.requires.span.1 c.args.span is c.requires.some some in
    let found = c.next_live-found.result in
    let inside : found < length part.items = omega (arith, end, c.next_live-found.ensures.within) in
    let place = c.place_of-place.ensures.place part (get_or ((c.requires.over.ranks some).rows c.args.span.row) found 0)
    (list_standing part rows each c.requires.over c.args.span.row is.row some found inside) in
    omega (
      arith,
      place,
      list_below part rows each c.requires.over c.args.span.row is.row some found (omega (arith, inside, list_long part rows each c.requires.over c.args.span.row is.row some)),
      ap length c.items.ensures.value,
    )

pub overflow_add-k : goal.overflow_add-k
overflow_add-k g c =
    let is = c.requires.span.2 in
    let some : 0 < rows_to c.args.self.now.height = omega (arith, is.row) in
    let end = span_within c.args.points.now c.args.self.now c.requires.valid.each_place c.requires.over c.requires.span.0 c.requires.span.1 c.args.span is c.requires.some some in
    omega (arith, end, c.next_live-found.ensures.within, c.requires.over.few)

pub loop-rank-preserved : goal.loop-rank-preserved
loop-rank-preserved g c =
    let part = c.args.points.now in
    let rows = c.args.self.now in
    let each = c.requires.valid.each_place in
    let low = c.requires.span.0 in
    let high = c.requires.span.1 in
    let is = c.requires.span.2 in
    let found = c.next_live-found.result in
    let item = c.at-item.result in
    let here : slice_get part.items c.place_of-place.result ≡ Some item = ap (λ (l : List Point). slice_get l c.place_of-place.result) (sym c.items.ensures.value) ∙ c.at-item.ensures.read in
    let same = c.loop-rank.invariant.ranked ∙ sym c.next_live-found.ensures.ranked in
    let from : c.args.span.from ≤ found = omega (arith, c.loop-rank.invariant.from, c.next_live-found.ensures.from) in
    let some : 0 < rows_to rows.height = omega (arith, is.row) in
    let end = span_within part rows each c.requires.over low high c.args.span is c.requires.some some in
    let inside : found < length part.items = omega (arith, end, c.next_live-found.ensures.within) in
    let stands = c.place_of-place.ensures.place part (get_or ((c.requires.over.ranks some).rows c.args.span.row) found 0)
    (list_standing part rows each c.requires.over c.args.span.row is.row some found inside) in
    record {
      listed = λ over any.
          let stands = c.place_of-place.ensures.place part (get_or ((over.ranks any).rows c.args.span.row) found 0) (list_standing part rows each over c.args.span.row is.row any found inside) in
          pushed_more (λ (p : Point). p.id) c.args.tally.now c.loop-rank.tally _ _ _ item (c.loop-rank.invariant.listed over any)
          (span_next part rows each over low high c.args.span is c.requires.some any c.loop-rank.k found item c.loop-rank.invariant.from c.next_live-found.ensures.from
          c.next_live-found.ensures.within same c.next_live-found.ensures.live (ap (slice_get part.items) (sym stands) ∙ here))
          c.in_ok-push.ensures.pushed;
      ranked = span_lives_next part rows each c.requires.over low high c.args.span is c.requires.some some found item from c.next_live-found.ensures.within
          c.next_live-found.ensures.live (ap (slice_get part.items) (sym stands) ∙ here) ∙ ap (λ n. n + 1) c.next_live-found.ensures.ranked;
      from = omega (arith, from);
      to = omega (arith, c.next_live-found.ensures.within);
      spent = spent_more (2 * (rows.height - c.args.span.row)) rows.height c.args.span.row rows.ranks.height (rows_to rows.height) (c.loop-rank.rank - c.live_before-first.result) _ c.loop-rank.invariant.spent
          c.next_live-found.ensures.cost c.place_of-place.ensures.cost
          (subst (λ s. Spends c.place_of-place.new.steps s 0 0 1) (sym c.at-item.ensures.touched) (Spends-one_touch c.place_of-place.new.steps))
          (omega (arith, (c.requires.over.ranks some).same_height)) (omega arith) (omega (arith, c.loop-rank.auto.rank));
    }

pub returns-in_err-push-clause-cost : goal.returns-in_err-push-clause-cost
returns-in_err-push-clause-cost g c low high places is whole =
    let part = c.args.points.now in
    let rows = c.args.self.now in
    let each = c.requires.valid.each_place in
    let some : 0 < rows_to rows.height = omega (arith, is.row) in
    let ordered = span_ordered part rows each low high c.args.span is in
    let counted = span_counted part rows each c.requires.over low high c.args.span is c.requires.some some ordered in
    let points = span_points part rows each c.requires.over low high c.args.span is c.requires.some some places whole in
    let n = c.loop-rank.rank - c.live_before-first.result in
    let few : n + 1 ≤ length (live_in_span part rows low high places c.args.span) =
    omega (arith, counted, ap length points, c.live_before-first.ensures.value, c.live_before-last.ensures.value, c.loop-rank.auto.rank, c.loop-rank-test.true) in
    Spends-within
    (spent_more (2 * (rows.height - c.args.span.row)) rows.height c.args.span.row rows.ranks.height (rows_to rows.height) n (n + 1) c.loop-rank.invariant.spent c.next_live-found.ensures.cost
    c.place_of-place.ensures.cost (subst (λ s. Spends c.place_of-place.new.steps s 0 0 1) (sym c.at-item.ensures.touched) (Spends-one_touch c.place_of-place.new.steps))
    (omega (arith, (c.requires.over.ranks some).same_height)) (omega arith) refl)
    refl refl (omega (arith, mul-le (n + 1) (list_touches_each rows.height) (length (live_in_span part rows low high places c.args.span)) (list_touches_each rows.height) few (omega arith)))

pub returns-clause-listed : goal.returns-clause-listed
returns-clause-listed g c low high places is whole =
    let part = c.args.points.now in
    let rows = c.args.self.now in
    let each = c.requires.valid.each_place in
    let some : 0 < rows_to rows.height = omega (arith, is.row) in
    let more = span_more part rows each c.requires.over low high c.args.span is c.requires.some some c.loop-rank.k c.loop-rank.invariant.from c.loop-rank.invariant.to in
    let end = c.loop-rank.invariant.ranked
    ∙ (let e : c.loop-rank.rank ≡ how_many (slice_of rows.ranks rows.ranks.live c.args.span.row c.args.span.start c.args.span.to) =
    omega (arith, c.live_before-last.ensures.value, c.loop-rank-test.false, c.loop-rank.invariant.ranked, more) in e) in
    c.loop-rank.invariant.listed c.requires.over some
    ∙ ap (λ l. c.args.tally.now ++ map (λ (p : Point). p.id) l)
    (sym (span_points part rows each c.requires.over low high c.args.span is c.requires.some some places whole
    ∙ span_rest part rows each c.requires.over low high c.args.span is c.requires.some some c.loop-rank.k c.loop-rank.invariant.from c.loop-rank.invariant.to end))

pub returns-clause-cost : goal.returns-clause-cost
returns-clause-cost g c low high places is whole =
    let part = c.args.points.now in
    let rows = c.args.self.now in
    let each = c.requires.valid.each_place in
    let some : 0 < rows_to rows.height = omega (arith, is.row) in
    let ordered = span_ordered part rows each low high c.args.span is in
    let counted = span_counted part rows each c.requires.over low high c.args.span is c.requires.some some ordered in
    let points = span_points part rows each c.requires.over low high c.args.span is c.requires.some some places whole in
    let more = span_more part rows each c.requires.over low high c.args.span is c.requires.some some c.loop-rank.k c.loop-rank.invariant.from c.loop-rank.invariant.to in
    let n = c.loop-rank.rank - c.live_before-first.result in
    let few : n ≤ length (live_in_span part rows low high places c.args.span) =
    omega (arith, counted, ap length points, c.live_before-first.ensures.value, c.loop-rank.invariant.ranked, more) in
    Spends-within c.loop-rank.invariant.spent refl refl
    (omega (arith, mul-le n (list_touches_each rows.height) (length (live_in_span part rows low high places c.args.span)) (list_touches_each rows.height) few (omega arith)))
