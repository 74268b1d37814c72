use Rattle.std.proofs.Common.{◌≡◌, ℕ, ◌+◌, ◌-◌, ◌*◌, ◌/◌, ◌<◌, ◌≤◌, inl, inr, length, refl, ap, subst, arith}
use Rattle.std.specs.List.{filter}
use Rattle.std.proofs.lemmas.Bool.{cases_eq}
use Rattle.std.proofs.lemmas.Result.{on_ok_weaker}
use Rattle.query_laws.proofs.Counting.{Spends-then, Spends-within}
use Rattle.builder_trait.specs.Parts.{live_of}
use Rattle.map_shapes.specs.Questions.{is_in}
use Rattle.range_tree.specs.Costs.{blocks_touches}
use Rattle.range_tree.specs.Heights.{rows_to}
use Rattle.range_tree.specs.Queries.{ends_inside, live_in_places, live_in_span}
use Rattle.range_tree.proofs.SpanLemmas.{height-above}
use Rattle.range_tree.proofs.Middle.{middle}
use Rattle.range_tree.proofs.Budgets.{list_scanned, list_counted, rows_counted}
use Rattle.range_tree.proofs.ListingBlocks.{less_one, less_two}
use Rattle.range_tree.proofs.Answering.{all_of, length_three, joined_one, joined_three, AreWhole-found, tall, ends_few}
use Rattle.range_tree.proofs.rows.RangeTree.list_points.Goals as goal

-- the bound, at the height of the part
at_height : (h hh front back one two three hits blocks : ℕ) → h ≡ hh → blocks + 142 ≤ 2 * (h * h) + 4 * h → front + back ≤ 1022 → one + two + three ≡ hits
    → 2 * (h + 1) + 2 * (h + 1) + (front / 16 + 2 + one) + (back / 16 + 2 + two) + (blocks + three * (8 * (h + 2)))
    ≤ 4 * ((hh + 2) * (hh + 2)) + 8 * (hh + 2) * hits
at_height h hh front back one two three hits blocks same most few all =
    subst (λ n. 2 * (h + 1) + 2 * (h + 1) + (front / 16 + 2 + one) + (back / 16 + 2 + two) + (blocks + three * (8 * (h + 2)))
    ≤ 4 * ((n + 2) * (n + 2)) + 8 * (n + 2) * hits) same (list_counted h front back one two three hits blocks most few all)

pub whole_blocks-whole-requires-clause-ordered : goal.whole_blocks-whole-requires-clause-ordered
whole_blocks-whole-requires-clause-ordered g c = c.places_in-places.ensures.inside.ordered

pub whole_blocks-whole-requires-clause-small : goal.whole_blocks-whole-requires-clause-small
whole_blocks-whole-requires-clause-small g c = omega (arith, c.places_in-places.ensures.inside.within, c.requires.over.few)

pub are_scanned-scan-requires : goal.are_scanned-scan-requires
are_scanned-scan-requires g c = c.places_in-places.ensures.inside.ordered

pub list_places-requires-clause-inside : goal.list_places-requires-clause-inside
list_places-requires-clause-inside g c = (c.places_in-places.result, c.places_in-places.ensures.inside, omega arith, omega arith)

pub returns-then-scan-clause-joined : goal.returns-then-scan-clause-joined
returns-then-scan-clause-joined g c =
    let part = c.args.points.now in
    let rect = c.args.rect.now in
    let places = c.places_in-places.result in
    on_ok_weaker c.list_places.result
    (λ listed. joined_one part rect c.args.tally.now c.list_places.new.tally (live_in_places part rect places) listed
    (all_of part rect places c.requires.valid.flagged c.places_in-places.ensures.inside))
    c.list_places.ensures.listed

pub returns-then-scan-clause-cost : goal.returns-then-scan-clause-cost
returns-then-scan-clause-cost g c =
    let part = c.args.points.now in
    let rect = c.args.rect.now in
    let rows = c.args.self.now in
    let h = rows.height in
    let places = c.places_in-places.result in
    let inside = c.places_in-places.ensures.inside in
    let blocks = c.whole_blocks-whole.ensures in
    let above = height-above part rows c.requires.over in
    let d = places.to - places.from in
    let hits = length (live_in_places part rect places) in
    let few : d ≤ 8192 = elim (cases_eq c.whole_blocks-whole.result.from c.whole_blocks-whole.result.to) [
      | inl none ↦ omega (arith, none, blocks.few, blocks.first, blocks.last, inside.ordered)
      | inr apart ↦ c.are_scanned-scan.ensures.few c.if-scan.true apart
    ] in
    Spends-within (Spends-then (c.places_in-places.ensures.cost h above) c.list_places.ensures.cost) refl refl
    (subst (λ n. 2 * (h + 1) + (d / 16 + 2 + hits) ≤ 4 * ((n + 2) * (n + 2)) + 8 * (n + 2) * length (filter (is_in rect) (live_of part))) c.requires.over.height
    (subst (λ k. 2 * (h + 1) + (d / 16 + 2 + hits) ≤ 4 * ((h + 2) * (h + 2)) + 8 * (h + 2) * k) (ap length (all_of part rect places c.requires.valid.flagged inside))
    (list_scanned h (length part.items) d hits (omega (arith, inside.within)) above few)))

pub span_in-span-requires-clause-some : goal.span_in-span-requires-clause-some
span_in-span-requires-clause-some g c =
    let part = c.args.points.now in
    let places = c.places_in-places.result in
    let whole = c.whole_blocks-whole.result in
    let blocks = c.whole_blocks-whole.ensures in
    let some : whole.from < whole.to = omega (arith, c.are_scanned-scan.ensures.some c.if-scan.false, blocks.ordered) in
    let are = AreWhole-found part places whole c.places_in-places.ensures.inside.within blocks.last some blocks.front blocks.back in
    omega (arith, tall part c.args.self.now c.requires.over whole are some)

pub list_places-requires-2-clause-inside : goal.list_places-requires-2-clause-inside
list_places-requires-2-clause-inside g c =
    (c.places_in-places.result, c.places_in-places.ensures.inside, omega arith, omega (arith, c.whole_blocks-whole.ensures.ordered, c.whole_blocks-whole.ensures.last))

pub list_places-requires-3-clause-inside : goal.list_places-requires-3-clause-inside
list_places-requires-3-clause-inside g c =
    (c.places_in-places.result, c.places_in-places.ensures.inside, omega (arith, c.whole_blocks-whole.ensures.ordered, c.whole_blocks-whole.ensures.first), omega arith)

pub list_blocks-requires-clause-span : goal.list_blocks-requires-clause-span
list_blocks-requires-clause-span g c = (c.span_in-span.result.from, c.span_in-span.result.to, c.span_in-span.ensures.span)

pub list_blocks-requires-clause-whole : goal.list_blocks-requires-clause-whole
list_blocks-requires-clause-whole g c =
    let whole = c.whole_blocks-whole.result in
    let blocks = c.whole_blocks-whole.ensures in
    let some : whole.from < whole.to = omega (arith, c.are_scanned-scan.ensures.some c.if-scan.false, blocks.ordered) in
    AreWhole-found c.args.points.now c.places_in-places.result whole c.places_in-places.ensures.inside.within blocks.last some blocks.front blocks.back

pub returns-clause-joined : goal.returns-clause-joined
returns-clause-joined g c =
    let part = c.args.points.now in
    let rows = c.args.self.now in
    let rect = c.args.rect.now in
    let places = c.places_in-places.result in
    let whole = c.whole_blocks-whole.result in
    let span = c.span_in-span.result in
    let blocks = c.whole_blocks-whole.ensures in
    let inside = c.places_in-places.ensures.inside in
    let valid = c.requires.valid in
    let mid = middle part valid rect span.from span.to c.span_in-span.ensures.ys places whole inside blocks.first blocks.ordered blocks.last rows c.requires.over span
    c.span_in-span.ensures.row c.span_in-span.ensures.start in
    on_ok_weaker c.list_blocks.result
    (λ listed. joined_three part rect places valid.flagged inside whole.from whole.to blocks.first blocks.ordered blocks.last c.args.tally.now c.list_places-2.new.tally
    c.list_places-3.new.tally c.list_blocks.new.tally (live_in_span part rows span.from span.to whole span) mid c.in_ok-list_places.ensures.listed c.in_ok-list_places-2.ensures.listed
    (listed span.from span.to c.span_in-span.ensures.span))
    c.list_blocks.ensures.listed

pub returns-clause-cost : goal.returns-clause-cost
returns-clause-cost g c =
    let part = c.args.points.now in
    let rows = c.args.self.now in
    let rect = c.args.rect.now in
    let h = rows.height in
    let places = c.places_in-places.result in
    let whole = c.whole_blocks-whole.result in
    let span = c.span_in-span.result in
    let blocks = c.whole_blocks-whole.ensures in
    let inside = c.places_in-places.ensures.inside in
    let valid = c.requires.valid in
    let above = height-above part rows c.requires.over in
    let some : whole.from < whole.to = omega (arith, c.are_scanned-scan.ensures.some c.if-scan.false, blocks.ordered) in
    let are = AreWhole-found part places whole inside.within blocks.last some blocks.front blocks.back in
    let high : 9 ≤ h = tall part rows c.requires.over whole are some in
    let front = whole.from - places.from in
    let back = places.to - whole.to in
    let few : front + back ≤ 1022 = omega (arith, blocks.few) in
    let mid = middle part valid rect span.from span.to c.span_in-span.ensures.ys places whole inside blocks.first blocks.ordered blocks.last rows c.requires.over span
    c.span_in-span.ensures.row c.span_in-span.ensures.start in
    let ends = ends_inside h whole span in
    let most = rows_counted h ends (rows_to h - span.row) (omega (arith, high, c.span_in-span.ensures.row)) (ends_few h whole span) in
    let bound = at_height h _ front back _ _ _ _ (blocks_touches 0 (rows_to h - span.row) ends) c.requires.over.height most few
    (length_three part rect places valid.flagged inside whole.from whole.to blocks.first blocks.ordered blocks.last (live_in_span part rows span.from span.to whole span) mid) in
    Spends-within
    (Spends-then (Spends-then (Spends-then (Spends-then (c.places_in-places.ensures.cost h above) (c.span_in-span.ensures.cost h above)) c.list_places-2.ensures.cost) c.list_places-3.ensures.cost)
    (c.list_blocks.ensures.cost span.from span.to c.span_in-span.ensures.span))
    refl refl bound

pub returns-in_err-list_places-clause-cost : goal.returns-in_err-list_places-clause-cost
returns-in_err-list_places-clause-cost g c =
    let part = c.args.points.now in
    let rows = c.args.self.now in
    let rect = c.args.rect.now in
    let h = rows.height in
    let places = c.places_in-places.result in
    let whole = c.whole_blocks-whole.result in
    let span = c.span_in-span.result in
    let blocks = c.whole_blocks-whole.ensures in
    let inside = c.places_in-places.ensures.inside in
    let valid = c.requires.valid in
    let above = height-above part rows c.requires.over in
    let some : whole.from < whole.to = omega (arith, c.are_scanned-scan.ensures.some c.if-scan.false, blocks.ordered) in
    let are = AreWhole-found part places whole inside.within blocks.last some blocks.front blocks.back in
    let high : 9 ≤ h = tall part rows c.requires.over whole are some in
    let front = whole.from - places.from in
    let back = places.to - whole.to in
    let few : front + back ≤ 1022 = omega (arith, blocks.few) in
    let mid = middle part valid rect span.from span.to c.span_in-span.ensures.ys places whole inside blocks.first blocks.ordered blocks.last rows c.requires.over span
    c.span_in-span.ensures.row c.span_in-span.ensures.start in
    let ends = ends_inside h whole span in
    let most = rows_counted h ends (rows_to h - span.row) (omega (arith, high, c.span_in-span.ensures.row)) (ends_few h whole span) in
    let bound = at_height h _ front back _ _ _ _ (blocks_touches 0 (rows_to h - span.row) ends) c.requires.over.height most few
    (length_three part rect places valid.flagged inside whole.from whole.to blocks.first blocks.ordered blocks.last (live_in_span part rows span.from span.to whole span) mid) in
    Spends-within (Spends-then (Spends-then (c.places_in-places.ensures.cost h above) (c.span_in-span.ensures.cost h above)) c.list_places-2.ensures.cost) refl refl (less_two _ _ _ _ bound)

pub returns-in_err-list_places-2-clause-cost : goal.returns-in_err-list_places-2-clause-cost
returns-in_err-list_places-2-clause-cost g c =
    let part = c.args.points.now in
    let rows = c.args.self.now in
    let rect = c.args.rect.now in
    let h = rows.height in
    let places = c.places_in-places.result in
    let whole = c.whole_blocks-whole.result in
    let span = c.span_in-span.result in
    let blocks = c.whole_blocks-whole.ensures in
    let inside = c.places_in-places.ensures.inside in
    let valid = c.requires.valid in
    let above = height-above part rows c.requires.over in
    let some : whole.from < whole.to = omega (arith, c.are_scanned-scan.ensures.some c.if-scan.false, blocks.ordered) in
    let are = AreWhole-found part places whole inside.within blocks.last some blocks.front blocks.back in
    let high : 9 ≤ h = tall part rows c.requires.over whole are some in
    let front = whole.from - places.from in
    let back = places.to - whole.to in
    let few : front + back ≤ 1022 = omega (arith, blocks.few) in
    let mid = middle part valid rect span.from span.to c.span_in-span.ensures.ys places whole inside blocks.first blocks.ordered blocks.last rows c.requires.over span
    c.span_in-span.ensures.row c.span_in-span.ensures.start in
    let ends = ends_inside h whole span in
    let most = rows_counted h ends (rows_to h - span.row) (omega (arith, high, c.span_in-span.ensures.row)) (ends_few h whole span) in
    let bound = at_height h _ front back _ _ _ _ (blocks_touches 0 (rows_to h - span.row) ends) c.requires.over.height most few
    (length_three part rect places valid.flagged inside whole.from whole.to blocks.first blocks.ordered blocks.last (live_in_span part rows span.from span.to whole span) mid) in
    Spends-within (Spends-then (Spends-then (Spends-then (c.places_in-places.ensures.cost h above) (c.span_in-span.ensures.cost h above)) c.list_places-2.ensures.cost) c.list_places-3.ensures.cost) refl refl (less_one _ _ _ bound)

pub returns-then-scan-clause-read : goal.returns-then-scan-clause-read
returns-then-scan-clause-read g c some = omega (arith, c.places_in-places.ensures.read some, c.list_places.ensures.cost.touches_kept)

pub returns-clause-read : goal.returns-clause-read
returns-clause-read g c some =
    let span = c.span_in-span.ensures.cost 64 (omega (arith, c.requires.over.few)) in
    let blocks = c.list_blocks.ensures.cost c.span_in-span.result.from c.span_in-span.result.to c.span_in-span.ensures.span in
    omega (
      arith,
      c.places_in-places.ensures.read some,
      span.touches_kept,
      c.list_places-2.ensures.cost.touches_kept,
      c.list_places-3.ensures.cost.touches_kept,
      blocks.touches_kept,
    )

pub returns-in_err-list_places-clause-read : goal.returns-in_err-list_places-clause-read
returns-in_err-list_places-clause-read g c some =
    let span = c.span_in-span.ensures.cost 64 (omega (arith, c.requires.over.few)) in
    omega (arith, c.places_in-places.ensures.read some, span.touches_kept, c.list_places-2.ensures.cost.touches_kept)

pub returns-in_err-list_places-2-clause-read : goal.returns-in_err-list_places-2-clause-read
returns-in_err-list_places-2-clause-read g c some =
    let span = c.span_in-span.ensures.cost 64 (omega (arith, c.requires.over.few)) in
    omega (
      arith,
      c.places_in-places.ensures.read some,
      span.touches_kept,
      c.list_places-2.ensures.cost.touches_kept,
      c.list_places-3.ensures.cost.touches_kept,
    )
