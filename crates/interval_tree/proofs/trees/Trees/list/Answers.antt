use Rattle.std.proofs.Common.{rules, ◌≡◌, ℕ, ◌+◌, ◌*◌, ◌^◌, ◌<◌, ◌≤◌, ◌++◌, List, [], ◌∷◌, length, map, filter, refl, ap, ◌∙◌, arith}
use Rattle.std.specs.Prelude.{nat_le}
use Rattle.std.proofs.lemmas.Grind.{common_steps}
use Rattle.map_model.specs.Found.{sorted_by}
use Rattle.map_model.specs.Shape.{is_stabbed}
use Rattle.map_model.specs.State.{Item}
use Rattle.map_shapes.specs.Ascending.{sorted_ids, sorted_union}
use Rattle.map_shapes.specs.AscendingLaws.{sorted_ids-append, sorted_ids-sorted_by}
use Rattle.map_shapes.specs.Segment.{item_of_segment}
use Rattle.map_questions.specs.Questions.{stab}
use Rattle.std.proofs.Math.Nat.{mul-le-mul_right}
use Rattle.query_laws.specs.StepLedger.{Counts, Spends}
use Rattle.query_laws.proofs.Counting.{Spends-then, Spends-weaker}
use Rattle.row_blocks.specs.Heights.{height_of, IsLeastHeight-height_of}
use Rattle.builder_trait.specs.Parts.{Contents, live_of}
use Rattle.map_shapes.specs.declared.segment.Segment.{Segment}
use Rattle.interval_tree.specs.Queries.{is_over, has_begun, hits, hits_before, IsCut}
use Rattle.interval_tree.specs.Costs.{walk_touches, stab_touches}
use Rattle.interval_tree.proofs.Hits.{hits_before-all, length-hits_before-le}
use Rattle.interval_tree.proofs.trees.Trees.list.Goals as goal

-- the identifiers of a scan
scanned : (x : ℕ) (ss : List Segment)
    → map (λ s. s.id) (filter (is_over x) ss) ≡ map (λ (item : Item). item.id) (filter (λ (item : Item). is_stabbed x item.shape) (map item_of_segment ss))
scanned x [] = refl
scanned x (s ∷ ss) = grind (arith, common_steps, scanned x ss)

joined : (x : ℕ) (ss : List Segment) (old new : List ℕ) → new ≡ old ++ map (λ s. s.id) (filter (is_over x) ss)
    → sorted_ids new ≡ sorted_union (sorted_ids old) (stab x ss)
joined x ss old new is =
    let ids : List ℕ = map (λ (s : Segment). s.id) (filter (is_over x) ss) in
    ap sorted_ids is ∙ sorted_ids-append old ids
    ∙ ap (sorted_union (sorted_ids old)) (sorted_ids-sorted_by ids ∙ ap (sorted_by nat_le) (scanned x ss))

-- a search for each segment that was listed, and one more
searched : {old mid new : Counts} (h listed all : ℕ) → listed ≤ all → Spends old mid 0 0 (h + 1 + listed * (6 * (h + 2) + 1))
    → Spends mid new 0 0 (6 * (h + 2) + 1) → Spends old new 0 0 (walk_touches h * (all + 1))
searched h listed all few before last = Spends-weaker (Spends-then before last) (omega (arith, mul-le-mul_right (walk_touches h) few))

paid : (x : ℕ) (part : Contents Segment) (from to : ℕ) {old mid new : Counts} → length part.flags ≡ length part.items → length part.items ≤ 2 ^ 31
    → IsCut (has_begun x) part.items to → from ≤ to
    → ((h : ℕ) → length part.items ≤ 2 ^ h → Spends old mid 0 0 (h + 1 + length (hits_before x part from) * (6 * (h + 2) + 1)))
    → ((h : ℕ) → length part.items ≤ 2 ^ h → Spends mid new 0 0 (6 * (h + 2) + 1)) → Spends old new 0 0 (stab_touches x part)
paid x part from to flagged small cut ordered before last =
    let h = height_of (length part.items) in
    let few : length part.items ≤ 2 ^ h = (IsLeastHeight-height_of (length part.items) (omega arith)).above in
    searched h (length (hits_before x part from)) (length (hits x part))
    (omega (arith, length-hits_before-le x part flagged from to ordered cut.within, ap length (hits_before-all x part to flagged cut)))
    (before h few) (last h few)

-- what was read before a search is read after it
still_read : {old : ℕ} {mid new : Counts} (part : Contents Segment) → length part.items ≤ 2 ^ 31 → old < mid.touches
    → ((h : ℕ) → length part.items ≤ 2 ^ h → Spends mid new 0 0 (6 * (h + 2) + 1)) → old < new.touches
still_read part small read last = omega (arith, read, (last 31 small).touches_kept)

pub returns-in_err-next-clause-read : goal.returns-in_err-next-clause-read
returns-in_err-next-clause-read g c some =
    still_read c.args.segments.now c.requires.over.few (c.loop-next.invariant.read some) c.list_next.ensures.cost

pub loop-next-preserved : goal.loop-next-preserved
loop-next-preserved g c = record {
  ordered = search rules;
  listed = search rules;
  read = λ some. still_read c.args.segments.now c.requires.over.few (c.loop-next.invariant.read some) c.list_next.ensures.cost;
  cost = search rules;
}

pub returns-clause-read : goal.returns-clause-read
returns-clause-read g c some =
    still_read c.args.segments.now c.requires.over.few (c.loop-next.invariant.read some) c.list_next.ensures.cost

pub returns-in_err-next-clause-cost : goal.returns-in_err-next-clause-cost
returns-in_err-next-clause-cost g c =
    paid c.args.x c.args.segments.now c.loop-next.from c.begun-to.result c.requires.over.flagged c.requires.over.few c.begun-to.ensures.cut
    c.loop-next.invariant.ordered c.loop-next.invariant.cost c.list_next.ensures.cost

pub returns-clause-joined : goal.returns-clause-joined
returns-clause-joined g c =
    let x = c.args.x in
    let part = c.args.segments.now in
    let tally = c.args.tally.now in
    let last : c.list_next.new.tally ≡ tally ++ map (λ (s : Segment). s.id) (hits_before x part c.begun-to.result) =
    rw c.in_default.is at (c.in_ok-next.ensures.listed tally c.loop-next.invariant.listed) in
    joined x (live_of part) tally c.list_next.new.tally
    (last ∙ ap (λ (l : List Segment). tally ++ map (λ (s : Segment). s.id) l) (hits_before-all x part c.begun-to.result c.requires.over.flagged c.begun-to.ensures.cut))

pub returns-clause-cost : goal.returns-clause-cost
returns-clause-cost g c =
    paid c.args.x c.args.segments.now c.loop-next.from c.begun-to.result c.requires.over.flagged c.requires.over.few c.begun-to.ensures.cut
    c.loop-next.invariant.ordered c.loop-next.invariant.cost c.list_next.ensures.cost
