use Rattle.std.proofs.Common.{◌≡◌, ◌+◌, ◌^◌, ◌<◌, ◌++◌, List, length, length-append, map, w64, ap, ◌∙◌, sym, arith, refl}
use Rattle.std.specs.Int.{trailing_zeros}
use Rattle.std.specs.List.{filter}
use Rattle.query_laws.proofs.Counting.{Spends-then, Spends-within}
use Rattle.map_shapes.specs.declared.point.Point.{Point}
use Rattle.map_shapes.specs.Questions.{is_in}
use Rattle.range_tree.specs.LeafHits.{points_at}
use Rattle.range_tree.specs.Queries.{live_between}
use Rattle.range_tree.proofs.HitBits.{gap_small, gap_inside, hits_left}
use Rattle.range_tree.proofs.HitPlaces.{points_one, next_found, all_found}
use Rattle.range_tree.proofs.ScanLemmas.{live_in-few, listed_next}
use Rattle.range_tree.proofs.scanning.list_leaf.Goals as goal

pub hit_bits-left-requires : goal.hit_bits-left-requires
hit_bits-left-requires g c = record { ordered = c.requires.leaf.ordered; own = c.requires.leaf.own }

pub overflow_shr-left : goal.overflow_shr-left
overflow_shr-left g c =
    let some : 0 < c.loop-left.left = omega arith in
    let small : c.loop-left.left < 2 ^ 64 = omega arith in
    gap_small c.args.rect.now c.args.leaf.now c.loop-left.place c.args.places.to c.loop-left.left c.loop-left.invariant.hits some small

pub overflow_add-place : goal.overflow_add-place
overflow_add-place g c =
    let some : 0 < c.loop-left.left = omega arith in
    let small : c.loop-left.left < 2 ^ 64 = omega arith in
    let inside = gap_inside c.args.rect.now c.args.leaf.now c.loop-left.place c.args.places.to c.loop-left.left c.loop-left.invariant.hits some small in
    omega (arith, inside)

pub overflow_add-place-in-loop-left : goal.overflow_add-place-in-loop-left
overflow_add-place-in-loop-left g c =
    let some : 0 < c.loop-left.left = omega arith in
    let small : c.loop-left.left < 2 ^ 64 = omega arith in
    let inside = gap_inside c.args.rect.now c.args.leaf.now c.loop-left.place c.args.places.to c.loop-left.left c.loop-left.invariant.hits some small in
    omega (arith, inside)

pub loop-left-smaller : goal.loop-left-smaller
loop-left-smaller g c =
    let some : 0 < c.loop-left.left = omega arith in
    let small : c.loop-left.left < 2 ^ 64 = omega arith in
    let inside = gap_inside c.args.rect.now c.args.leaf.now c.loop-left.place c.args.places.to c.loop-left.left c.loop-left.invariant.hits some small in
    omega (arith, inside)

pub list_at-requires : goal.list_at-requires
list_at-requires g c =
    let some : 0 < c.loop-left.left = omega arith in
    let small : c.loop-left.left < 2 ^ 64 = omega arith in
    let inside = gap_inside c.args.rect.now c.args.leaf.now c.loop-left.place c.args.places.to c.loop-left.left c.loop-left.invariant.hits some small in
    omega (arith, inside, c.requires.leaf.within)

pub loop-left-preserved : goal.loop-left-preserved
loop-left-preserved g c =
    let part = c.args.points.now in
    let rect = c.args.rect.now in
    let leaf = c.args.leaf.now in
    let places = c.args.places in
    let at = c.loop-left.invariant in
    let some : 0 < c.loop-left.left = omega arith in
    let small : c.loop-left.left < 2 ^ 64 = omega arith in
    let inside = gap_inside c.args.rect.now c.args.leaf.now c.loop-left.place c.args.places.to c.loop-left.left c.loop-left.invariant.hits some small in
    let hit = c.loop-left.place + trailing_zeros w64 c.loop-left.left in
    let before : List Point = filter (is_in rect) (live_between part places.from c.loop-left.place) in
    let here : List Point = points_at part hit in
    let more = next_found part rect places leaf c.requires.leaf c.loop-left.place c.loop-left.left at.from at.up_to at.hits some small in
    let one = points_one part hit (omega (arith, inside, c.requires.leaf.within)) in
    record {
      from = omega (arith, at.from);
      up_to = omega (arith, inside);
      hits = hits_left rect leaf c.loop-left.place places.to c.loop-left.left at.hits some small;
      listed = listed_next (λ (p : Point). p.id) c.args.tally.now c.loop-left.tally _ before here _ at.listed c.in_ok-list_at.ensures.listed more;
      spent = Spends-within (Spends-then at.spent c.list_at.ensures.cost) refl refl (omega (arith, one, ap length more, length-append before here));
    }

pub returns-clause-listed : goal.returns-clause-listed
returns-clause-listed g c =
    let part = c.args.points.now in
    let rect = c.args.rect.now in
    let leaf = c.args.leaf.now in
    let places = c.args.places in
    let at = c.loop-left.invariant in
    let none : c.loop-left.left ≡ 0 = omega arith in
    at.listed
    ∙ ap (λ l. c.args.tally.now ++ map (λ (p : Point). p.id) l)
    (sym (all_found part rect places leaf c.requires.leaf c.loop-left.place c.loop-left.left at.from at.up_to at.hits none))

pub returns-clause-cost : goal.returns-clause-cost
returns-clause-cost g c =
    let part = c.args.points.now in
    let rect = c.args.rect.now in
    let leaf = c.args.leaf.now in
    let places = c.args.places in
    let at = c.loop-left.invariant in
    let few = live_in-few part rect places.from c.loop-left.place places.to at.from at.up_to in
    Spends-within at.spent refl refl (omega (arith, few))

pub returns-in_err-list_at-clause-cost : goal.returns-in_err-list_at-clause-cost
returns-in_err-list_at-clause-cost g c =
    let part = c.args.points.now in
    let rect = c.args.rect.now in
    let leaf = c.args.leaf.now in
    let places = c.args.places in
    let at = c.loop-left.invariant in
    let some : 0 < c.loop-left.left = omega arith in
    let small : c.loop-left.left < 2 ^ 64 = omega arith in
    let inside = gap_inside c.args.rect.now c.args.leaf.now c.loop-left.place c.args.places.to c.loop-left.left c.loop-left.invariant.hits some small in
    let hit = c.loop-left.place + trailing_zeros w64 c.loop-left.left in
    let before : List Point = filter (is_in rect) (live_between part places.from c.loop-left.place) in
    let here : List Point = points_at part hit in
    let more = next_found part rect places leaf c.requires.leaf c.loop-left.place c.loop-left.left at.from at.up_to at.hits some small in
    let one = points_one part hit (omega (arith, inside, c.requires.leaf.within)) in
    let few = live_in-few part rect places.from (hit + 1) places.to (omega (arith, at.from)) (omega (arith, inside)) in
    Spends-within (Spends-then at.spent c.list_at.ensures.cost) refl refl (omega (arith, one, few, ap length more, length-append before here))
