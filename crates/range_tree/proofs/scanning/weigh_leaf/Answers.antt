use Rattle.std.proofs.Common.{◌≡◌, ◌+◌, ◌^◌, ◌<◌, List, w64, ap, ◌∙◌, sym, arith, refl}
use Rattle.std.specs.Int.{trailing_zeros}
use Rattle.std.specs.List.{sum_by, filter}
use Rattle.std.proofs.lemmas.List.Sums.{sum_by-append}
use Rattle.query_laws.proofs.Counting.{Spends-then, Spends-within}
use Rattle.map_shapes.specs.declared.point.Point.{Point}
use Rattle.map_shapes.specs.Questions.{is_in}
use Rattle.range_tree.specs.LeafHits.{points_at}
use Rattle.range_tree.specs.Queries.{live_between}
use Rattle.range_tree.proofs.HitBits.{gap_small, gap_inside, hits_left}
use Rattle.range_tree.proofs.HitPlaces.{next_found, all_found}
use Rattle.range_tree.proofs.scanning.weigh_leaf.Goals as goal

pub hit_bits-left-requires : goal.hit_bits-left-requires
hit_bits-left-requires g c = record { ordered = c.requires.leaf.ordered; own = c.requires.leaf.own }

pub overflow_shr-left : goal.overflow_shr-left
overflow_shr-left g c =
    let some : 0 < c.loop-left.left = omega arith in
    let small : c.loop-left.left < 2 ^ 64 = omega arith in
    gap_small c.args.rect.now c.args.leaf.now c.loop-left.place c.args.places.to c.loop-left.left c.loop-left.invariant.hits some small

pub overflow_add-place : goal.overflow_add-place
overflow_add-place g c =
    let some : 0 < c.loop-left.left = omega arith in
    let small : c.loop-left.left < 2 ^ 64 = omega arith in
    let inside = gap_inside c.args.rect.now c.args.leaf.now c.loop-left.place c.args.places.to c.loop-left.left c.loop-left.invariant.hits some small in
    omega (arith, inside)

pub overflow_add-place-in-loop-left : goal.overflow_add-place-in-loop-left
overflow_add-place-in-loop-left g c =
    let some : 0 < c.loop-left.left = omega arith in
    let small : c.loop-left.left < 2 ^ 64 = omega arith in
    let inside = gap_inside c.args.rect.now c.args.leaf.now c.loop-left.place c.args.places.to c.loop-left.left c.loop-left.invariant.hits some small in
    omega (arith, inside)

pub loop-left-smaller : goal.loop-left-smaller
loop-left-smaller g c =
    let some : 0 < c.loop-left.left = omega arith in
    let small : c.loop-left.left < 2 ^ 64 = omega arith in
    let inside = gap_inside c.args.rect.now c.args.leaf.now c.loop-left.place c.args.places.to c.loop-left.left c.loop-left.invariant.hits some small in
    omega (arith, inside)

pub weigh_at-sum-requires : goal.weigh_at-sum-requires
weigh_at-sum-requires g c =
    let some : 0 < c.loop-left.left = omega arith in
    let small : c.loop-left.left < 2 ^ 64 = omega arith in
    let inside = gap_inside c.args.rect.now c.args.leaf.now c.loop-left.place c.args.places.to c.loop-left.left c.loop-left.invariant.hits some small in
    omega (arith, inside, c.requires.leaf.within)

pub overflow_add-sum : goal.overflow_add-sum
overflow_add-sum g c = omega (arith, c.loop-left.invariant.few, c.loop-left.invariant.up_to, c.weigh_at-sum.ensures.small, c.requires.leaf.own)

pub loop-left-preserved : goal.loop-left-preserved
loop-left-preserved g c =
    let part = c.args.points.now in
    let rect = c.args.rect.now in
    let leaf = c.args.leaf.now in
    let places = c.args.places in
    let at = c.loop-left.invariant in
    let some : 0 < c.loop-left.left = omega arith in
    let small : c.loop-left.left < 2 ^ 64 = omega arith in
    let inside = gap_inside c.args.rect.now c.args.leaf.now c.loop-left.place c.args.places.to c.loop-left.left c.loop-left.invariant.hits some small in
    let before : List Point = filter (is_in rect) (live_between part places.from c.loop-left.place) in
    let here : List Point = points_at part (c.loop-left.place + trailing_zeros w64 c.loop-left.left) in
    let more = next_found part rect places leaf c.requires.leaf c.loop-left.place c.loop-left.left at.from at.up_to at.hits some small in
    record {
      from = omega (arith, at.from);
      up_to = omega (arith, inside);
      hits = hits_left rect leaf c.loop-left.place places.to c.loop-left.left at.hits some small;
      sum = omega (arith, at.sum, c.weigh_at-sum.ensures.sum, ap (sum_by (λ (p : Point). p.w)) more, sum_by-append (λ (p : Point). p.w) before here);
      few = omega (arith, at.few, at.from, c.weigh_at-sum.ensures.small);
      spent = Spends-within (Spends-then at.spent c.weigh_at-sum.ensures.cost) refl refl (omega (arith, at.from));
    }

pub returns-clause-sum : goal.returns-clause-sum
returns-clause-sum g c =
    let part = c.args.points.now in
    let rect = c.args.rect.now in
    let leaf = c.args.leaf.now in
    let places = c.args.places in
    let at = c.loop-left.invariant in
    let none : c.loop-left.left ≡ 0 = omega arith in
    at.sum ∙ ap (sum_by (λ (p : Point). p.w)) (sym (all_found part rect places leaf c.requires.leaf c.loop-left.place c.loop-left.left at.from at.up_to at.hits none))

pub returns-clause-small : goal.returns-clause-small
returns-clause-small g c = omega (arith, c.loop-left.invariant.few, c.loop-left.invariant.up_to)

pub returns-clause-cost : goal.returns-clause-cost
returns-clause-cost g c = Spends-within c.loop-left.invariant.spent refl refl (omega (arith, c.loop-left.invariant.up_to))
