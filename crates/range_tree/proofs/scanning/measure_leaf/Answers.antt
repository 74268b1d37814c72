use Rattle.std.proofs.Common.{◌≡◌, ◌-◌, ◌≤◌, List, arith, refl, subst, sym, ◌∙◌, count_ones}
use Rattle.std.specs.List.{sum_by}
use Rattle.std.proofs.lemmas.Nat.{ones-le}
use Rattle.query_laws.proofs.Counting.{Spends-nothing, Spends-within}
use Rattle.map_shapes.specs.declared.point.Point.{Point}
use Rattle.range_tree.specs.Measures.{leaf_touches, measure_of}
use Rattle.range_tree.specs.Queries.{live_in_places}
use Rattle.range_tree.proofs.Hits.{leaf_hits}
use Rattle.range_tree.proofs.SpanSums.{sum_by-one}
use Rattle.range_tree.proofs.scanning.measure_leaf.Goals as goal

pub hit_bits-requires : goal.hit_bits-requires
hit_bits-requires g c = record { ordered = c.requires.leaf.ordered; own = c.requires.leaf.own }

pub returns-in-Count-clause-sum : goal.returns-in-Count-clause-sum
returns-in-Count-clause-sum g c =
    let live : List Point = live_in_places c.args.points.now c.args.rect.now c.args.places in
    subst (λ m. count_ones c.hit_bits.result ≡ sum_by (measure_of m) live) (sym c.in-Count.is)
    (leaf_hits c.args.points.now c.args.rect.now c.args.places c.args.leaf.now c.requires.leaf c.hit_bits.result c.hit_bits.ensures ∙ sym (sum_by-one live))

pub returns-in-Count-clause-small : goal.returns-in-Count-clause-small
returns-in-Count-clause-small g c =
    let n = c.args.places.to - c.args.places.from in
    omega (arith, ones-le n c.hit_bits.result c.hit_bits.ensures.no_more)

pub returns-in-Count-clause-cost : goal.returns-in-Count-clause-cost
returns-in-Count-clause-cost g c = Spends-within (Spends-nothing c.args.steps.now) refl refl (omega arith)

pub returns-in-Weight-clause-cost : goal.returns-in-Weight-clause-cost
returns-in-Weight-clause-cost g c =
    let n = c.args.places.to - c.args.places.from in
    Spends-within c.weigh_leaf.ensures.cost refl refl (subst (λ m. n ≤ leaf_touches m n) (sym c.in-Weight.is) (omega arith))
