use Rattle.std.proofs.Common.{◌≡◌, ◌+◌, ◌-◌, ◌/◌, ◌≤◌, ◌++◌, List, ℕ, ap, arith, refl, sym, subst}
use Rattle.std.specs.List.{sum_by, filter}
use Rattle.std.proofs.lemmas.List.Sums.{sum_by-append}
use Rattle.query_laws.specs.StepLedger.{Spends}
use Rattle.query_laws.proofs.Counting.{Spends-then, Spends-within, Spends-one_touch}
use Rattle.map_shapes.specs.declared.point.Point.{Point}
use Rattle.map_shapes.specs.Questions.{is_in}
use Rattle.range_tree.specs.Measures.{measure_of}
use Rattle.range_tree.specs.Queries.{live_between}
use Rattle.range_tree.proofs.Between.{live_in-split}
use Rattle.range_tree.proofs.Budgets.{leaf_touches-both, leaf_touches-few}
use Rattle.range_tree.proofs.ScanLemmas.{leaf_of, reached}
use Rattle.range_tree.proofs.rows.RangeTree.measure_places.Goals as goal

-- a leaf more
one_leaf : (leaves more before here all : ℕ) → leaves + 1 ≤ more → before + here ≤ all → leaves + before + 1 + here ≤ more + all
one_leaf leaves more before here all next few = omega (arith, next, few)

-- all leaves
all_leaves : (from to l before all : ℕ) → from ≤ to → l ≤ (to + 15) / 16 → before ≤ all → l - from / 16 + before ≤ (to - from) / 16 + 2 + all
all_leaves from to l before all ordered last few = omega (arith, ordered, last, few)

pub measure_leaf-sum-requires : goal.measure_leaf-sum-requires
measure_leaf-sum-requires g c =
    let all = c.requires.inside in
    let ends = c.div_ceil-l-end.ensures in
    record {
      leaf = leaf_of c.args.points.now c.args.rect.now c.args.self.now.leaves.items all.0 (record { from = c.max-from.result; to = c.min-to.result }) c.loop-l.l
          c.at-leaf.result c.requires.over.leaves all.1 (omega (arith, all.2, c.max-from.ensures))
          (omega (arith, c.max-from.ensures, c.min-to.ensures, ends)) (omega (arith, all.3, c.min-to.ensures)) (omega (arith, c.max-from.ensures))
          (omega (arith, c.min-to.ensures)) c.at-leaf.ensures.read;
    }

pub loop-l-preserved : goal.loop-l-preserved
loop-l-preserved g c =
    let part = c.args.points.now in
    let rect = c.args.rect.now in
    let from = c.args.places.from in
    let to = c.args.places.to in
    let a = c.max-from.result in
    let b = c.min-to.result in
    let at_a : reached from to c.loop-l.l ≡ a = omega (arith, c.max-from.ensures, c.div_ceil-l-end.ensures) in
    let at_b : reached from to (c.loop-l.l + 1) ≡ b = omega (arith, c.min-to.ensures, c.div_ceil-l-end.ensures) in
    let low : from ≤ a = omega (arith, c.max-from.ensures) in
    let high : a ≤ b = omega (arith, c.max-from.ensures, c.min-to.ensures, c.div_ceil-l-end.ensures) in
    let f : Point → ℕ = measure_of c.args.measure in
    let live : ℕ → ℕ → List Point = λ i j. filter (is_in rect) (live_between part i j) in
    let more : live from b ≡ live from a ++ live a b = live_in-split part rect from a b low high in
    let touched = subst (λ s. Spends c.loop-l.steps s 0 0 1) (sym c.at-leaf.ensures.touched) (Spends-one_touch c.loop-l.steps) in
    record {
      sum = omega (
        arith,
        c.loop-l.invariant.sum,
        c.measure_leaf-sum.ensures.sum,
        ap (λ r. sum_by f (live from r)) at_a,
        ap (λ r. sum_by f (live from r)) at_b,
        ap (sum_by f) more,
        sum_by-append f (live from a) (live a b),
      );
      few = omega (arith, c.loop-l.invariant.few, c.measure_leaf-sum.ensures.small, at_a, at_b, low, high);
      spent = Spends-within (Spends-then (Spends-then c.loop-l.invariant.spent touched) c.measure_leaf-sum.ensures.cost) refl refl
          (one_leaf (c.loop-l.l - from / 16) (c.loop-l.l + 1 - from / 16) _ _ _ (omega arith)
          (leaf_touches-both c.args.measure (reached from to c.loop-l.l - from) (b - a) (reached from to (c.loop-l.l + 1) - from) (omega (arith, at_a, at_b, low, high))));
    }

pub returns-clause-cost : goal.returns-clause-cost
returns-clause-cost g c =
    let from = c.args.places.from in
    let to = c.args.places.to in
    let l = c.loop-l.l in
    let end = c.div_ceil-l-end.ensures in
    let last : l ≤ c.div_ceil-l-end.result = c.loop-l.auto.l-end (omega (arith, c.requires.ordered, end)) in
    let few : reached from to l - from ≤ to - from = omega (arith, c.requires.ordered) in
    Spends-within c.loop-l.invariant.spent refl refl
    (all_leaves from to l _ _ c.requires.ordered (omega (arith, last, end)) (leaf_touches-few c.args.measure (reached from to l - from) (to - from) few))
