use Rattle.std.proofs.Common.{◌≡◌, ◌+◌, ◌≤◌, ◌++◌, List, ℕ, length, length-append, map, ap, arith, refl, sym, subst, ◌∙◌}
use Rattle.std.specs.List.{filter}
use Rattle.query_laws.specs.StepLedger.{Spends}
use Rattle.query_laws.proofs.Counting.{Spends-then, Spends-within, Spends-one_touch}
use Rattle.map_shapes.specs.declared.point.Point.{Point}
use Rattle.map_shapes.specs.Questions.{is_in}
use Rattle.range_tree.specs.Queries.{live_between}
use Rattle.range_tree.proofs.Between.{live_in-split}
use Rattle.range_tree.proofs.ScanLemmas.{leaf_of, reached, live_in-few, listed_next}
use Rattle.range_tree.proofs.rows.RangeTree.list_places.Goals as goal

pub list_leaf-requires : goal.list_leaf-requires
list_leaf-requires g c =
    let all = c.requires.inside in
    let ends = c.div_ceil-l-end.ensures in
    record {
      leaf = leaf_of c.args.points.now c.args.rect.now c.args.self.now.leaves.items all.0 (record { from = c.max-from.result; to = c.min-to.result }) c.loop-l.l
          c.at-leaf.result c.requires.over.leaves all.1 (omega (arith, all.2, c.max-from.ensures))
          (omega (arith, c.max-from.ensures, c.min-to.ensures, ends)) (omega (arith, all.3, c.min-to.ensures)) (omega (arith, c.max-from.ensures))
          (omega (arith, c.min-to.ensures)) c.at-leaf.ensures.read;
    }

pub loop-l-preserved : goal.loop-l-preserved
loop-l-preserved g c =
    let part = c.args.points.now in
    let rect = c.args.rect.now in
    let from = c.args.places.from in
    let to = c.args.places.to in
    let a = c.max-from.result in
    let b = c.min-to.result in
    let at_a : reached from to c.loop-l.l ≡ a = omega (arith, c.max-from.ensures, c.div_ceil-l-end.ensures) in
    let at_b : reached from to (c.loop-l.l + 1) ≡ b = omega (arith, c.min-to.ensures, c.div_ceil-l-end.ensures) in
    let low : from ≤ a = omega (arith, c.max-from.ensures) in
    let high : a ≤ b = omega (arith, c.max-from.ensures, c.min-to.ensures, c.div_ceil-l-end.ensures) in
    let live : ℕ → ℕ → List Point = λ i j. filter (is_in rect) (live_between part i j) in
    let more : live from b ≡ live from a ++ live a b = live_in-split part rect from a b low high in
    let touched = subst (λ s. Spends c.loop-l.steps s 0 0 1) (sym c.at-leaf.ensures.touched) (Spends-one_touch c.loop-l.steps) in
    record {
      listed = listed_next (λ (p : Point). p.id) c.args.tally.now c.loop-l.tally _ (live from a) (live a b) (live from (reached from to (c.loop-l.l + 1)))
          (c.loop-l.invariant.listed ∙ ap (λ r. c.args.tally.now ++ map (λ (p : Point). p.id) (live from r)) at_a) c.in_ok-list_leaf.ensures.listed
          (ap (live from) at_b ∙ more);
      spent = Spends-within (Spends-then (Spends-then c.loop-l.invariant.spent touched) c.list_leaf.ensures.cost) refl refl
          (omega (arith, ap (λ r. length (live from r)) at_a, ap (λ r. length (live from r)) at_b, ap length more, length-append (live from a) (live a b)));
    }

pub returns-in_err-list_leaf-clause-cost : goal.returns-in_err-list_leaf-clause-cost
returns-in_err-list_leaf-clause-cost g c =
    let part = c.args.points.now in
    let rect = c.args.rect.now in
    let from = c.args.places.from in
    let to = c.args.places.to in
    let a = c.max-from.result in
    let b = c.min-to.result in
    let at_a : reached from to c.loop-l.l ≡ a = omega (arith, c.max-from.ensures, c.div_ceil-l-end.ensures) in
    let low : from ≤ a = omega (arith, c.max-from.ensures) in
    let high : a ≤ b = omega (arith, c.max-from.ensures, c.min-to.ensures, c.div_ceil-l-end.ensures) in
    let last : b ≤ to = omega (arith, c.min-to.ensures) in
    let live : ℕ → ℕ → List Point = λ i j. filter (is_in rect) (live_between part i j) in
    let more : live from b ≡ live from a ++ live a b = live_in-split part rect from a b low high in
    let few = live_in-few part rect from b to (omega (arith, low, high)) last in
    let touched = subst (λ s. Spends c.loop-l.steps s 0 0 1) (sym c.at-leaf.ensures.touched) (Spends-one_touch c.loop-l.steps) in
    Spends-within (Spends-then (Spends-then c.loop-l.invariant.spent touched) c.list_leaf.ensures.cost) refl refl
    (omega (arith, ap (λ r. length (live from r)) at_a, ap length more, length-append (live from a) (live a b), few, c.div_ceil-l-end.ensures, c.requires.ordered))
