use Rattle.std.proofs.Common.{◌≡◌, ◌-◌, ◌<◌, ◌≤◌, ◌^◌, List, ℕ, length, map, ap, arith, refl}
use Rattle.std.proofs.lemmas.List.{length-map}
use Rattle.query_laws.proofs.Counting.{Spends-then, Spends-within}
use Rattle.builder_trait.proofs.SearchLemmas.{Spends-searched}
use Rattle.map_shapes.specs.declared.point.Point.{Point}
use Rattle.map_structures.specs.declared.reach.Reach.TheVariants.{Below, UpTo}
use Rattle.map_structures.proofs.Reaching.{below-from_reaches, from-from_reaches, up_to-from_reaches, above-from_reaches}
use Rattle.range_tree.proofs.Searching.{PassesUpTo-xs, mapped_at, mapped_holds}
use Rattle.range_tree.proofs.rows.RangeTree.places_in.Goals as goal

pub partition_point-from-requires-clause-up_to_some : goal.partition_point-from-requires-clause-up_to_some
partition_point-from-requires-clause-up_to_some g c =
    PassesUpTo-xs (Below c.args.rect.now.x1) c.args.points.now.items c.args.self.now.xs.items 0 c.len.result c.requires.over.xs
    c.requires.valid.rising (omega (arith, c.len.ensures.value))

pub partition_point-to-requires-clause-up_to_some : goal.partition_point-to-requires-clause-up_to_some
partition_point-to-requires-clause-up_to_some g c =
    PassesUpTo-xs (UpTo c.args.rect.now.x2) c.args.points.now.items c.args.self.now.xs.items c.partition_point-from.result c.len-2.result
    c.requires.over.xs c.requires.valid.rising (omega (arith, c.len-2.ensures.value))

pub returns-clause-inside : goal.returns-clause-inside
returns-clause-inside g c =
    let points : List Point = c.args.points.now.items in
    let xs : List ℕ = c.args.self.now.xs.items in
    let is : xs ≡ map (λ (p : Point). p.x) points = c.requires.over.xs in
    let long = ap length is in
    let same = length-map points (λ (p : Point). p.x) in
    record {
      ordered = c.partition_point-to.ensures.from_low;
      within = omega (arith, c.partition_point-to.ensures.to_high, c.len-2.ensures.value, long, same);
      before = λ k p below at.
          mapped_holds (λ x. x < c.args.rect.now.x1) xs k p.x (mapped_at (λ q. q.x) points xs k p is at)
          (λ inside. below-from_reaches _ _ (c.partition_point-from.ensures.before k p.x (omega arith) below));
      inside = λ k p above below at. (
        mapped_holds (λ x. c.args.rect.now.x1 ≤ x) xs k p.x (mapped_at (λ q. q.x) points xs k p is at)
            (λ inside. from-from_reaches _ _ (c.partition_point-from.ensures.after k p.x above (omega (arith, inside, c.len.ensures.value)))),
        mapped_holds (λ x. x ≤ c.args.rect.now.x2) xs k p.x (mapped_at (λ q. q.x) points xs k p is at)
            (λ inside. up_to-from_reaches _ _ (c.partition_point-to.ensures.before k p.x above below)),
      );
      behind = λ k p above at.
          mapped_holds (λ x. c.args.rect.now.x2 < x) xs k p.x (mapped_at (λ q. q.x) points xs k p is at)
          (λ inside. above-from_reaches _ _ (c.partition_point-to.ensures.after k p.x above (omega (arith, inside, c.len-2.ensures.value))));
    }

pub returns-clause-cost : goal.returns-clause-cost
returns-clause-cost g c h few =
    let long = ap (λ (l : List ℕ). length l) c.requires.over.xs in
    let same = length-map c.args.points.now.items (λ (p : Point). p.x) in
    let first : c.len.result - 0 ≤ 2 ^ h = omega (arith, long, same, c.len.ensures.value) in
    let second : c.len-2.result - c.partition_point-from.result ≤ 2 ^ h = omega (arith, long, same, c.len-2.ensures.value) in
    Spends-within
    (Spends-then (Spends-searched h (c.len.result - 0) first c.partition_point-from.ensures.cost)
    (Spends-searched h (c.len-2.result - c.partition_point-from.result) second c.partition_point-to.ensures.cost))
    refl refl (omega arith)

pub returns-clause-read : goal.returns-clause-read
returns-clause-read g c some =
    let long = ap (λ (l : List ℕ). length l) c.requires.over.xs in
    let same = length-map c.args.points.now.items (λ (p : Point). p.x) in
    let first = c.partition_point-from.ensures.read (omega (arith, some, long, same, c.len.ensures.value)) in
    let rest = c.partition_point-to.ensures.cost 64 (omega arith) in
    omega (arith, first, rest.touches_kept)
