use Rattle.std.proofs.Common.{◌-◌, ◌<◌, ◌≤◌, ◌^◌, List, length, slice_get, ap, ◌∙◌, arith, refl}
use Rattle.map_shapes.specs.declared.point.Point.{Point}
use Rattle.query_laws.proofs.Counting.{Spends-then, Spends-within}
use Rattle.builder_trait.proofs.SearchLemmas.{Spends-searched}
use Rattle.map_structures.specs.declared.reach.Reach.TheVariants.{Below, UpTo}
use Rattle.map_structures.proofs.Reaching.{below-from_reaches, from-from_reaches, up_to-from_reaches, above-from_reaches}
use Rattle.priority_tree.proofs.Searching.{PassesUpTo-xs, at_place, is_between_places}
use Rattle.priority_tree.proofs.strip.strip_of.Goals as goal

pub partition_point-from-requires-clause-up_to_some : goal.partition_point-from-requires-clause-up_to_some
partition_point-from-requires-clause-up_to_some g c =
    PassesUpTo-xs (Below c.args.x1) c.items-row.result.now.items 0 c.len.result c.items-row.ensures.rising (omega (arith, c.len.ensures.value))

pub partition_point-to-requires-clause-up_to_some : goal.partition_point-to-requires-clause-up_to_some
partition_point-to-requires-clause-up_to_some g c =
    PassesUpTo-xs (UpTo c.args.x2) c.items-row.result.now.items c.partition_point-from.result c.len-2.result c.items-row.ensures.rising
    (omega (arith, c.len-2.ensures.value))

pub returns-clause-strip : goal.returns-clause-strip
returns-clause-strip g c =
    let from = c.partition_point-from.result in
    let to = c.partition_point-to.result in
    let row = c.items-row.result.now.items in
    let long = ap (λ (l : List Point). length l) c.items-row.ensures.value in
    record {
      ordered = c.partition_point-to.ensures.from_low;
      within = omega (arith, c.partition_point-to.ensures.to_high, c.len-2.ensures.value, long);
      each = λ k p at.
          let there = ap (λ (l : List Point). slice_get l k) c.items-row.ensures.value ∙ at in
          is_between_places from to k c.args.x1 c.args.x2 p.x
          (λ less. at_place (λ q. q.x < c.args.x1) row k p there (λ inside. below-from_reaches _ _ (c.partition_point-from.ensures.before k p (omega arith) less)))
          (λ low high. at_place (λ q. q.x ≤ c.args.x2) row k p there (λ inside. up_to-from_reaches _ _ (c.partition_point-to.ensures.before k p low high)))
          (λ low. at_place (λ q. c.args.x1 ≤ q.x) row k p there (λ inside. from-from_reaches _ _ (c.partition_point-from.ensures.after k p low (omega (arith, inside, c.len.ensures.value)))))
          (λ more. at_place (λ q. c.args.x2 < q.x) row k p there (λ inside. above-from_reaches _ _ (c.partition_point-to.ensures.after k p more (omega (arith, inside, c.len-2.ensures.value)))))
          c.partition_point-to.ensures.from_low;
    }

pub returns-clause-cost : goal.returns-clause-cost
returns-clause-cost g c h few =
    let long = ap (λ (l : List Point). length l) c.items-row.ensures.value in
    let first : c.len.result - 0 ≤ 2 ^ h = omega (arith, long, c.len.ensures.value) in
    let second : c.len-2.result - c.partition_point-from.result ≤ 2 ^ h = omega (arith, long, c.len-2.ensures.value) in
    Spends-within
    (Spends-then (Spends-searched h (c.len.result - 0) first c.partition_point-from.ensures.cost)
    (Spends-searched h (c.len-2.result - c.partition_point-from.result) second c.partition_point-to.ensures.cost))
    refl refl (omega arith)

pub returns-clause-read : goal.returns-clause-read
returns-clause-read g c some =
    let long = ap (λ (l : List Point). length l) c.items-row.ensures.value in
    let first = c.partition_point-from.ensures.read (omega (arith, some, long, c.len.ensures.value)) in
    let rest = c.partition_point-to.ensures.cost 64 (omega arith) in
    omega (arith, first, rest.touches_kept)
