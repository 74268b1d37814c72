use Rattle.std.proofs.Common.{◌*◌, ◌/◌, ◌-◌, ◌^◌, ◌<◌, ◌≤◌, List, subst, arith}
use Rattle.std.specs.List.{sum_by}
use Rattle.std.proofs.lemmas.List.Sums.{sum_by-take-le}
use Rattle.std.proofs.lemmas.Nat.{pow_pos}
use Rattle.query_laws.proofs.Counting.{Spends-then, Spends-within}
use Rattle.weak_delete.specs.declared.place.Place.{Place}
use Rattle.weak_delete.specs.Places.{live_amount}
use Rattle.weak_delete.proofs.Opened.{opened}
use Rattle.weak_delete.proofs.live_counts.LiveCounts.sum_prefix.Goals as goal

pub overflow_add-result : goal.overflow_add-result
overflow_add-result g c =
    let o = opened c.self.inside c.args.self.now c.self.view_is in
    let kept = c.self.invariant in
    let small : sum_by live_amount c.args.self.now.places ≤ c.self.inside.len * (2 ^ 32 - 1) =
    subst (λ (ps : List Place). sum_by live_amount ps ≤ c.self.inside.len * (2 ^ 32 - 1)) o.places kept.small in
    omega (
      arith,
      small,
      kept.within,
      kept.few,
      c.below-before.ensures.over.weight,
      c.weight_before.ensures.sum,
      sum_by-take-le live_amount c.args.self.now.places c.args.k,
    )

pub returns-clause-cost : goal.returns-clause-cost
returns-clause-cost g c h few =
    let small : c.args.k / 16 < 2 ^ h = omega (arith, c.requires.within, pow_pos h) in
    Spends-within (Spends-then (c.below-before.ensures.cost h small) c.weight_before.ensures.cost) (omega arith) (omega arith) (omega arith)
