use Rattle.std.proofs.Common.{◌/◌, ◌^◌, ◌<◌, arith}
use Rattle.std.proofs.lemmas.Nat.{pow_pos}
use Rattle.query_laws.proofs.Counting.{Spends-then, Spends-within}
use Rattle.weak_delete.proofs.Nodes.{live-front}
use Rattle.weak_delete.proofs.Opened.{opened}
use Rattle.weak_delete.proofs.live_counts.LiveCounts.prefix.Goals as goal

pub returns-then-self-clause-count : goal.returns-then-self-clause-count
returns-then-self-clause-count g c =
    let o = opened c.self.inside c.args.self.now c.self.view_is in
    let inside = c.self.inside in
    omega (
      arith,
      live-front _ c.args.self.now.places inside.total inside.len c.self.invariant.total_over c.if-self.true
          o.count o.places c.args.k c.requires.within,
    )

pub returns-clause-cost : goal.returns-clause-cost
returns-clause-cost g c h few =
    let small : c.args.k / 16 < 2 ^ h = omega (arith, c.requires.within, pow_pos h) in
    Spends-within (Spends-then (c.below-before.ensures.cost h small) c.live_before.ensures.cost) (omega arith) (omega arith) (omega arith)
