use Rattle.std.proofs.Common.{◌≡◌, ◌+◌, ◌-◌, ◌*◌, ◌^◌, ◌≤◌, arith}
use Rattle.kd_tree.proofs.DistanceLemmas.{short_square}
use Rattle.kd_tree.proofs.distance.coarse.Goals as goal

pub returns-then-are_short : goal.returns-then-are_short
returns-then-are_short c =
    let short = c.are_short.ensures c.if-are_short.true in
    omega (arith, short_square c.args.across short.0, short_square c.args.up short.1)
