use Rattle.std.proofs.Common.{◌-◌, ap, arith}
use Rattle.rank_rows.specs.Ranked.{Ranked}
use Rattle.rank_rows.proofs.Reading.{rank-le}
use Rattle.rank_rows.proofs.Trees.{pow_low}
use Rattle.rank_rows.proofs.ranks.RankRows.halves.Goals as goal

pub overflow_add-result-2 : goal.overflow_add-result-2
overflow_add-result-2 g c =
    let height = ap (λ (v : Ranked). v.height) c.self.view_is in
    let few = pow_low (c.args.self.now.height - c.args.row) (omega (arith, c.self.invariant.low, height)) in
    let half = pow_low (c.self.inside.height - c.args.row - 1) (omega (arith, c.self.invariant.low)) in
    let most = rank-le c.args.self.now c.args.row c.args.start c.args.to c.requires.from (omega (arith, c.requires.below)) c.requires.there in
    omega (arith, most, half, c.block_len.ensures, c.rank-rank.ensures.value, c.requires.within, c.self.invariant.few, ap (λ (v : Ranked). v.stride) c.self.view_is)
