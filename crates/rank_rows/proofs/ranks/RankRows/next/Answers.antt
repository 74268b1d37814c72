use Rattle.std.proofs.Common.{◌-◌, ap, arith}
use Rattle.rank_rows.specs.Ranked.{Ranked}
use Rattle.rank_rows.proofs.Reading.{front_from, rank-le}
use Rattle.rank_rows.proofs.Trees.{pow_low}
use Rattle.rank_rows.proofs.ranks.RankRows.next.Goals as goal

pub overflow_sub-height : goal.overflow_sub-height
overflow_sub-height g c = omega (arith, c.requires.high, ap (λ (v : Ranked). v.height) c.self.view_is)

pub rank-rank-requires : goal.rank-rank-requires
rank-rank-requires g c =
    front_from c.args.self.now c.args.row c.args.k c.block_start-start.result c.self.inside.height c.requires (ap (λ (v : Ranked). v.height) c.self.view_is) c.block_start-start.ensures

pub overflow_sub-height-then-goes_second : goal.overflow_sub-height-then-goes_second
overflow_sub-height-then-goes_second g c = omega (arith, c.requires.high, ap (λ (v : Ranked). v.height) c.self.view_is)

pub overflow_add-result-then-goes_second : goal.overflow_add-result-then-goes_second
overflow_add-result-then-goes_second g c =
    let height = ap (λ (v : Ranked). v.height) c.self.view_is in
    let front = front_from c.args.self.now c.args.row c.args.k c.block_start-start.result c.self.inside.height c.requires height c.block_start-start.ensures in
    let few = pow_low (c.args.self.now.height - c.args.row) (omega (arith, c.self.invariant.low, height)) in
    let half = pow_low (c.self.inside.height - c.args.row - 1) (omega (arith, c.self.invariant.low)) in
    let most = rank-le c.args.self.now c.args.row c.block_start-start.result c.args.k front.from (omega (arith, front.below)) front.there in
    omega (arith, most, half, front.from, c.block_len.ensures, c.rank-rank.ensures.value, c.requires.within, c.self.invariant.few, ap (λ (v : Ranked). v.stride) c.self.view_is)
