use Rattle.std.proofs.Common.{◌≡◌, ◌+◌, ◌-◌, ◌*◌, ◌/◌, ◌^◌, length, ap, arith}
use Rattle.std.specs.Prelude.{sum, slice_range}
use Rattle.rank_rows.specs.Totals.{total}
use Rattle.rank_rows.specs.Words.{weight_at}
use Rattle.rank_rows.specs.Ranked.{Ranked}
use Rattle.rank_rows.proofs.Sums.{total-le, total-most}
use Rattle.rank_rows.proofs.Lists.{sum-between}
use Rattle.rank_rows.proofs.Reading.{read_in, weight-front}
use Rattle.rank_rows.proofs.ranks.RankRows.weight_before.Goals as goal

pub front-front-requires : goal.front-front-requires
front-front-requires g c =
    let i = c.self.inside in
    let r = read_in c.self.inside c.args.self.now c.self.view_is c.self.invariant c.args.row c.args.start c.args.to c.base-base.result c.requires (omega (arith, c.requires.from)) c.base-base.ensures in
    r.word

pub returns-clause-value : goal.returns-clause-value
returns-clause-value g c =
    let i = c.self.inside in
    let r = read_in c.self.inside c.args.self.now c.self.view_is c.self.invariant c.args.row c.args.start c.args.to c.base-base.result c.requires (omega (arith, c.requires.from)) c.base-base.ensures in
    let rise = total-le (weight_at i.store.weights.items) (64 * (c.base-base.result + c.args.start / 64)) (64 * (c.base-base.result + (c.args.to - 1) / 64))
    (omega (arith, r.word.from)) in
    let weights = ap (λ (v : Ranked). v.weights) c.self.view_is in
    let base = 64 * (c.args.row * i.stride) in
    let from : (c.base-base.result + (c.args.to - 1) / 64) * 64 ≡ 64 * (c.base-base.result + (c.args.to - 1) / 64) = omega arith in
    let end : c.base-base.result * 64 + c.args.to ≡ base + c.args.to = omega (arith, r.base_is) in
    let total_of = total (weight_at i.store.weights.items) in
    let all = weight-front i.store.words.items i.store.weights.items i.stride i.height i.store.weights.capacity c.args.self.now c.args.row c.args.start c.args.to c.self.view_is c.requires in
    let last : c.weigh-weight.result + total_of (64 * (c.base-base.result + (c.args.to - 1) / 64)) ≡ total_of (base + c.args.to) =
    omega (
      arith,
      c.weigh-weight.ensures.value,
      ap (λ ws. sum (slice_range ws ((c.base-base.result + (c.args.to - 1) / 64) * 64) (c.base-base.result * 64 + c.args.to))) weights,
      sum-between i.store.weights.items ((c.base-base.result + (c.args.to - 1) / 64) * 64) (c.base-base.result * 64 + c.args.to) (omega (arith, r.bits, end))
          (omega (arith, end, r.few)),
      ap total_of from,
      ap total_of end,
    ) in
    omega (arith, rise, all, last, c.front-front.ensures.weight, r.begins, ap total_of r.first_is)

pub weigh-weight-requires-clause-there : goal.weigh-weight-requires-clause-there
weigh-weight-requires-clause-there g c =
    let i = c.self.inside in
    let r = read_in c.self.inside c.args.self.now c.self.view_is c.self.invariant c.args.row c.args.start c.args.to c.base-base.result c.requires (omega (arith, c.requires.from)) c.base-base.ensures in
    omega (arith, r.few, r.base_is, ap (λ (v : Ranked). length v.weights) c.self.view_is)

pub overflow_sub-result : goal.overflow_sub-result
overflow_sub-result g c =
    let i = c.self.inside in
    let r = read_in c.self.inside c.args.self.now c.self.view_is c.self.invariant c.args.row c.args.start c.args.to c.base-base.result c.requires (omega (arith, c.requires.from)) c.base-base.ensures in
    let rise = total-le (weight_at i.store.weights.items) (64 * (c.base-base.result + c.args.start / 64)) (64 * (c.base-base.result + (c.args.to - 1) / 64))
    (omega (arith, r.word.from)) in
    omega (arith, rise, c.front-front.ensures.weight, r.begins)

pub overflow_add-result : goal.overflow_add-result
overflow_add-result g c =
    let i = c.self.inside in
    let r = read_in c.self.inside c.args.self.now c.self.view_is c.self.invariant c.args.row c.args.start c.args.to c.base-base.result c.requires (omega (arith, c.requires.from)) c.base-base.ensures in
    let rise = total-le (weight_at i.store.weights.items) (64 * (c.base-base.result + c.args.start / 64)) (64 * (c.base-base.result + (c.args.to - 1) / 64))
    (omega (arith, r.word.from)) in
    let weights = ap (λ (v : Ranked). v.weights) c.self.view_is in
    let base = 64 * (c.args.row * i.stride) in
    let from : (c.base-base.result + (c.args.to - 1) / 64) * 64 ≡ 64 * (c.base-base.result + (c.args.to - 1) / 64) = omega arith in
    let end : c.base-base.result * 64 + c.args.to ≡ base + c.args.to = omega (arith, r.base_is) in
    let total_of = total (weight_at i.store.weights.items) in
    let all = weight-front i.store.words.items i.store.weights.items i.stride i.height i.store.weights.capacity c.args.self.now c.args.row c.args.start c.args.to c.self.view_is c.requires in
    let last : c.weigh-weight.result + total_of (64 * (c.base-base.result + (c.args.to - 1) / 64)) ≡ total_of (base + c.args.to) =
    omega (
      arith,
      c.weigh-weight.ensures.value,
      ap (λ ws. sum (slice_range ws ((c.base-base.result + (c.args.to - 1) / 64) * 64) (c.base-base.result * 64 + c.args.to))) weights,
      sum-between i.store.weights.items ((c.base-base.result + (c.args.to - 1) / 64) * 64) (c.base-base.result * 64 + c.args.to) (omega (arith, r.bits, end))
          (omega (arith, end, r.few)),
      ap total_of from,
      ap total_of end,
    ) in
    let most = total-most (weight_at i.store.weights.items) 4294967295 (base + c.args.start) (c.args.to - c.args.start) (λ k. (let low = c.self.invariant.light k in omega (arith, low))) in
    let is : base + c.args.start + (c.args.to - c.args.start) ≡ base + c.args.to = omega (arith, c.requires.from) in
    omega (arith, rise, all, last, c.front-front.ensures.weight, r.begins, ap total_of r.first_is, most, ap total_of is, c.requires.within, c.self.invariant.few, ap (λ (v : Ranked). v.stride) c.self.view_is)
