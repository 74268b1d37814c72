use Rattle.std.proofs.Common.{◌≡◌, ℕ, zero, suc, ◌+◌, ◌-◌, ◌*◌, ◌^◌, ◌<◌, ◌≤◌, ◌∙◌, arith, ap, refl}
use Rattle.std.proofs.Math.Nat.{pow-le-pow_right, mul-le-mul}
use Rattle.builder_trait.specs.Builders.{PartProfile}
use Rattle.partial_build.specs.Quota.{quota}
use Rattle.partial_build.proofs.Clock.{quota_is, turns_left-open}
use Rattle.partial_build.proofs.build.Build.turns_left.Given.{Over}
use Rattle.partial_build.proofs.build.Build.turns_left.Goals as goal

abbrev profile : (g : Over) → PartProfile g.row.B-Item.Denot
profile g = record { stamp = g.B.Item.Item.stamp; before = g.B.Item.Item.before; slope = g.B.Builder.SLOPE; base = g.B.Builder.BASE }

positive : (n : ℕ) → (n ≡ 0 → ⊥) → 0 < n
positive zero some = absurd (some refl)
positive (suc n) some = omega arith

pub overflow_add-result-2 : goal.overflow_add-result-2
overflow_add-result-2 g c =
    let h = c.self.invariant in
    let inside = c.self.inside in
    let slope = g.B.Builder.SLOPE in
    let base = g.B.Builder.BASE in
    let some : 0 < inside.merge.left = positive inside.merge.left (λ none. let done = c.done.ensures.value.1 none in absurd cc) in
    let half : 2 ^ (inside.level - 1) ≤ 2 ^ 30 = pow-le-pow_right {n = 2} (omega arith) {i = inside.level - 1} {j = 30} (omega (arith, h.most)) in
    let level : inside.level ≤ 31 = omega (arith, h.most) in
    let slopes : slope * inside.level ≤ 4096 * 31 = mul-le-mul g.met.B.Builder.small.0 level in
    let per_tick : quota slope base inside.level ≤ 2 ^ 18 =
    omega (arith, quota_is slope base inside.level h.least, slopes, g.met.B.Builder.small.1) in
    let ticks : 2 ^ (inside.level - 1) - inside.ticks ≤ 2 ^ 30 = omega (arith, half) in
    let product : c.pow-half.result * (c.SLOPE.result * inside.level + c.BASE.result) ≡ 2 ^ (inside.level - 1) * (slope * inside.level + base) =
    ap (λ n. n * (c.SLOPE.result * inside.level + c.BASE.result)) c.pow-half.ensures
    ∙ ap (λ n. 2 ^ (inside.level - 1) * (n * inside.level + c.BASE.result)) c.SLOPE.ensures
    ∙ ap (λ n. 2 ^ (inside.level - 1) * (slope * inside.level + n)) c.BASE.ensures in
    let whole = turns_left-open (profile g) (record {
      level = inside.level;
      ticks = inside.ticks;
      merge = inside.merge;
      part = inside.part;
      waiting = inside.waiting.items;
    }) (h.unsealed some).0 in
    let most = mul-le-mul ticks per_tick in
    omega (arith, most, h.in_time, product, whole, c.left-2.ensures)
