-- A quota is a small number.
use Rattle.std.proofs.Common.{ℕ, ◌+◌, ◌*◌, ◌^◌, ◌<◌, ◌≤◌, arith, pow_mono}
use Rattle.std.proofs.Math.Nat.{mul-le-mul_left, mul-le-mul_right}
use Rattle.builder_trait.specs.Builders.{IsQuota}

pub IsQuota-small : {slope base level n left : ℕ} → slope ≤ 4096 → base ≤ 4096 → level < 32 → IsQuota slope base level n left → left < 2 ^ 63
IsQuota-small {slope} {base} {level} {n} {left} slope_small base_small level_small quota =
    let steep : slope * level ≤ 4096 * level = mul-le-mul_right level slope_small in
    let each : slope * level + base ≤ 2 ^ 17 = omega (arith, steep) in
    let low : level ≤ 32 = omega (arith, level_small) in
    let items : 2 ^ level ≤ 2 ^ 32 = pow_mono low in
    let many : 2 ^ level * (slope * level + base) ≤ 2 ^ level * 2 ^ 17 = mul-le-mul_left (2 ^ level) each in
    omega (arith, quota.bounded, many, items)
