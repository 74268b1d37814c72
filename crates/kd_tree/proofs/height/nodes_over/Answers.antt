use Rattle.std.proofs.Common.{◌≡◌, ◌-◌, ◌*◌, ◌^◌, ◌%◌, ◌≤◌, arith}
use Rattle.std.proofs.Math.Nat.{mod-eq_of_lt}
use Rattle.std.proofs.Math.Pow.{pow_mono}
use Rattle.kd_tree.specs.HeightLaws.{four-is}
use Rattle.kd_tree.proofs.height.nodes_over.Goals as goal

pub returns : goal.returns
returns c =
    let e = c.args.depth - 1 - c.args.level in
    let within : 2 * e ≤ 30 = omega arith in
    let low : 2 ^ (2 * e) ≤ 2 ^ 30 = pow_mono {i = 2 * e} {j = 30} within in
    let is : 1 * 2 ^ (2 * e) % 18446744073709551616 ≡ 1 * 2 ^ (2 * e) = mod-eq_of_lt (omega arith) in
    omega (arith, is, four-is e)
