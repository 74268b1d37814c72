use Rattle.std.proofs.Common.{◌-◌, ◌≤◌, ◌^◌, arith, ◌∙◌, sym, ap}
use Rattle.std.proofs.Math.Nat.{pow-le-pow_right}
use Rattle.ordered_merge.proofs.merge.Merge.room.Goals as goal

pub invariant_of-result : goal.invariant_of-result
invariant_of-result g c =
    let a = ap (λ s. s.table.capacity) c.in_ok-a.ensures in
    let b = ap (λ s. s.table.capacity) c.in_ok-b.ensures in
    let small : 2 ^ (c.args.level - 1) ≤ 2 ^ 30 = pow-le-pow_right {n = 2} (omega arith) {i = c.args.level - 1} {j = 30} (omega arith) in
    (omega (arith, a, c.pow-cap.ensures, small), b ∙ sym a)
