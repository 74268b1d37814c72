use Rattle.std.proofs.Common.{◌≡◌, ◌+◌, ◌-◌, ◌*◌, ◌^◌, ap, arith}
use Rattle.binary_stack.proofs.Rooms.{not_above}
use Rattle.binary_stack.proofs.preparing.size_for.Goals as goal

pub returns-clause-fits : goal.returns-clause-fits
returns-clause-fits c =
    let same : c.ilog2.result + 1 - 1 ≡ c.ilog2.result = omega arith in
    let power : 2 ^ (c.ilog2.result + 1 - 1) ≡ 2 ^ c.ilog2.result = ap (λ k. 2 ^ k) same in
    omega (arith, power, c.ilog2.ensures.next_power_gt, c.requires.some)

pub returns-clause-least : goal.returns-clause-least
returns-clause-least c i few =
    omega (arith, not_above (2 * c.args.items - 1) i c.ilog2.result c.ilog2.ensures.power_le (omega (arith, few, c.requires.some)))

pub returns-clause-most : goal.returns-clause-most
returns-clause-most c = omega (arith, returns-clause-least c 30 c.requires.most)
