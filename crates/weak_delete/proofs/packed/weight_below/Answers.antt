use Rattle.std.proofs.Common.{◌*◌, ◌^◌, ◌<◌, get_or, ap, arith, rules}
use Rattle.std.specs.Int.{bit_at}
use Rattle.std.proofs.lemmas.Nat.Bits.{shr_and_one, bit_at-lt}
use Rattle.weak_delete.proofs.Packing.{live_weights-none, live_weights-more, weight-le}
use Rattle.weak_delete.proofs.packed.weight_below.Goals as goal

pub loop-slot-init : goal.loop-slot-init
loop-slot-init c = record { sum = omega (arith, live_weights-none c.args.weights.now c.args.mask); few = omega arith }

pub loop-slot-preserved : goal.loop-slot-preserved
loop-slot-preserved c =
    let weight = get_or c.args.weights.now c.loop-slot.slot 0 in
    let bit = ap (λ b. weight * b) (shr_and_one c.args.mask c.loop-slot.slot) in
    let fits : weight < 2 ^ 32 = search rules in
    record {
      sum = omega (arith, bit, c.loop-slot.invariant.sum, live_weights-more c.args.weights.now c.args.mask c.loop-slot.slot);
      few = omega (arith, bit, c.loop-slot.invariant.few, fits, weight-le weight (bit_at c.args.mask c.loop-slot.slot) (bit_at-lt c.args.mask c.loop-slot.slot));
    }
