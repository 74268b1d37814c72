use Rattle.std.proofs.Common.{arith}
use Rattle.std.proofs.lemmas.Nat.Bits.{shr_and_one}
use Rattle.weak_delete.proofs.Packing.{live_bits-none, live_bits-more}
use Rattle.weak_delete.proofs.packed.nth_live.Goals as goal

pub loop-slot-init : goal.loop-slot-init
loop-slot-init c = record { within = omega arith; counted = omega (arith, live_bits-none c.args.mask) }

pub loop-slot-preserved : goal.loop-slot-preserved
loop-slot-preserved c = record {
  within = omega arith;
  counted = omega (arith, c.loop-slot.invariant.counted, live_bits-more c.args.mask c.loop-slot.slot, shr_and_one c.args.mask c.loop-slot.slot);
}
