use Rattle.std.proofs.Common.{arith}
use Rattle.std.proofs.lemmas.Nat.Bits.{shr_and_one, bit_at-lt}
use Rattle.std.specs.Int.{bit_at}
use Rattle.rank_rows.proofs.Sums.{total-none, total-more}
use Rattle.rank_rows.proofs.word.nth_clear.Goals as goal

pub loop-bit-init : goal.loop-bit-init
loop-bit-init c = record { within = omega arith; counted = omega (arith, total-none (bit_at c.args.mask)) }

pub loop-bit-preserved : goal.loop-bit-preserved
loop-bit-preserved c = record {
  within = omega arith;
  counted = omega (
    arith,
    c.loop-bit.invariant.counted,
    total-more (bit_at c.args.mask) c.loop-bit.bit,
    shr_and_one c.args.mask c.loop-bit.bit,
    bit_at-lt c.args.mask c.loop-bit.bit,
  );
}
