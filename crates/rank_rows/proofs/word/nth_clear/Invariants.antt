use Rattle.std.proofs.Common.{◌≡◌, ◌+◌, ◌-◌, ◌≤◌}
use Rattle.std.specs.Int.{bit_at}
use Rattle.rank_rows.specs.Totals.{total}
use Rattle.rank_rows.proofs.word.nth_clear.Given as goal

abbrev pub invariant-loop-bit : goal.invariant-loop-bit
invariant-loop-bit l = record {
  within : l.bit ≤ 64;
  counted : l.rest + l.bit ≡ l.rank + total (bit_at l.mask) l.bit;
}

abbrev pub decreases-loop-bit : goal.decreases-loop-bit
decreases-loop-bit l = 64 - l.bit
