use Rattle.std.proofs.Common.{◌≡◌, ◌+◌, ◌-◌, ◌≤◌}
use Rattle.weak_delete.specs.Packed.{live_bits}
use Rattle.weak_delete.proofs.packed.nth_live.Given as goal

abbrev pub invariant-loop-slot : goal.invariant-loop-slot
invariant-loop-slot l = record {
  within : l.slot ≤ 16;
  counted : live_bits l.mask l.slot + l.rest ≡ l.rank;
}

abbrev pub decreases-loop-slot : goal.decreases-loop-slot
decreases-loop-slot l = 16 - l.slot
