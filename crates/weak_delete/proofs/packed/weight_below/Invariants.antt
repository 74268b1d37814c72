use Rattle.std.proofs.Common.{◌≡◌, ◌-◌, ◌*◌, ◌^◌, ◌≤◌}
use Rattle.weak_delete.specs.Packed.{live_weights}
use Rattle.weak_delete.proofs.packed.weight_below.Given as goal

abbrev pub invariant-loop-slot : goal.invariant-loop-slot
invariant-loop-slot l = record {
  sum : l.sum ≡ live_weights l.weights l.mask l.slot;
  few : l.sum ≤ l.slot * (2 ^ 32 - 1);
}
