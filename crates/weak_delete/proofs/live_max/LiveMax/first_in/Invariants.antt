use Rattle.std.proofs.Common.{◌+◌, ◌-◌, ◌^◌, ◌≤◌}
use Rattle.query_laws.specs.StepLedger.{Spends}
use Rattle.row_blocks.specs.Blocks.{IsMultiple}
use Rattle.weak_delete.specs.Tournament.{IsBelowBound}
use Rattle.weak_delete.proofs.live_max.LiveMax.first_in.Given as goal

abbrev pub invariant-loop-low : goal.invariant-loop-low
invariant-loop-low g l = record {
  block : IsMultiple l.first l.low;
  lower : l.low ≤ l.height;
  after : l.start ≤ l.first;
  below : IsBelowBound l.self.places l.start l.first l.bound;
  some : IsBelowBound l.self.places l.first (l.first + 2 ^ l.low) l.bound → ⊥;
  spent : Spends l.initial.steps l.steps 0 0 (l.height - l.low);
}

abbrev pub decreases-loop-low : goal.decreases-loop-low
decreases-loop-low g l = l.low
