use Rattle.std.proofs.Common.{◌≡◌, ℕ, ◌+◌, ◌^◌, ◌≤◌}
use Rattle.row_blocks.specs.Blocks.{IsMultiple}
use Rattle.weak_delete.specs.Tournament.{IsGreatest}
use Rattle.weak_delete.proofs.live_max.winner_of.Given as goal

abbrev pub invariant-loop-low : goal.invariant-loop-low
invariant-loop-low g l = record {
  block : IsMultiple l.start l.low;
  lower : l.low ≤ l.height;
  same_steps : l.steps ≡ l.initial.steps;
  wider : (rank : ℕ) → IsGreatest l.places.items l.start (l.start + 2 ^ l.low) rank → IsGreatest l.places.items l.start (l.start + 2 ^ l.height) rank;
}

abbrev pub decreases-loop-low : goal.decreases-loop-low
decreases-loop-low g l = l.low
