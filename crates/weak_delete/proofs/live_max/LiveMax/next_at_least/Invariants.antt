use Rattle.std.proofs.Common.{◌<◌, ◌≤◌}
use Rattle.query_laws.specs.StepLedger.{Spends}
use Rattle.row_blocks.specs.Blocks.{IsMultiple}
use Rattle.weak_delete.specs.Tournament.{IsBelowBound}
use Rattle.weak_delete.proofs.live_max.LiveMax.next_at_least.Given as goal

abbrev pub invariant-loop-height : goal.invariant-loop-height
invariant-loop-height g l = record {
  block : l.height ≤ l.top → IsMultiple l.start l.height;
  after : l.from ≤ l.start;
  below : IsBelowBound l.self.places l.from l.start l.bound;
  all : l.top < l.height → l.to ≤ l.start;
  spent : Spends l.initial.steps l.steps 0 0 l.height;
}
