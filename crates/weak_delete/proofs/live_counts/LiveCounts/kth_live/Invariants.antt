use Rattle.std.proofs.Common.{◌≡◌, ◌+◌, ◌-◌, ◌*◌, ◌^◌, ◌<◌, ◌≤◌, take}
use Rattle.std.specs.List.{count_by}
use Rattle.query_laws.specs.StepLedger.{Spends}
use Rattle.weak_delete.specs.Places.{is_live}
use Rattle.row_blocks.specs.Blocks.{IsMultiple}
use Rattle.weak_delete.proofs.live_counts.LiveCounts.kth_live.Given as goal

abbrev pub invariant-loop-height : goal.invariant-loop-height
invariant-loop-height g l = record {
  block : IsMultiple l.start l.height;
  within : l.start ≤ l.last;
  lower : l.height ≤ l.initial.height;
  counted : count_by is_live (take (16 * l.start) l.self.places) + l.rest ≡ l.j;
  next : l.j < count_by is_live (take (16 * (l.start + 2 ^ l.height)) l.self.places);
  spent : Spends l.initial.steps l.steps 0 0 (l.initial.height - l.height);
}

abbrev pub decreases-loop-height : goal.decreases-loop-height
decreases-loop-height g l = l.height
