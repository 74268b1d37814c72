use Rattle.std.proofs.Common.{◌*◌, ◌≤◌}
use Rattle.weak_delete.specs.Fenwick.{IsOver}
use Rattle.weak_delete.proofs.Descents.{IsDescent}
use Rattle.weak_delete.proofs.live_counts.LiveCounts.below.Given as goal

abbrev pub invariant-loop-end : goal.invariant-loop-end
invariant-loop-end g l = record {
  within : l.end ≤ l.entry;
  over : IsOver l.self.places (16 * l.end) (16 * l.entry) l.sum;
  descent : IsDescent l.entry l.end l.initial.steps l.steps;
}

abbrev pub decreases-loop-end : goal.decreases-loop-end
decreases-loop-end g l = l.end
