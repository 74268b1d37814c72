use Rattle.std.proofs.Common.{◌≡◌, true}
use Rattle.index_tests.proofs.live_places.turn_counts.Given as goal

abbrev pub invariant-loop-counts : goal.invariant-loop-counts
invariant-loop-counts g l = record {
  put : l.counts.places ≡ l.initial.counts.places;
  sealed : l.counts.sealed ≡ true;
}

abbrev pub decreases-loop-counts : goal.decreases-loop-counts
decreases-loop-counts g l = l.counts.left
