use Rattle.std.proofs.Common.{◌≡◌, false, length, take, map}
use Rattle.weak_delete.specs.Places.{live_place}
use Rattle.index_tests.proofs.live_places.put_weights.Given as goal

abbrev pub invariant-loop-weight : goal.invariant-loop-weight
invariant-loop-weight g l = record {
  put : l.counts.places ≡ map live_place (take l.weight-index l.weights);
  open_ : l.counts.sealed ≡ false;
  room : l.counts.capacity ≡ length l.weights;
}
