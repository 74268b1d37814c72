-- The first `done` bytes were appended, no call failed, and only one that handed over the last byte took all that it was handed.
use Rattle.std.proofs.Common.{◌≡◌, length, take, min, ◌-◌, ◌<◌, ◌≤◌}
use Rattle.std.specs.Io.KnownBytes.{Appends}
use Rattle.map_io.specs.SinkTold.{CountsAtMost}
use Rattle.map_io.proofs.sink.write_all.Given as goal

abbrev pub invariant-loop-done : goal.invariant-loop-done
invariant-loop-done g l = record {
  within : l.done ≤ length l.bytes;
  faults : (g.K.Sink.told l.sink).faults ≡ (g.K.Sink.told l.initial.sink).faults;
  written : Appends (g.K.Sink.told l.initial.sink).written (g.K.Sink.told l.sink).written (take l.done l.bytes);
  no_piece : l.done < length l.bytes → CountsAtMost (g.K.Sink.told l.initial.sink).pieces (g.K.Sink.told l.sink).pieces 0;
  one_piece : CountsAtMost (g.K.Sink.told l.initial.sink).pieces (g.K.Sink.told l.sink).pieces (min 1 l.done);
}

abbrev pub decreases-loop-done : goal.decreases-loop-done
decreases-loop-done g l = length l.bytes - l.done
