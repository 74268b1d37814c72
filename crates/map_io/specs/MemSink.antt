-- A sink over memory as contracts see it.
use Rattle.std.specs.Prelude.{◌==◌, ℕ, ◌+◌, ◌-◌, List, ◌++◌, Some, length, take, if◌then◌else◌}
use Rattle.map_io.specs.Calls.{counted, numbers_after}
use Rattle.map_io.specs.SinkTold.{SinkTold}

-- a sink over memory between two calls
pub record MemSinkState : Type 0 where
  -- the bytes taken
  pub written : List ℕ
  -- how many calls took all the bytes that they were handed
  pub pieces : ℕ
  -- the places left
  pub room : ℕ
  -- how many a call takes at most
  pub piece : ℕ
  -- the numbers of the failing calls that are still to come
  pub failing : List ℕ
  -- the calls so far; it stays at 2^64 - 1
  pub calls : ℕ
  -- the failed calls so far; it stays at 2^64 - 1
  pub faults : ℕ

-- after a call
abbrev pub sink_after_call : MemSinkState → MemSinkState
sink_after_call s = record s { failing = numbers_after (s.calls + 1) s.failing; calls = counted s.calls }

-- after a call that failed
abbrev pub sink_after_failing : MemSinkState → MemSinkState
sink_after_failing s = record (sink_after_call s) { faults = counted s.faults }

-- after a call that took the first n bytes of what it was handed
abbrev pub sink_after_taking : ℕ → List ℕ → MemSinkState → MemSinkState
sink_after_taking n piece s = record (sink_after_call s) {
  written = s.written ++ take n piece;
  pieces = s.pieces + (if n == length piece then 1 else 0);
  room = s.room - n;
}

-- what it tells as a sink
abbrev pub told_in : MemSinkState → SinkTold
told_in s = record { written = Some s.written; pieces = Some s.pieces; faults = s.faults }
