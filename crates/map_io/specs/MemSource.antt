-- A source over memory as contracts see it.
use Rattle.std.specs.Prelude.{◌≡◌, ◌==◌, ℕ, ◌+◌, List, ◌++◌, min, length, take, drop, if◌then◌else◌}
use Rattle.map_io.specs.Calls.{counted, numbers_after}

-- a source over memory between two calls
pub record MemSourceState : Type 0 where
  -- the bytes not yet taken
  pub rest : List ℕ
  -- how many a call gives at most
  pub piece : ℕ
  -- the numbers of the failing calls that are still to come
  pub failing : List ℕ
  -- the calls so far; it stays at 2^64 - 1
  pub calls : ℕ
  -- the failing calls so far; it stays at 2^64 - 1
  pub faults : ℕ
  -- how many calls filled what they were handed
  pub filled : ℕ

-- after a call
abbrev pub source_after_call : MemSourceState → MemSourceState
source_after_call f = record f { failing = numbers_after (f.calls + 1) f.failing; calls = counted f.calls }

-- after a call that failed
abbrev pub source_after_failing : MemSourceState → MemSourceState
source_after_failing f = record (source_after_call f) { faults = counted f.faults }

-- after a call that gave n bytes to what it was handed
abbrev pub source_after_taking : ℕ → List ℕ → MemSourceState → MemSourceState
source_after_taking n into f = record (source_after_call f) { rest = drop n f.rest; filled = f.filled + (if n == length into then 1 else 0) }

-- a call gave n bytes to the front of what it was handed: as many as fit, as its piece allows and as are left
pub record Gives (old new : MemSourceState) (into handed : List ℕ) (n : ℕ) : Type 0 where
  pub count : n ≡ min (length into) (min old.piece (length old.rest))
  pub front : handed ≡ take n old.rest ++ drop n into
  pub after : new ≡ source_after_taking n into old

-- a call failed, and gave nothing
pub record GivesNone (old new : MemSourceState) (into handed : List ℕ) : Type 0 where
  pub untouched : handed ≡ into
  pub after : new ≡ source_after_failing old
