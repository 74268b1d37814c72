-- What a sink tells of itself, and what writing does to that.
use Rattle.std.specs.Prelude.{◌≡◌, ◌==◌, ℕ, ◌+◌, ◌≤◌, ⊤, List, Option, Some, None, length, take, if◌then◌else◌}
use Rattle.std.specs.Io.KnownBytes.{Keeps, Appends}
use Rattle.map_io.specs.Calls.{counted}
use Rattle.map_io.specs.ProperPrefix.{AppendsProperPrefix}

-- What a sink tells of itself. A call that took all that it was handed is a piece.
pub record SinkTold : Type 0 where
  -- the bytes taken, where the sink tells them
  pub written : Option (List ℕ)
  -- how many calls took all the bytes that they were handed, where the sink tells it
  pub pieces : Option ℕ
  -- how often the outside has failed
  pub faults : ℕ

-- of a sink that tells only its faults
abbrev pub told_by_faults : ℕ → SinkTold
told_by_faults n = record { written = None; pieces = None; faults = n }

-- ---- a told count

-- it rose by n
abbrev pub CountsMore : Option ℕ → Option ℕ → ℕ → Type 0
CountsMore None new n = ⊤
CountsMore (Some a) None n = ⊥
CountsMore (Some a) (Some b) n = b ≡ a + n

-- it rose by at most n
abbrev pub CountsAtMost : Option ℕ → Option ℕ → ℕ → Type 0
CountsAtMost None new n = ⊤
CountsAtMost (Some a) None n = ⊥
CountsAtMost (Some a) (Some b) n = b ≤ a + n

-- ---- one call

-- a call took the first n bytes of what it was handed
pub record TakesFront (old new : SinkTold) (piece : List ℕ) (n : ℕ) : Type 0 where
  pub written : Appends old.written new.written (take n piece)
  pub pieces : CountsMore old.pieces new.pieces (if n == length piece then 1 else 0)
  pub faults : new.faults ≡ old.faults

-- a call failed, and took nothing: that is one fault
pub record TakesNone (old new : SinkTold) : Type 0 where
  pub written : Keeps old.written new.written
  pub pieces : CountsMore old.pieces new.pieces 0
  pub faults : new.faults ≡ counted old.faults

-- ---- several calls

-- The bytes were written whole, no call failed, and at most so many took all that they were handed.
pub record Delivers (old new : SinkTold) (bytes : List ℕ) (most : ℕ) : Type 0 where
  pub written : Appends old.written new.written bytes
  pub pieces : CountsAtMost old.pieces new.pieces most
  pub faults : new.faults ≡ old.faults

-- The last call failed, and no other: a proper prefix of the bytes was written, and at most so many calls took all that they were handed.
pub record CutOff (old new : SinkTold) (bytes : List ℕ) (most : ℕ) : Type 0 where
  pub written : AppendsProperPrefix old.written new.written bytes
  pub pieces : CountsAtMost old.pieces new.pieces most
  pub faults : new.faults ≡ counted old.faults
