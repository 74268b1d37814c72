-- Proper prefixes: some of the bytes from the front, and not all of them.
use Rattle.std.specs.Prelude.{◌≡◌, ℕ, ◌<◌, List, Option, length, take}
use Rattle.std.specs.Io.KnownBytes.{Appends}

-- some of the bytes from the front, and not all
abbrev pub IsProperPrefix : List ℕ → List ℕ → Type 0
IsProperPrefix whole prefix = (n : ℕ) × (n < length whole) × (prefix ≡ take n whole)

-- told bytes grow by a proper prefix of bs
abbrev pub AppendsProperPrefix : Option (List ℕ) → Option (List ℕ) → List ℕ → Type 0
AppendsProperPrefix old new bs = (n : ℕ) × (n < length bs) × Appends old new (take n bs)
