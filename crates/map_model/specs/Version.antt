-- Versions of the script: which coordinates there are, what number one is kept as, and how it is written. In version 1 a coordinate is
-- from 0 to 2,147,483,647, in version 2 from -2,147,483,648 to 2,147,483,647; a kept number has no sign in either.
use Rattle.std.specs.Prelude.{ℕ, ◌+◌, ◌-◌, ◌^◌, List, ◌∷◌, decimal, nat_lt, if◌then◌else◌}

-- a version of the script
pub data Version : Type 0 where
  -- coordinates of zero or more
  One : Version
  -- coordinates of either sign
  Two : Version

-- how many numbers below zero a coordinate of version 2 may be
abbrev pub negatives : ℕ
negatives = 2 ^ 31

-- the greatest coordinate
abbrev pub greatest_coordinate : ℕ
greatest_coordinate = 2 ^ 31 - 1

-- the number that a coordinate of zero or more is kept as
abbrev pub kept : Version → ℕ → ℕ
kept One n = n
kept Two n = negatives + n

-- a kept coordinate as it is written: a number below zero has a `-` before its digits
abbrev pub coordinate_text : Version → ℕ → List ℕ
coordinate_text One n = decimal n
coordinate_text Two n = if nat_lt n negatives then 45 ∷ decimal (negatives - n) else decimal (n - negatives)
