-- What the parts of a binary counter may cost (Bentley and Saxe 1980).
use Rattle.std.specs.Prelude.{ℕ, zero, suc, ◌+◌, ◌*◌, ◌^◌, ◌/◌, ◌%◌, Option, List, [], ◌∷◌}
use Rattle.binary_stack.specs.Levels.{weight_of}

-- how many ones a number has in binary, in its lowest digits
abbrev pub ones : ℕ → ℕ → ℕ
ones zero n = 0
ones (suc digits) n = n % 2 + ones digits (n / 2)

-- twice the most turns of one part that is built at a level, by the slope and the base of the structure: two for each item that is read, and those of
-- its builder
abbrev pub charge_at : ℕ → ℕ → ℕ → ℕ
charge_at slope base level = 2 ^ level * (slope * level + base + 4)

-- The charges of n parts that are built at a level, of half as many at the next, and so on, over so many levels: each second part that is built at a
-- level is joined into the next.
abbrev pub charge : ℕ → ℕ → ℕ → ℕ → ℕ → ℕ
charge slope base level zero n = 0
charge slope base level (suc more) n = n * charge_at slope base level + charge slope base (level + 1) more (n / 2)

module _ {P : Type 0} where
  -- the same by the levels themselves, of which the lowest has this number: as many parts were built at each as the levels from it up weigh
  abbrev pub charge_of : ℕ → ℕ → ℕ → List (Option P) → ℕ
  charge_of slope base level [] = 0
  charge_of slope base level (l ∷ above) = weight_of (l ∷ above) * charge_at slope base level + charge_of slope base (level + 1) above
