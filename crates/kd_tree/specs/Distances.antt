-- Squares of distances, which have up to 65 bits, in 64.
use Rattle.std.specs.Prelude.{ℕ, ◌+◌, ◌-◌, ◌*◌, ◌/◌, ◌^◌, min}

-- itself up to 2^63, and above that a fourth of the rest
abbrev pub coarse : ℕ → ℕ
coarse square = min square (2 ^ 63) + (square - 2 ^ 63) / 4

-- the least square that is made that one
abbrev pub least : ℕ → ℕ
least made = min made (2 ^ 63) + 4 * (made - 2 ^ 63)
