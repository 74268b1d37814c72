-- Blocks of 2 ^ height places.
use Rattle.std.specs.Prelude.{◌≡◌, ℕ, ◌*◌, ◌/◌, ◌^◌}
use Rattle.std.specs.Int.{w64, trailing_zeros}

-- the greatest height whose length divides a number: the place of its lowest set bit
unfoldable pub height_at : ℕ → ℕ
height_at n = trailing_zeros w64 n

-- a block of this height begins here
pub record IsMultiple (start height : ℕ) : Type 0 where
  pub times : ℕ
  pub is : start ≡ times * 2 ^ height

-- where the block of this height begins that has a place
abbrev pub start_of : ℕ → ℕ → ℕ
start_of height place = place / 2 ^ height * 2 ^ height
