-- Calls that are counted, and the numbers of those that fail.
use Rattle.std.specs.Prelude.{ℕ, ◌+◌, ◌-◌, ◌^◌, ◌<◌, List, [], ◌∷◌, min, filter, nat_lt, ⊤}

-- one more, up to the last value of a u64
abbrev pub counted : ℕ → ℕ
counted n = min (n + 1) (2 ^ 64 - 1)

-- the numbers above n
abbrev pub numbers_after : ℕ → List ℕ → List ℕ
numbers_after n xs = filter (λ m. nat_lt n m) xs

-- the numbers of the failing calls that are still to come, and the calls so far
pub record Calls : Type 0 where
  pub failing : List ℕ
  pub made : ℕ

-- n and then the numbers of xs rise strictly
abbrev pub RisesAfter : ℕ → List ℕ → Type 0
RisesAfter n [] = ⊤
RisesAfter n (x ∷ xs) = (n < x) × RisesAfter x xs
