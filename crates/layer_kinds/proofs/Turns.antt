-- Turns of an index, at all levels up to one.
use Rattle.std.proofs.Common.{ℕ, ◌+◌, ◌*◌, ◌/◌, ◌^◌, ◌≤◌, arith}

more : (a b n : ℕ) → a ≤ b → a * n ≤ b * n
more a b n less = grind (arith, less)

times_more : (n a b : ℕ) → a ≤ b → n * a ≤ n * b
times_more n a b less = grind (arith, less)

product : (a b c d : ℕ) → a ≤ c → b ≤ d → a * b ≤ c * d
product a b c d less less' = omega (arith, more a c b less, times_more c b d less')

-- they have room in a word: none of the sums on the way is greater
pub few_turns : (slope base height : ℕ) → slope ≤ 20 → base ≤ 60 → height ≤ 25
    → (height * height ≤ 625) × (slope * (height * height) ≤ 12500) × ((slope + 2 * base + 8) * height ≤ 3700)
few_turns slope base height low low' few =
    let square : height * height ≤ 25 * 25 = product height height 25 25 few few in (
      omega (arith, square),
      omega (arith, product slope (height * height) 20 (25 * 25) low square),
      omega (arith, product (slope + 2 * base + 8) height 148 25 (omega (arith, low, low')) few),
    )

-- so many ticks
pub low_turns : (ticks slope base height : ℕ) → ticks ≤ 7 → slope ≤ 20 → base ≤ 60 → height ≤ 25
    → ticks * (slope * (height * height) + (slope + 2 * base + 8) * height + base + 4) / 2 ≤ 2 ^ 16
low_turns ticks slope base height few low low' few' =
    let t = few_turns slope base height low low' few' in
    let all : slope * (height * height) + (slope + 2 * base + 8) * height + base + 4 ≤ 16264 = omega (arith, t.1, t.2, low') in
    let most = product ticks (slope * (height * height) + (slope + 2 * base + 8) * height + base + 4) 7 16264 few all in
    half (ticks * (slope * (height * height) + (slope + 2 * base + 8) * height + base + 4)) (omega (arith, most))
  where
    half : (n : ℕ) → n ≤ 113848 → n / 2 ≤ 2 ^ 16
    half n less = omega (arith, less)
