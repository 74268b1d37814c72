-- The greatest level of a layer is a binary logarithm; and the digits of a number.
use Rattle.std.proofs.Common.{ℕ, zero, suc, ◌+◌, ◌*◌, ◌/◌, ◌^◌, ◌<◌, ◌≤◌, ◌≡◌, arith, refl, inl, inr, pow-suc}
use Rattle.std.proofs.lemmas.Bool.{cases_lt, lt-ltb, le-ltb}
use Rattle.map_model.specs.Cost.{halvings, greatest_level, digits_below, ones_below, batch_parts, batch_part_bound}

-- h is the greatest power of two at most m
abbrev pub IsLog : ℕ → ℕ → Type 0
IsLog m h = (2 ^ h ≤ m) × (m < 2 * 2 ^ h)

IsLog-halved : (m h : ℕ) → IsLog (m / 2) h → IsLog m (suc h)
IsLog-halved m h p = (omega (arith, p.0, pow-suc 2 h), omega (arith, p.1, pow-suc 2 h))

pub IsLog-halvings : (k m : ℕ) → 1 ≤ m → m < 2 ^ suc k → IsLog m (halvings k m)
IsLog-halvings zero m some small = (omega arith, omega arith)
IsLog-halvings (suc k) m some small = elim (cases_lt m 2) [
  | inl one ↦ rw (lt-ltb m 2 one) (omega arith, omega arith)
  | inr more ↦ rw (le-ltb m 2 more) (IsLog-halved m (halvings k (m / 2)) (IsLog-halvings k (m / 2) (omega arith) (omega (arith, pow-suc 2 (suc k)))))
]

halvings-le : (k m : ℕ) → halvings k m ≤ k
halvings-le zero m = omega arith
halvings-le (suc k) m = elim (cases_lt m 2) [
  | inl one ↦ rw (lt-ltb m 2 one) (omega arith)
  | inr more ↦ rw (le-ltb m 2 more) (omega (arith, halvings-le k (m / 2)))
]

pub greatest_level-le : (n : ℕ) → greatest_level n ≤ 63
unfolding greatest_level
greatest_level-le n = halvings-le 63 (2 * n + 10)

-- ---- digits

digits_below-le : (k m : ℕ) → digits_below k m ≤ k
digits_below-le zero m = omega arith
digits_below-le (suc k) zero = omega arith
digits_below-le (suc k) (suc m) = omega (arith, digits_below-le k (suc m / 2))

pub batch_part_bound-le : (n : ℕ) → batch_part_bound n ≤ 64
unfolding batch_part_bound
batch_part_bound-le n = digits_below-le 64 n

no_ones : (k : ℕ) → ones_below k 0 ≡ 0
no_ones zero = refl
no_ones (suc k) = omega (arith, no_ones k)

ones_below-le : (k m : ℕ) → ones_below k m ≤ digits_below k m
ones_below-le zero m = omega arith
ones_below-le (suc k) zero = omega (arith, no_ones k)
ones_below-le (suc k) (suc m) = omega (arith, ones_below-le k (suc m / 2))

-- a number has no more ones than digits
pub batch_parts-le : (n : ℕ) → batch_parts n ≤ batch_part_bound n
unfolding batch_parts batch_part_bound
batch_parts-le n = ones_below-le 64 n

-- so many digits are as many as a number needs
abbrev pub AreDigits : ℕ → ℕ → Type 0
AreDigits m d = (m < 2 ^ d) × (0 < m → 2 ^ d ≤ 2 * m)

digits-more : (m d : ℕ) → 1 < m → AreDigits (m / 2) d → AreDigits m (suc d)
digits-more m d more p = (omega (arith, p.0, pow-suc 2 d), λ _. omega (arith, p.1 (omega (arith, more)), pow-suc 2 d))

pub AreDigits-below : (k m : ℕ) → m < 2 ^ k → AreDigits m (digits_below k m)
AreDigits-below zero m small = (small, λ some. absurd (omega (arith, small, some)))
AreDigits-below (suc k) zero small = (omega arith, λ some. absurd (omega (arith, some)))
AreDigits-below (suc k) (suc zero) small = one k (AreDigits-below k 0 (omega arith))
  where
    one : (k : ℕ) → AreDigits 0 (digits_below k 0) → AreDigits 1 (suc (digits_below k 0))
    one zero p = (omega arith, λ _. omega arith)
    one (suc k) p = (omega arith, λ _. omega arith)
AreDigits-below (suc k) (suc (suc m)) small =
    digits-more (suc (suc m)) (digits_below k (suc (suc m) / 2)) (omega arith) (AreDigits-below k (suc (suc m) / 2) (omega (arith, small, pow-suc 2 k)))

-- a number above 0 has a digit
pub some_digit : (n : ℕ) → 1 ≤ batch_part_bound (n + 1)
unfolding batch_part_bound
some_digit n = some 63 (n + 1) (omega arith)
  where
    some : (k m : ℕ) → 0 < m → 1 ≤ digits_below (suc k) m
    some k zero h = absurd (omega (arith, h))
    some k (suc m) h = omega arith
