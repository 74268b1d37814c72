-- Sums of the first values of a function.
use Rattle.std.proofs.Common.{◌≡◌, ◌≢◌, ℕ, zero, suc, ◌+◌, ◌-◌, ◌*◌, ◌/◌, ◌%◌, ◌^◌, ◌<◌, ◌≤◌, inl, inr, List, refl, ap, ap₂, ◌∙◌, arith, add_comm}
use Rattle.std.specs.Int.{bit_at}
use lib.Count.{ones}
use Rattle.std.proofs.lemmas.Nat.{ones_cat, ones-le, zero_from_ones, mod-pow-add, mod_below, pow_pos}
use Rattle.std.proofs.lemmas.Nat.Bits.{bit_at-lt}
use Rattle.std.proofs.lemmas.Bool.{cases_lt, cases_eq}
use Rattle.rank_rows.specs.declared.word.Word.{Word}
use Rattle.rank_rows.specs.Totals.{total}
use Rattle.rank_rows.specs.Words.{word_at, dead_at, dead_before}

module _ (f : ℕ → ℕ) where
  pub total-none : total f 0 ≡ 0
  unfolding total
  total-none = refl

  pub total-more : (n : ℕ) → total f (n + 1) ≡ total f n + f n
  unfolding total
  total-more n = ap (total f) (let next : n + 1 ≡ suc n = omega arith in next)

  pub total-rise : (a b : ℕ) → total f a ≤ total f (a + b)
  total-rise a zero = omega (arith, ap (total f) (let same : a + 0 ≡ a = omega arith in same))
  total-rise a (suc b) = omega (arith, total-rise a b, total-more (a + b), ap (total f) (let next : a + suc b ≡ a + b + 1 = omega arith in next))

  pub total-le : (a b : ℕ) → a ≤ b → total f a ≤ total f b
  total-le a b le = omega (arith, total-rise a (b - a), ap (total f) (let is : a + (b - a) ≡ b = omega arith in is))

  pub total-most : (most a b : ℕ) → ((k : ℕ) → f k ≤ most) → total f (a + b) ≤ total f a + b * most
  total-most most a zero each = omega (arith, ap (total f) (let same : a + 0 ≡ a = omega arith in same))
  total-most most a (suc b) each =
      omega (arith, each (a + b), total-most most a b each, total-more (a + b), ap (total f) (let next : a + suc b ≡ a + b + 1 = omega arith in next))

-- values that are the same below a number
pub total-same : (f g : ℕ → ℕ) (n : ℕ) → ((k : ℕ) → k < n → f k ≡ g k) → total f n ≡ total g n
unfolding total
total-same f g zero same = refl
total-same f g (suc n) same = ap₂ (λ a b. a + b) (total-same f g n (λ k low. same k (omega arith))) (same n (omega arith))

-- values that begin at a number
pub total-from : (f g : ℕ → ℕ) (a n : ℕ) → ((k : ℕ) → k < n → f (a + k) ≡ g k) → total f (a + n) ≡ total f a + total g n
total-from f g a zero same = omega (arith, total-none g, ap (total f) (let is : a + 0 ≡ a = omega arith in is))
total-from f g a (suc n) same =
    let next : a + suc n ≡ a + n + 1 = omega arith in
    let one : suc n ≡ n + 1 = omega arith in
    omega (
      arith,
      ap (total f) next,
      ap (total g) one,
      total-more f (a + n),
      total-more g n,
      total-from f g a n (λ k low. same k (omega arith)),
      same n (omega arith),
    )

-- one value that changes
pub total-changed : (f g : ℕ → ℕ) (at n : ℕ) → at < n → ((k : ℕ) → k ≢ at → f k ≡ g k) → total f n + g at ≡ total g n + f at
total-changed f g at zero low same = omega arith
total-changed f g at (suc n) low same =
    let one : suc n ≡ n + 1 = omega arith in
    let f_next = ap (total f) one ∙ total-more f n in
    let g_next = ap (total g) one ∙ total-more g n in
    elim (cases_eq n at) [
      | inl is ↦ omega (arith, f_next, g_next, ap f is, ap g is, total-same f g n (λ k below. same k (λ e. (let no : ⊥ = omega arith in no))))
      | inr apart ↦ omega (arith, f_next, g_next, same n apart, total-changed f g at n (omega (arith, apart)) same)
    ]

-- the bits of a mask below a number
pub ones-below : (mask bits : ℕ) → ones (mask % 2 ^ bits) ≡ total (bit_at mask) bits
unfolding total
ones-below mask zero = omega (arith, ap ones (let none : mask % 2 ^ 0 ≡ 0 = omega arith in none), ones-le 0 0 (omega arith))
ones-below mask (suc bits) =
    let split : mask % 2 ^ (1 + bits) ≡ (mask / 2 ^ bits % 2 ^ 1) * 2 ^ bits + mask % 2 ^ bits = mod-pow-add mask 1 bits in
    let next : suc bits ≡ 1 + bits = omega arith in
    ap (λ s. ones (mask % 2 ^ s)) next ∙ ap ones split ∙ ones_cat bits (mask / 2 ^ bits % 2 ^ 1) (mask % 2 ^ bits) (mod_below mask (2 ^ bits) (pow_pos bits))
    ∙ ap₂ (λ a b. a + b) (one_bit (mask / 2 ^ bits % 2) (omega arith)) (ones-below mask bits)
    ∙ add_comm (bit_at mask bits) (total (bit_at mask) bits)
  where
    one_bit : (b : ℕ) → b < 2 → ones b ≡ b
    one_bit b small = elim (cases_lt b 1) [
      | inl none ↦ let is : b ≡ 0 = omega arith in omega (arith, ap ones is, ones-le 0 0 (omega arith))
      | inr one ↦ elim (cases_eq (ones b) 0) [
        | inl zero_ones ↦ let is : b ≡ 0 = zero_from_ones b zero_ones in let no : ⊥ = omega arith in absurd no
        | inr some ↦ omega (arith, some, ones-le 1 b (omega arith))
      ]
    ]

-- no more places are dead than there are
pub dead_before-le : (words : List Word) (e : ℕ) → dead_before words e ≤ 64 * e
dead_before-le words e =
    omega (
      arith,
      total-most (dead_at words) 1 0 (64 * e) (λ k. (let low = bit_at-lt (word_at words (k / 64)).dead (k % 64) in omega (arith, low))),
      total-none (dead_at words),
      ap (total (dead_at words)) (let is : 0 + 64 * e ≡ 64 * e = omega arith in is),
    )

pub dead_between-le : (words : List Word) (d e : ℕ) → d ≤ e → dead_before words e ≤ dead_before words d + 64 * (e - d)
dead_between-le words d e le =
    omega (
      arith,
      total-most (dead_at words) 1 (64 * d) (64 * (e - d)) (λ k. (let low = bit_at-lt (word_at words (k / 64)).dead (k % 64) in omega (arith, low))),
      ap (total (dead_at words)) (let is : 64 * d + 64 * (e - d) ≡ 64 * e = omega (arith, le) in is),
    )

pub dead_upto-le : (words : List Word) (a b : ℕ) → a ≤ b → total (dead_at words) b + a ≤ total (dead_at words) a + b
dead_upto-le words a b le =
    omega (
      arith,
      total-most (dead_at words) 1 a (b - a) (λ k. (let low = bit_at-lt (word_at words (k / 64)).dead (k % 64) in omega (arith, low))),
      ap (total (dead_at words)) (let is : a + (b - a) ≡ b = omega (arith, le) in is),
    )
