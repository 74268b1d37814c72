-- Heights of numbers, and the blocks that are halves of larger blocks.
use Rattle.std.proofs.Common.{◌≡◌, ◌≢◌, ℕ, zero, suc, ◌+◌, ◌-◌, ◌*◌, ◌/◌, ◌%◌, ◌^◌, ◌<◌, ◌≤◌, ◌⊎◌, inl, inr, refl, sym, ap, ap₂, subst, ◌∙◌, arith, pow-suc, add-one}
use Rattle.std.proofs.lemmas.Nat.{pow_pos, leading_length, shl-shr}
use Rattle.std.proofs.lemmas.Bool.{cases_lt}
use Rattle.std.proofs.Math.Nat.{pow-le-pow_right, mul-le-mul_right}
use Rattle.std.specs.Int.Count.{count_trailing_zeros, count_leading_zeros, under}
use Rattle.row_blocks.specs.Blocks.{height_at, IsMultiple}

pub pow_next : (height : ℕ) → 2 ^ (height + 1) ≡ 2 ^ height + 2 ^ height
pow_next height = omega (arith, ap (λ i. 2 ^ i) (add-one height) ∙ pow-suc 2 height)

-- a number is even or odd
half_of : (n : ℕ) → (n % 2 ≡ 0) ⊎ (n % 2 ≡ 1)
half_of n = elim (cases_lt (n % 2) 1) [ inl h ↦ inl (omega arith) | inr h ↦ inr (omega arith) ]

-- a smaller rest decides the trailing zeros
trailing_rest : (k l m r : ℕ) → l ≤ k → 0 < r → r < 2 ^ l → count_trailing_zeros k (m * 2 ^ l + r) ≡ count_trailing_zeros k r
unfolding count_trailing_zeros
trailing_rest k zero m r within pos small = let no : ⊥ = omega arith in absurd no
trailing_rest zero (suc l) m r within pos small = let no : ⊥ = omega arith in absurd no
trailing_rest (suc k) (suc l) m r within pos small =
    let twice : m * 2 ^ suc l ≡ (m * 2 ^ l) * 2 = omega (arith, ap (λ x. m * x) (pow-suc 2 l)) in
    let same_low : (m * 2 ^ suc l + r) % 2 ≡ r % 2 = omega arith in
    let same_high : (m * 2 ^ suc l + r) / 2 ≡ m * 2 ^ l + r / 2 = omega arith in
    let begin : under ((m * 2 ^ suc l + r) % 2) (count_trailing_zeros k ((m * 2 ^ suc l + r) / 2)) ≡ under (r % 2) (count_trailing_zeros k (m * 2 ^ l + r / 2)) = ap₂ (λ d x. under d (count_trailing_zeros k x)) same_low same_high in
    begin ∙ elim (half_of r) [
      | inl even ↦ ap (under (r % 2)) (trailing_rest k l m (r / 2) (omega arith) (omega arith) (omega (arith, pow-suc 2 l)))
      | inr odd ↦ ap (λ d. under d (count_trailing_zeros k (m * 2 ^ l + r / 2))) odd ∙ sym (ap (λ d. under d (count_trailing_zeros k (r / 2))) odd)
    ]

trailing_pow : (k l : ℕ) → l < k → count_trailing_zeros k (2 ^ l) ≡ l
unfolding count_trailing_zeros
trailing_pow zero l within = let no : ⊥ = omega arith in absurd no
trailing_pow (suc k) zero within = refl
trailing_pow (suc k) (suc l) within =
    let even : 2 ^ suc l % 2 ≡ 0 = omega (arith, pow-suc 2 l) in
    let half : 2 ^ suc l / 2 ≡ 2 ^ l = omega (arith, pow-suc 2 l) in
    ap₂ (λ d x. under d (count_trailing_zeros k x)) even half ∙ ap suc (trailing_pow k l (omega arith))

pow_trailing-le : (k n : ℕ) → 0 < n → n < 2 ^ k → 2 ^ count_trailing_zeros k n ≤ n
unfolding count_trailing_zeros
pow_trailing-le zero n pos small = omega arith
pow_trailing-le (suc k) n pos small = elim (half_of n) [
  | inl even ↦
      let t = count_trailing_zeros k (n / 2) in
      let below : 2 ^ t ≤ n / 2 = pow_trailing-le k (n / 2) (omega arith) (omega (arith, pow-suc 2 k)) in
      let is : under (n % 2) t ≡ suc t = ap (λ d. under d t) even in
      omega (arith, ap (λ i. 2 ^ i) is, pow-suc 2 t)
  | inr odd ↦
      let is : under (n % 2) (count_trailing_zeros k (n / 2)) ≡ 0 = ap (λ d. under d (count_trailing_zeros k (n / 2))) odd in
      omega (arith, ap (λ i. 2 ^ i) is)
]

pub pow_height_at-le : (n : ℕ) → 0 < n → n < 2 ^ 64 → 2 ^ height_at n ≤ n
unfolding height_at
pow_height_at-le n pos small = pow_trailing-le 64 n pos small

pub height_at-is : (n : ℕ) → count_trailing_zeros 64 n ≡ height_at n
unfolding height_at
height_at-is n = refl

-- the middle of a block is at the height below
pub height_at-middle : (start height : ℕ) → IsMultiple start (height + 1) → height < 64 → height_at (start + 2 ^ height) ≡ height
unfolding height_at
height_at-middle start height multiple within =
    let twice : 2 ^ (height + 1) ≡ 2 ^ height * 2 = ap (λ i. 2 ^ i) (add-one height) ∙ pow-suc 2 height in
    let pos = pow_pos height in
    let moved : start + 2 ^ height ≡ multiple.times * 2 ^ (height + 1) + 2 ^ height = ap (λ s. s + 2 ^ height) multiple.is in
    ap (count_trailing_zeros 64) moved ∙ trailing_rest 64 (height + 1) multiple.times (2 ^ height) (omega arith) pos (omega arith) ∙ trailing_pow 64 height within

-- a node inside a block is over places of the block alone
pub starts_inside : (start height end : ℕ) → IsMultiple start height → height ≤ 64 → start < end → end < start + 2 ^ height → start + 2 ^ height_at end ≤ end
unfolding height_at
starts_inside start height end multiple within after before =
    let rest = end - start in
    let moved : end ≡ multiple.times * 2 ^ height + rest = omega (arith, multiple.is) in
    let same : count_trailing_zeros 64 end ≡ count_trailing_zeros 64 rest = ap (count_trailing_zeros 64) moved ∙ trailing_rest 64 height multiple.times rest within (omega arith) (omega arith) in
    let small : 2 ^ height ≤ 2 ^ 64 = pow-le-pow_right (omega arith) within in
    let le : 2 ^ count_trailing_zeros 64 rest ≤ rest = pow_trailing-le 64 rest (omega arith) (omega arith) in
    omega (arith, ap (λ i. 2 ^ i) same)

-- halves of a block
pub first_half : (start height : ℕ) → IsMultiple start (height + 1) → IsMultiple start height
first_half start height multiple = record {
  times = 2 * multiple.times;
  is = omega (arith, multiple.is ∙ ap (λ x. multiple.times * x) (pow_next height));
}

pub second_half : (start height : ℕ) → IsMultiple start (height + 1) → IsMultiple (start + 2 ^ height) height
second_half start height multiple = record {
  times = 2 * multiple.times + 1;
  is = omega (arith, multiple.is ∙ ap (λ x. multiple.times * x) (pow_next height));
}

pub zero_multiple : (height : ℕ) → IsMultiple 0 height
zero_multiple height = record { times = 0; is = omega arith }

-- what the number of leading zeros says of the height above a number
pub record IsHeightAbove (n height : ℕ) : Type 0 where
  pub above : n < 2 ^ height
  pub lowest : (h : ℕ) → n < 2 ^ h → height ≤ h
  pub least : (h : ℕ) → n ≤ 2 ^ h → height ≤ h + 1

pub height_above : (n : ℕ) → n < 2 ^ 64 → IsHeightAbove n (64 - count_leading_zeros 64 n)
height_above n small =
    let found = leading_length 64 n small in
    let m = found.0 in
    let same : m ≡ 64 - count_leading_zeros 64 n = omega (arith, found.1) in
    subst (IsHeightAbove n) same (record {
      above = found.2;
      lowest = λ h below. low_strict h below (cases_lt h m);
      least = λ h below. low h below (cases_lt (h + 1) m);
    })
  where
    low_strict : (h : ℕ) → n < 2 ^ h → (h < (leading_length 64 n small).0) ⊎ ((leading_length 64 n small).0 ≤ h) → (leading_length 64 n small).0 ≤ h
    low_strict h below (inl high) =
        let found = leading_length 64 n small in
        let larger : 2 ^ (h + 1) ≤ 2 ^ found.0 = pow-le-pow_right (omega arith) (omega arith) in
        let no : ⊥ = omega (arith, pow_next h, found.3) in absurd no
    low_strict h below (inr h') = h'

    low : (h : ℕ) → n ≤ 2 ^ h → (h + 1 < (leading_length 64 n small).0) ⊎ ((leading_length 64 n small).0 ≤ h + 1) → (leading_length 64 n small).0 ≤ h + 1
    low h below (inl high) =
        let found = leading_length 64 n small in
        let larger : 2 ^ (h + 2) ≤ 2 ^ found.0 = pow-le-pow_right (omega arith) (omega arith) in
        let step : 2 ^ (h + 2) ≡ 2 ^ (h + 1) + 2 ^ (h + 1) = ap (λ i. 2 ^ i) (omega arith) ∙ pow_next (h + 1) in
        let pos = pow_pos h in
        let no : ⊥ = omega (arith, pow_next h, found.3) in absurd no
    low h below (inr h') = h'

-- a block that is no single place, and the length of its halves
pub record IsHalved (start height half : ℕ) : Type 0 where
  pub first : IsMultiple start (height - 1)
  pub second : IsMultiple (start + half) (height - 1)
  pub is : half ≡ 2 ^ (height - 1)
  pub twice : 2 ^ height ≡ half + half
  pub some : 0 < half
  pub own : 2 ^ height_at (start + half) ≡ half
  pub at : height_at (start + half) ≡ height - 1

pub halved_next : (start height : ℕ) → IsMultiple start (height + 1) → height < 64 → IsHalved start (height + 1) (2 ^ height)
halved_next start height multiple small =
    let low : height ≡ height + 1 - 1 = omega arith in record {
      first = subst (IsMultiple start) low (first_half start height multiple);
      second = subst (IsMultiple (start + 2 ^ height)) low (second_half start height multiple);
      is = ap (λ i. 2 ^ i) low;
      twice = pow_next height;
      some = pow_pos height;
      own = ap (λ i. 2 ^ i) (height_at-middle start height multiple small);
      at = height_at-middle start height multiple small ∙ low;
    }

pub halved : (start height half : ℕ) → IsMultiple start height → 0 < height → height ≤ 64 → half ≡ 2 ^ (height - 1) → IsHalved start height half
halved start height half multiple pos small is =
    let high : height ≡ height - 1 + 1 = omega arith in
    let next = halved_next start (height - 1) (subst (IsMultiple start) high multiple) (omega arith) in
    let P : ℕ → Type 0 = λ l. IsHalved start l half in
    subst P (sym high) (subst (IsHalved start (height - 1 + 1)) (sym is) next)

-- a number is an odd number of blocks of its height
pub record IsMiddle (n height : ℕ) : Type 0 where
  pub times : ℕ
  pub is : n ≡ (2 * times + 1) * 2 ^ height

trailing_odd : (k n : ℕ) → 0 < n → n < 2 ^ k → IsMiddle n (count_trailing_zeros k n)
unfolding count_trailing_zeros
trailing_odd zero n pos small = let no : ⊥ = omega arith in absurd no
trailing_odd (suc k) n pos small = elim (half_of n) [
  | inl even ↦
      let t = count_trailing_zeros k (n / 2) in
      let below = trailing_odd k (n / 2) (omega arith) (omega (arith, pow-suc 2 k)) in
      let height : suc t ≡ under (n % 2) t = sym (ap (λ d. under d t) even) in
      subst (IsMiddle n) height (record { times = below.times; is = omega (arith, below.is, ap (λ x. (2 * below.times + 1) * x) (pow-suc 2 t)) })
  | inr odd ↦
      let height : 0 ≡ under (n % 2) (count_trailing_zeros k (n / 2)) = sym (ap (λ d. under d (count_trailing_zeros k (n / 2))) odd) in
      subst (IsMiddle n) height (record { times = n / 2; is = omega arith })
]

pub middle_of : (n : ℕ) → 0 < n → n < 2 ^ 64 → IsMiddle n (height_at n)
unfolding height_at
middle_of n pos small = trailing_odd 64 n pos small

-- a lower power of two has a lower exponent
pub below_from_pow : (i j : ℕ) → 2 ^ i < 2 ^ j → i < j
below_from_pow i j h = elim (cases_lt i j) [
  | inl low ↦ low
  | inr high ↦ let le : 2 ^ j ≤ 2 ^ i = pow-le-pow_right (omega arith) high in let no : ⊥ = omega arith in absurd no
]

-- more blocks reach farther
pub times_below : (a b half : ℕ) → a * half < b * half → a < b
times_below a b half h = elim (cases_lt a b) [
  | inl low ↦ low
  | inr high ↦ let le : b * half ≤ a * half = mul-le-mul_right half high in let no : ⊥ = omega arith in absurd no
]

-- blocks that begin at an even or an odd block of the height
pub even_block : (start height half : ℕ) → IsMultiple start height → half ≡ 2 ^ height → start / half % 2 ≡ 0 → IsMultiple start (height + 1)
even_block start height half multiple is even =
    let blocks : start / half ≡ multiple.times = ap₂ (λ s h. s / h) multiple.is is ∙ shl-shr multiple.times height in
    let twice : multiple.times ≡ multiple.times / 2 * 2 = omega (arith, ap (λ n. n % 2) blocks) in
    record {
      times = multiple.times / 2;
      is = omega (arith, multiple.is, ap (λ n. n * 2 ^ height) twice, ap (λ x. multiple.times / 2 * x) (pow_next height));
    }

pub odd_block : (start height half : ℕ) → IsMultiple start height → half ≡ 2 ^ height → start / half % 2 ≢ 0 → IsMultiple (start + half) (height + 1)
odd_block start height half multiple is odd =
    let blocks : start / half ≡ multiple.times = ap₂ (λ s h. s / h) multiple.is is ∙ shl-shr multiple.times height in
    let twice : multiple.times + 1 ≡ (multiple.times + 1) / 2 * 2 = omega (arith, ap (λ n. n % 2) blocks) in
    record {
      times = (multiple.times + 1) / 2;
      is = omega (arith, multiple.is, is, ap (λ n. n * 2 ^ height) twice, ap (λ x. (multiple.times + 1) / 2 * x) (pow_next height));
    }
