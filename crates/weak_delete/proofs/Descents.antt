-- Numbers whose lowest set bits are cleared, one after another.
use Rattle.std.proofs.Common.{◌≡◌, ℕ, ◌+◌, ◌-◌, ◌*◌, ◌^◌, ◌<◌, ◌≤◌, inl, inr, arith, ap, ◌∙◌}
use Rattle.std.proofs.lemmas.Bool.{cases_lt}
use Rattle.std.proofs.lemmas.Nat.{pow_pos, pow-add}
use Rattle.std.proofs.Math.Nat.{mul-le-mul_right}
use Rattle.query_laws.specs.StepLedger.{Counts, Spends}
use Rattle.query_laws.proofs.Counting.{Spends-nothing, Spends-then, Spends-within}
use Rattle.row_blocks.specs.Blocks.{height_at, IsMultiple}
use Rattle.row_blocks.proofs.Blocks.{pow_next, middle_of, below_from_pow}

-- a multiple of 2 ^ height isn't lower
height_at-multiple : (n height : ℕ) → IsMultiple n height → 0 < n → n < 2 ^ 64 → height ≤ height_at n
height_at-multiple n height multiple pos small = elim (cases_lt (height_at n) height) [
  | inl low ↦
      let middle = middle_of n pos small in
      let at = height_at n in
      let blocks = multiple.times * 2 ^ (height - at - 1) in
      let sum : height ≡ height - at - 1 + (at + 1) = omega arith in
      let split : 2 ^ height ≡ 2 ^ (height - at - 1) * 2 ^ (at + 1) = ap (λ i. 2 ^ i) sum ∙ pow-add 2 (height - at - 1) (at + 1) in
      let even : multiple.times * 2 ^ height ≡ blocks * 2 ^ (at + 1) = omega (arith, ap (λ x. multiple.times * x) split) in
      let odd : (2 * middle.times + 1) * 2 ^ at ≡ 2 * blocks * 2 ^ at = omega (arith, multiple.is, middle.is, even, ap (λ x. blocks * x) (pow_next at)) in
      let no : ⊥ = elim (cases_lt (2 * middle.times + 1) (2 * blocks)) [
        | inl less ↦
            let le : (2 * middle.times + 1 + 1) * 2 ^ at ≤ 2 * blocks * 2 ^ at = mul-le-mul_right (2 ^ at) (omega arith) in
            omega (arith, le, odd, pow_pos at)
        | inr more ↦
            let le : (2 * blocks + 1) * 2 ^ at ≤ (2 * middle.times + 1) * 2 ^ at = mul-le-mul_right (2 ^ at) (omega arith) in
            omega (arith, le, odd, pow_pos at)
      ] in absurd no
  | inr high ↦ high
]

-- the bits below a height are cleared, which is no higher than the number
pub record IsCleared (first at height : ℕ) : Type 0 where
  pub multiple : IsMultiple at height
  pub small : at ≤ first
  pub few : (h : ℕ) → first < 2 ^ h → height ≤ h

pub IsCleared-none : (n : ℕ) → IsCleared n n 0
IsCleared-none n = record { multiple = record { times = n; is = omega arith }; small = omega arith; few = λ h below. omega arith }

-- one more
pub IsCleared-next : {first at height : ℕ} (start : ℕ) → IsCleared first at height → 0 < at → first < 2 ^ 64 → start + 2 ^ height_at at ≡ at
    → IsCleared first start (height_at at + 1) × (height ≤ height_at at)
IsCleared-next {first} {at} {height} start cleared pos small is =
    let wide : at < 2 ^ 64 = omega (arith, cleared.small) in
    let middle = middle_of at pos wide in (
      record {
        multiple = record { times = middle.times; is = omega (arith, is, middle.is, ap (λ x. middle.times * x) (pow_next (height_at at))) };
        small = omega (arith, cleared.small);
        few = λ h below. let less : height_at at < h = below_from_pow _ _ (omega (arith, is, cleared.small)) in omega arith;
      },
      height_at-multiple at height cleared.multiple pos wide,
    )

-- a number goes down, a touch a bit
pub record IsDescent (first at : ℕ) (old new : Counts) : Type 0 where
  pub height : ℕ
  pub cleared : IsCleared first at height
  pub spent : Spends old new 0 0 height

pub IsDescent-begin : (first : ℕ) (old : Counts) → IsDescent first first old old
IsDescent-begin first old = record { height = 0; cleared = IsCleared-none first; spent = Spends-nothing old }

pub IsDescent-next : {first at : ℕ} {old mid new : Counts} (start : ℕ) → IsDescent first at old mid → Spends mid new 0 0 1
    → 0 < at → first < 2 ^ 64 → start + 2 ^ height_at at ≡ at → IsDescent first start old new
IsDescent-next {first} {at} start descent touch pos small is =
    let next = IsCleared-next start descent.cleared pos small is in
    record {
      height = height_at at + 1;
      cleared = next.0;
      spent = Spends-within (Spends-then descent.spent touch) (omega arith) (omega arith) (omega (arith, next.1));
    }

pub IsDescent-cost : {first at : ℕ} {old new : Counts} → IsDescent first at old new → (h : ℕ) → first < 2 ^ h → Spends old new 0 0 h
IsDescent-cost descent h below = Spends-within descent.spent (omega arith) (omega arith) (omega (arith, descent.cleared.few h below))
