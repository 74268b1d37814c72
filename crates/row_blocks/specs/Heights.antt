-- How high a block is that has room for some places.
use Rattle.std.specs.Prelude.{◌≡◌, ℕ, ◌+◌, ◌-◌, ◌*◌, ◌^◌, ◌<◌, ◌≤◌, ◌⊎◌}
use Rattle.std.specs.Int.{w64, leading_zeros}
use Rattle.std.specs.Int.Count.{count_leading_zeros}
use Rattle.std.proofs.Common.{inl, inr, ap, ◌∙◌, refl, subst, arith, add-one, pow-suc}
use Rattle.std.proofs.lemmas.Nat.{pow_pos, leading_length}
use Rattle.std.proofs.lemmas.Bool.{cases_lt}
use Rattle.std.proofs.Math.Nat.{pow-le-pow_right}

-- the least h such that n is at most 2 ^ h, as the law below says: how many bits n - 1 has
unfoldable pub height_of : ℕ → ℕ
height_of n = 64 - leading_zeros w64 (n - 1)

-- there are at most 2 ^ height, and for no lower height as few
pub record IsLeastHeight (n height : ℕ) : Type 0 where
  pub above : n ≤ 2 ^ height
  pub least : (h : ℕ) → n ≤ 2 ^ h → height ≤ h

low : (n m h : ℕ) → 2 ^ m ≤ 2 * (n - 1) + 1 → n ≤ 2 ^ h → (h < m) ⊎ (m ≤ h) → m ≤ h
low n m h below few (inl high) =
    let larger : 2 ^ (h + 1) ≤ 2 ^ m = pow-le-pow_right (omega arith) (omega arith) in
    let twice : 2 ^ (h + 1) ≡ 2 * 2 ^ h = omega (arith, ap (λ i. 2 ^ i) (add-one h) ∙ pow-suc 2 h) in
    let no : ⊥ = omega (arith, pow_pos h) in absurd no
low n m h below few (inr le) = le

pub height_of-is : (n : ℕ) → 64 - count_leading_zeros 64 (n - 1) ≡ height_of n
unfolding height_of
height_of-is n = refl

pub IsLeastHeight-height_of : (n : ℕ) → n < 2 ^ 64 → IsLeastHeight n (height_of n)
IsLeastHeight-height_of n small =
    let found = leading_length 64 (n - 1) (omega arith) in
    let m = found.0 in
    let same : m ≡ height_of n = omega (arith, found.1, height_of-is n) in
    subst (IsLeastHeight n) same (record { above = omega (arith, found.2); least = λ h few. low n m h found.3 few (cases_lt h m) })
