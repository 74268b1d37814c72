-- Questions for a number that stops at the greatest u64.
use Rattle.std.specs.Prelude.{ℕ, ◌+◌, ◌-◌, ◌^◌, ◌<◌, List, min, sum_by}
use Rattle.std.proofs.Common.{arith, refl}
use Rattle.std.proofs.lemmas.List.Sums.{sum_by-append}
use Rattle.query_laws.specs.Decomposable.{IsDecomposable}

-- a sum that stays at 2^64 - 1
abbrev pub capped_add : ℕ → ℕ → ℕ
capped_add a b = min (a + b) (2 ^ 64 - 1)

-- the sum of a number of each item, cut there
abbrev pub capped_sum : {Item : Type 0} → (Item → ℕ) → List Item → ℕ
capped_sum f xs = min (sum_by f xs) (2 ^ 64 - 1)

-- a number of 64 bits
abbrev pub FitsU64 : ℕ → Type 0
FitsU64 n = n < 2 ^ 64

pub IsDecomposable-capped_sum : {Item : Type 0} (f : Item → ℕ) → IsDecomposable (capped_sum f) capped_add 0 FitsU64
IsDecomposable-capped_sum f = record {
  value_lawful = λ xs. omega arith;
  join_lawful = λ a b h k. omega arith;
  of_nothing = refl;
  of_both = λ xs ys. rw (sum_by-append f xs ys) (omega arith);
  associative = λ a b c h k l. omega arith;
  commutative = λ a b h k. omega arith;
  neutral = λ a h. omega arith;
}
