-- What ticks cost one after the other.
use Rattle.std.proofs.Common.{◌≡◌, ℕ, zero, suc, ◌+◌, ◌-◌, ◌*◌, ◌^◌, ◌<◌, ◌≤◌, ◌∙◌, ⊎_elim, refl, ap, sym, subst, arith, sum_by}
use Rattle.std.proofs.Math.Nat.{pow-suc}
use Rattle.std.specs.List.{range_with_len}
use Rattle.std.proofs.lemmas.Bool.{cases_lt}
use Rattle.std.proofs.lemmas.List.Sums.{sum_by-cons}
use Rattle.query_laws.specs.StepLedger.{Counts, Spends}
use Rattle.query_laws.proofs.Counting.{Spends-then, Spends-within}
use Rattle.builder_trait.specs.Builders.{IsQuota}
use Rattle.partial_build.specs.Quota.{quota}
use Rattle.log_levels.specs.Cost.{IsWithin, quotas}

-- for each weight there is a bound
pub below_power : (n : ℕ) → n < 2 ^ (n + 1)
below_power zero = omega arith
below_power (suc n) =
    let below = below_power n in
    let same : 2 ^ (suc n + 1) ≡ 2 ^ suc (n + 1) = ap (λ k. 2 ^ k) (omega arith) in omega (arith, below, same, pow-suc 2 (n + 1))

pub IsWithin-of : {turns marks touches turns' marks' touches' : ℕ} {old new : Counts} → Spends old new turns marks touches
    → turns ≤ turns' → marks ≤ marks' → touches ≤ 16 * turns + marks * touches' → IsWithin turns' marks' touches' old new
IsWithin-of {turns} {marks} {touches} {turns'} {marks'} {touches'} {old} {new} spent few few' bound =
    let taken : turns ≡ new.turns - old.turns = omega (arith, spent.turns_spent) in
    let marked : marks ≡ new.marks - old.marks = omega (arith, spent.marks_spent) in
    record {
      few_turns = omega (arith, few, taken);
      few_marks = omega (arith, few', marked);
      spent = subst (λ n. Spends old new (new.turns - old.turns) n (16 * (new.turns - old.turns) + n * touches')) marked
          (subst (λ n. Spends old new n marks (16 * n + marks * touches')) taken (Spends-within spent refl refl bound));
    }

pub IsWithin-more : {turns marks touches turns' marks' touches' : ℕ} {old new : Counts} → IsWithin turns marks touches old new
    → turns ≤ turns' → marks ≤ marks' → touches ≤ touches' → IsWithin turns' marks' touches' old new
IsWithin-more {turns} {marks} {touches} {turns'} {marks'} {touches'} {old} {new} h few few' bound =
    let m = new.marks - old.marks in
    let more : m * touches ≤ m * touches' = grind (arith, bound) in
    IsWithin-of h.spent (omega (arith, h.few_turns, few)) (omega (arith, h.few_marks, few')) (omega (arith, more))

pub IsWithin-then : {turns marks more_turns more_marks touches : ℕ} {old mid new : Counts} → IsWithin turns marks touches old mid
    → IsWithin more_turns more_marks touches mid new → IsWithin (turns + more_turns) (marks + more_marks) touches old new
IsWithin-then {turns} {marks} {more_turns} {more_marks} {touches} {old} {mid} {new} first second =
    let t = mid.turns - old.turns in
    let u = new.turns - mid.turns in
    let m = mid.marks - old.marks in
    let n = new.marks - mid.marks in
    let shared : (m + n) * touches ≡ m * touches + n * touches = grind arith in
    IsWithin-of (Spends-then first.spent second.spent) (omega (arith, first.few_turns, second.few_turns))
    (omega (arith, first.few_marks, second.few_marks)) (omega (arith, shared))

-- a part of one item is made
pub IsWithin-one : (slope base left : ℕ) {touches : ℕ} {old new : Counts} → IsQuota slope base 0 1 left → Spends old new (2 + left) 0 (16 + 16 * left)
    → IsWithin (quota slope base 0) 0 touches old new
IsWithin-one slope base left h spent = IsWithin-of spent (omega (arith, h.bounded)) (omega arith) (omega arith)

-- some ticks, and then some more
pub IsWithin-ticks : (m n turns marks : ℕ) {touches : ℕ} {old mid new : Counts} → IsWithin (m * turns) (m * marks) touches old mid
    → IsWithin (n * turns) (n * marks) touches mid new → IsWithin ((m + n) * turns) ((m + n) * marks) touches old new
IsWithin-ticks m n turns marks first second =
    let shared : (k : ℕ) → m * k + n * k ≡ (m + n) * k = λ k. grind arith in
    IsWithin-more (IsWithin-then first second) (omega (arith, shared turns)) (omega (arith, shared marks)) (omega arith)

-- as many ticks, or more
pub IsWithin-times : (m n turns marks : ℕ) {touches : ℕ} {old new : Counts} → m ≤ n → IsWithin (m * turns) (m * marks) touches old new
    → IsWithin (n * turns) (n * marks) touches old new
IsWithin-times m n turns marks few h =
    let more : (k : ℕ) → m * k ≤ n * k = λ k. grind (arith, few) in IsWithin-more h (more turns) (more marks) (omega arith)

module _ (slope base : ℕ) where
  -- the lowest of the levels, and the others
  pub quotas-first : (from to : ℕ) → from ≤ to → quotas slope base from to ≡ quota slope base from + quotas slope base (from + 1) to
  quotas-first from to few =
      let some : to + 1 - from ≡ suc (to + 1 - (from + 1)) = omega arith in
      ap (λ n. sum_by (quota slope base) (range_with_len from n)) some
      ∙ sum_by-cons (quota slope base) from (range_with_len (from + 1) (to + 1 - (from + 1)))

  pub quotas-fewer : (from to : ℕ) → quotas slope base (from + 1) to ≤ quotas slope base from to
  quotas-fewer from to = ⊎_elim
      (λ less. let none : to + 1 - (from + 1) ≡ 0 = omega (arith, less) in
      subst (λ n. sum_by (quota slope base) (range_with_len (from + 1) n) ≤ quotas slope base from to) (sym none) (omega arith))
      (λ more. omega (arith, quotas-first from to more))
      (cases_lt to from)

  -- a level is visited, where it isn't too high, and then those above it
  pub IsWithin-level : (touches : ℕ → ℕ) → ((g h : ℕ) → g ≤ h → touches g ≤ touches h) → (k g : ℕ) {old mid new : Counts}
      → IsWithin (quota slope base (k + 1)) 2 (touches (k + 1)) old mid → k + 1 ≤ g
      → IsWithin (quotas slope base (k + 1 + 1) g) (2 * (g - (k + 1))) (touches g) mid new
      → IsWithin (quotas slope base (k + 1) g) (2 * (g - k)) (touches g) old new
  IsWithin-level touches rise k g {old} {mid} first few rest =
      let here : IsWithin (quota slope base (k + 1)) 2 (touches g) old mid = IsWithin-more first (omega arith) (omega arith) (rise (k + 1) g few) in
      IsWithin-more (IsWithin-then here rest) (omega (arith, quotas-first (k + 1) g few)) (omega (arith, few)) (omega arith)

  -- nothing was done at a level
  pub IsWithin-above : {touches : ℕ} (k g : ℕ) {old new : Counts}
      → IsWithin (quotas slope base (k + 1 + 1) g) (2 * (g - (k + 1))) touches old new
      → IsWithin (quotas slope base (k + 1) g) (2 * (g - k)) touches old new
  IsWithin-above k g rest = IsWithin-more rest (quotas-fewer (k + 1) g) (omega arith) (omega arith)

-- a part of level 0 is made, and then the levels above are visited
pub IsWithin-first : (slope base g : ℕ) {touches : ℕ} {old mid new : Counts} → IsWithin (quota slope base 0) 0 touches old mid
    → IsWithin (quotas slope base 1 g) (2 * g) touches mid new → IsWithin (quotas slope base 0 g) (2 * g) touches old new
IsWithin-first slope base g {touches} {old} {mid} {new} first rest =
    let sum : quota slope base 0 + quotas slope base 1 g ≡ quotas slope base 0 g = sym (quotas-first slope base 0 g (omega arith)) in
    let marks : 0 + 2 * g ≡ 2 * g = omega arith in
    subst (λ n. IsWithin n (2 * g) touches old new) sum
    (subst (λ m. IsWithin (quota slope base 0 + quotas slope base 1 g) m touches old new) marks (IsWithin-then first rest))
