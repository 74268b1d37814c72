-- The numbers of the calls that are to fail.
use Rattle.std.proofs.Common.{◌≡◌, ℕ, zero, suc, ◌^◌, ◌+◌, ◌<◌, ◌≤◌, List, [], ◌∷◌, length, drop, true, false, IsTrue, refl, ap, subst, sym, ◌∙◌, add-one, slice_index, slice_index_or, arith}
use Rattle.std.specs.Prelude.{All, Contains, ◌↔◌}
use Rattle.std.specs.List.Sorted.{IsStrictlyIncreasing}
use Rattle.std.proofs.Math.Seq.{drop-cons}
use Rattle.std.proofs.lemmas.Grind.{common_steps}
use Rattle.map_io.specs.Calls.{Calls, RisesAfter, numbers_after, counted}

-- numbers above a smaller one
pub RisesAfter-lower : (m n : ℕ) (xs : List ℕ) → m ≤ n → RisesAfter n xs → RisesAfter m xs
RisesAfter-lower m n [] below rising = tt
RisesAfter-lower m n (x ∷ xs) below rising = (omega arith, rising.1)

-- numbers that are all above n stay
pub numbers_after-rising : (n : ℕ) (xs : List ℕ) → RisesAfter n xs → numbers_after n xs ≡ xs
numbers_after-rising n [] rising = refl
numbers_after-rising n (x ∷ xs) rising =
    let above : n < x = rising.0 in
    let rest : numbers_after n xs ≡ xs = numbers_after-rising n xs (RisesAfter-lower n x xs (omega arith) rising.1) in
    grind (arith, common_steps, rest)

-- with n as their first, the others stay
pub numbers_after-first : (n : ℕ) (xs : List ℕ) → RisesAfter n xs → numbers_after n (n ∷ xs) ≡ xs
numbers_after-first n xs rising =
    let rest : numbers_after n xs ≡ xs = numbers_after-rising n xs rising in
    grind (arith, common_steps, rest)

-- each of them is above n
pub above-rising : (n : ℕ) (xs : List ℕ) → RisesAfter n xs → (k d : ℕ) → k < length xs → n < slice_index_or xs k d
above-rising n [] rising k d inside = absurd (omega arith)
above-rising n (x ∷ xs) rising zero d inside = rising.0
above-rising n (x ∷ xs) rising (suc k) d inside =
    let h : x < slice_index_or xs k d = above-rising x xs rising.1 k d (omega arith) in omega arith

-- n isn't among numbers above it
pub not_among_rising : (n : ℕ) (xs : List ℕ) → RisesAfter n xs → Contains xs n → ⊥
not_among_rising n xs rising (k, inside, is) =
    let h : n < slice_index_or xs k n = above-rising n xs rising k n inside in omega arith

-- a list that rises strictly, and begins above n
pub RisesAfter-from_increasing : (n : ℕ) (xs : List ℕ) → IsStrictlyIncreasing xs → (0 < length xs → n < slice_index xs 0) → RisesAfter n xs
RisesAfter-from_increasing n [] rising first = tt
RisesAfter-from_increasing n (x ∷ xs) rising first = (
  first (omega arith),
  RisesAfter-from_increasing x xs (λ k inside. shifted k (rising (suc k) (omega arith))) (λ some. rising 0 (omega arith)),
)
  where
    shifted : (k : ℕ) → slice_index (x ∷ xs) (suc k) < slice_index (x ∷ xs) (suc k + 1) → slice_index xs k < slice_index xs (k + 1)
    shifted k h = let e : suc k + 1 ≡ suc (k + 1) = omega arith in subst (λ q. slice_index xs k < slice_index (x ∷ xs) q) e h

-- the numbers that a plan begins with
pub RisesAfter-start : (xs : List ℕ) → IsStrictlyIncreasing xs → All (λ n. 0 < n) xs → RisesAfter 0 xs
RisesAfter-start xs rising numbered = RisesAfter-from_increasing 0 xs rising (λ some. numbered 0 0 some)

-- the next number, where one is left
pub drop-next : (p x : ℕ) (xs : List ℕ) → p < length xs → x ≡ slice_index_or xs p x → drop p xs ≡ x ∷ drop (p + 1) xs
drop-next p x xs inside is = drop-cons xs p x inside ∙ ap (λ y. y ∷ drop (suc p) xs) (sym is) ∙ ap (λ q. x ∷ drop q xs) (sym (add-one p))

-- after n calls with the numbers xs to come
abbrev pub plan : List ℕ → ℕ → Calls
plan xs n = record { failing = xs; made = n }

-- after one more call
abbrev pub plan_after_call : Calls → Calls
plan_after_call s = plan (numbers_after (s.made + 1) s.failing) (counted s.made)

-- a call that doesn't fail
pub counts_other : (s : Calls) (n number : ℕ) (xs : List ℕ) → plan xs n ≡ s → RisesAfter (n + 1) xs → number ≡ counted n → plan xs number ≡ plan_after_call s
counts_other s n number xs is rising e =
    subst (λ t. plan xs number ≡ plan_after_call t) is (ap (plan xs) e ∙ ap (λ l. plan l (counted n)) (sym (numbers_after-rising (n + 1) xs rising)))

-- a call that fails, as its number is the next
pub counts_first : (s : Calls) (n number : ℕ) (xs rest : List ℕ) → plan xs n ≡ s → xs ≡ (n + 1) ∷ rest → RisesAfter (n + 1) rest → number ≡ counted n
    → plan rest number ≡ plan_after_call s
counts_first s n number xs rest is next rising e =
    let kept : numbers_after (n + 1) xs ≡ rest = subst (λ l. numbers_after (n + 1) l ≡ rest) (sym next) (numbers_after-first (n + 1) rest rising) in
    subst (λ t. plan rest number ≡ plan_after_call t) is (ap (plan rest) e ∙ ap (λ l. plan l (counted n)) (sym kept))

pub fails_other : (s : Calls) (n : ℕ) (xs : List ℕ) → plan xs n ≡ s → RisesAfter (n + 1) xs → IsTrue false ↔ Contains s.failing (s.made + 1)
fails_other s n xs is rising =
    subst (λ t. IsTrue false ↔ Contains t.failing (t.made + 1)) is ((λ h. absurd (let none : ⊥ = cc in none)), λ there. absurd (not_among_rising (n + 1) xs rising there))

-- the next number isn't this call's, so what is left rises after this call
pub RisesAfter-skips : (n number x : ℕ) (xs rest : List ℕ) → xs ≡ x ∷ rest → x < 2 ^ 64 → number ≡ counted n → (x ≡ number → ⊥) → RisesAfter n xs → RisesAfter (n + 1) xs
RisesAfter-skips n number x xs rest next fits e other rising =
    let split : RisesAfter n (x ∷ rest) = subst (RisesAfter n) next rising in
    let above : n < x = split.0 in
    subst (RisesAfter (n + 1)) (sym next) (omega arith, split.1)

-- the next number is this call's
pub next_is_call : (n number x : ℕ) (xs rest : List ℕ) → xs ≡ x ∷ rest → number ≡ counted n → x ≡ number → x < 2 ^ 64 → RisesAfter n xs → xs ≡ (n + 1) ∷ rest
next_is_call n number x xs rest next e same fits rising =
    let split : RisesAfter n (x ∷ rest) = subst (RisesAfter n) next rising in
    let above : n < x = split.0 in
    let is : x ≡ n + 1 = omega arith in
    next ∙ ap (λ y. y ∷ rest) is

-- what comes after it rises after it
pub RisesAfter-rest : (n : ℕ) (xs rest : List ℕ) → xs ≡ (n + 1) ∷ rest → RisesAfter n xs → RisesAfter (n + 1) rest
RisesAfter-rest n xs rest next rising = let split : RisesAfter n ((n + 1) ∷ rest) = subst (RisesAfter n) next rising in split.1
