-- Coordinates and the numbers that they are kept as.
use Rattle.std.proofs.Common.{◌≡◌, ℕ, suc, ◌+◌, ◌-◌, ◌<◌, ◌≤◌, Bool, true, false, cond, nat_le, nat_lt, ◌∷◌, decimal, Option, Some, None, arith, refl, sym, ap, ◌∙◌, inl, inr}
use Rattle.std.specs.Prelude.{ℤ, pos, negsuc, unsigned_abs, int_lt, if◌then◌else◌}
use Rattle.std.specs.Fmt.{signed_decimal}
use Rattle.std.proofs.lemmas.Int.{ints}
use Rattle.std.proofs.lemmas.Bool.{cases_Bool}
use Rattle.std.proofs.lemmas.Bool.Decides.{nat_tests}
use Rattle.map_model.specs.Version.{Version, One, Two, kept, negatives, greatest_coordinate, coordinate_text}
use Rattle.map_model.specs.Line.{IsCoordinate}
use Rattle.map_shapes.specs.Version.{kept_above, kept_below, keep_of, coordinate_of}

-- a coordinate is kept by its sign and how far from zero it is
pub keep_by_sign : (version : Version) (z : ℤ) → keep_of version z ≡ (if int_lt z (pos 0) then kept_below version (unsigned_abs z) else kept_above version (unsigned_abs z))
keep_by_sign version (pos n) =
    let above : int_lt (pos n) (pos 0) ≡ false = grind (arith, ints, nat_tests) in
    sym (ap (λ b. cond b (kept_below version n) (kept_above version n)) above)
keep_by_sign version (negsuc n) = refl

above_zero : (n : ℕ) → negatives ≤ n → coordinate_of Two n ≡ pos (n - negatives)
above_zero n h = omega (arith, ints, h)

below_zero : (n : ℕ) → n < negatives → coordinate_of Two n ≡ negsuc (negatives - n - 1)
below_zero n h = omega (arith, ints, h)

no_shift : (n : ℕ) → coordinate_of One n ≡ pos n
no_shift n = omega (arith, ints)

-- a coordinate as it is written
pub text_of_coordinate : (version : Version) (n : ℕ) → signed_decimal (coordinate_of version n) ≡ coordinate_text version n
text_of_coordinate One n = ap signed_decimal (no_shift n)
text_of_coordinate Two n = elim (cases_Bool (nat_lt n negatives)) [
  | inl below ↦
      let less : n < negatives = grind (arith, nat_tests, below) in
      let size : suc (negatives - n - 1) ≡ negatives - n = omega (arith, less) in
      ap signed_decimal (below_zero n less)
      ∙ ap (λ k. 45 ∷ decimal k) size
      ∙ sym (ap (λ b. cond b (45 ∷ decimal (negatives - n)) (decimal (n - negatives))) below)
  | inr above ↦
      let more : negatives ≤ n = grind (arith, nat_tests, above) in
      ap signed_decimal (above_zero n more)
      ∙ sym (ap (λ b. cond b (45 ∷ decimal (negatives - n)) (decimal (n - negatives))) above)
]

keep_above_zero : (version : Version) (n : ℕ) → n ≤ greatest_coordinate → kept_above version n ≡ Some (kept version n)
keep_above_zero version n h =
    let inside : nat_le n greatest_coordinate ≡ true = grind (arith, nat_tests, h) in
    ap (λ b. cond b (Some (kept version n)) None) inside

keep_below_zero : (n : ℕ) → n ≤ negatives → kept_below Two n ≡ Some (negatives - n)
keep_below_zero n h =
    let inside : nat_le n (kept Two 0) ≡ true = grind (arith, nat_tests, h) in
    ap (λ b. cond b (Some (kept Two 0 - n)) None) inside

-- a number is what its coordinate is kept as
pub kept_of_coordinate : (version : Version) (n : ℕ) → IsCoordinate version n → keep_of version (coordinate_of version n) ≡ Some n
kept_of_coordinate One n h = ap (keep_of One) (no_shift n) ∙ keep_above_zero One n h
kept_of_coordinate Two n h = elim (cases_Bool (nat_lt n negatives)) [
  | inl below ↦
      let less : n < negatives = grind (arith, nat_tests, below) in
      let size : negatives - suc (negatives - n - 1) ≡ n = omega (arith, less) in
      ap (keep_of Two) (below_zero n less) ∙ keep_below_zero (suc (negatives - n - 1)) (omega (arith, less)) ∙ ap (λ k. Some k) size
  | inr above ↦
      let more : negatives ≤ n = grind (arith, nat_tests, above) in
      let size : negatives + (n - negatives) ≡ n = omega (arith, more) in
      ap (keep_of Two) (above_zero n more) ∙ keep_above_zero Two (n - negatives) (omega (arith, more, h)) ∙ ap (λ k. Some k) size
]

-- the number that is there
abbrev number_in : ℕ → Option ℕ → ℕ
number_in d None = d
number_in d (Some n) = n

kept_one : (m n : ℕ) (b : Bool) → cond b (Some m) None ≡ Some n → (b ≡ true) × (m ≡ n)
kept_one m n true e = (refl, ap (number_in n) e)
kept_one m n false e = absurd (let never : None ≡ Some n = e in cc)

-- a coordinate is that of the number that it is kept as
pub coordinate_of_kept : (version : Version) (z : ℤ) (n : ℕ) → keep_of version z ≡ Some n → coordinate_of version n ≡ z
coordinate_of_kept One (pos m) n e =
    let is = kept_one (kept One m) n (nat_le m greatest_coordinate) e in
    no_shift n ∙ ap pos (sym is.1)
coordinate_of_kept One (negsuc m) n e = absurd (let never = kept_one (kept One 0 - suc m) n (nat_le (suc m) (kept One 0)) e in grind (arith, nat_tests, never.0))
coordinate_of_kept Two (pos m) n e =
    let is = kept_one (kept Two m) n (nat_le m greatest_coordinate) e in
    above_zero n (omega (arith, is.1)) ∙ ap pos (omega (arith, is.1))
coordinate_of_kept Two (negsuc m) n e =
    let is = kept_one (kept Two 0 - suc m) n (nat_le (suc m) (kept Two 0)) e in
    let least : suc m ≤ negatives = grind (arith, nat_tests, is.0) in
    below_zero n (omega (arith, is.1, least)) ∙ ap negsuc (omega (arith, is.1, least))
