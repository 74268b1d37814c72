-- Levels and their weight.
use Rattle.std.proofs.Common.{◌≡◌, ℕ, zero, suc, ◌+◌, ◌*◌, ◌^◌, ◌/◌, ◌%◌, ◌<◌, ◌≤◌, ◌∙◌, Option, Some, None, List, [], ◌∷◌, ◌++◌, length, take, drop, refl, ap, sym, arith, pow_mono}
use Rattle.std.proofs.Math.Nat.{pow-suc, add-mul-div_left, add-mul-mod_self_left}
use Rattle.std.proofs.lemmas.Grind.{pow_more}
use Rattle.std.proofs.lemmas.Nat.{pow_pos}
use Rattle.std.proofs.lemmas.List.{take_at}
use Rattle.std.proofs.lemmas.List.Elements.{All-cons, All-nil}
use Rattle.builder_trait.specs.Parts.{Contents, live_of}
use Rattle.binary_stack.specs.Levels.{IsPartOf, parts_in, parts_of, weight_of, raised, live_in, items_in, live_items, all_items, HaveAtMost, AreLevels}
use Rattle.binary_stack.specs.Charge.{ones}
use Rattle.binary_stack.proofs.Distinct.{IsPartOf-append, IsPartOf-length, IsPartOf-refl, live_part}

pub doubled : (n : ℕ) → 2 ^ (n + 1) ≡ 2 * 2 ^ n
doubled n = omega (arith, pow_more 2 n)

-- each number is below some power
pub below_power : (n : ℕ) → n ≤ 2 ^ n
below_power zero = omega arith
below_power (suc n) = omega (arith, below_power n, pow_pos n, pow-suc 2 n)

-- what is written back into a vector of as many levels
pub take_whole : {A : Type 0} (new old : List A) (len : ℕ) → length new ≡ len → take len (new ++ drop (length new) old) ≡ new
take_whole new old len same = take_at new (drop (length new) old) len same

ones-none : (n : ℕ) → ones n 0 ≡ 0
ones-none zero = refl
ones-none (suc n) = omega (arith, ones-none n)

module _ {P : Type 0} where
  pub one_at_most : (l : Option P) → parts_in l ≤ 1
  one_at_most None = omega arith
  one_at_most (Some p) = omega arith

  -- the lowest digit of a weight, and the others
  pub half_weight : (l : Option P) (w : ℕ) → (parts_in l + 2 * w) / 2 ≡ w
  half_weight None w = add-mul-div_left 0 w {y = 2} (omega arith) ∙ omega arith
  half_weight (Some p) w = add-mul-div_left 1 w {y = 2} (omega arith) ∙ omega arith

  pub odd_weight : (l : Option P) (w : ℕ) → (parts_in l + 2 * w) % 2 ≡ parts_in l
  odd_weight None w = add-mul-mod_self_left 0 2 w
  odd_weight (Some p) w = add-mul-mod_self_left 1 2 w

  -- half of a weight is below the next lower power
  pub lighter : (l : Option P) (above : List (Option P)) (n : ℕ) → weight_of (l ∷ above) < 2 ^ suc n → weight_of above < 2 ^ n
  lighter l above n light = omega (arith, light, pow-suc 2 n)

  -- there is a part for each one of the weight
  pub parts-ones : (levels : List (Option P)) (n : ℕ) → weight_of levels < 2 ^ n → parts_of levels ≡ ones n (weight_of levels)
  parts-ones [] n light = sym (ones-none n)
  parts-ones (l ∷ above) zero light =
      let none : weight_of (l ∷ above) ≡ 0 = omega (arith, light) in
      let rest : weight_of above < 2 ^ zero = omega (arith, none) in
      omega (arith, none, parts-ones above zero rest)
  parts-ones (l ∷ above) (suc n) light =
      let w = weight_of above in
      let rest = parts-ones above n (lighter l above n light) in
      let others : ones n ((parts_in l + 2 * w) / 2) ≡ ones n w = ap (ones n) (half_weight l w) in
      omega (arith, rest, others, odd_weight l w)

  pub parts-few : (levels : List (Option P)) (n : ℕ) → weight_of levels < 2 ^ n → parts_of levels ≤ n
  parts-few [] n light = omega arith
  parts-few (l ∷ above) zero light =
      let none : weight_of (l ∷ above) ≡ 0 = omega (arith, light) in
      let rest : weight_of above < 2 ^ zero = omega (arith, none) in
      omega (arith, none, parts-few above zero rest)
  parts-few (l ∷ above) (suc n) light = omega (arith, one_at_most l, parts-few above n (lighter l above n light))

  pub parts-levels : (levels : List (Option P)) → parts_of levels ≤ length levels
  parts-levels [] = omega arith
  parts-levels (l ∷ above) = omega (arith, one_at_most l, parts-levels above)

  pub weight-below : (levels : List (Option P)) → weight_of levels < 2 ^ length levels
  weight-below [] = omega arith
  weight-below (l ∷ above) = omega (arith, one_at_most l, weight-below above, pow-suc 2 (length above))

  pub raised-cons : (top : Option P) (l : Option P) (levels : List (Option P)) → raised top (l ∷ levels) ≡ l ∷ raised top levels
  raised-cons None l levels = refl
  raised-cons (Some p) l levels = refl

module _ {P Item : Type 0} (contents : P → Contents Item) where
  live_level : (l : Option P) → IsPartOf (live_in contents l) (items_in contents l)
  live_level None = IsPartOf-refl []
  live_level (Some p) = live_part (contents p).flags (contents p).items

  pub live_levels : (levels : List (Option P)) → IsPartOf (live_items contents levels) (all_items contents levels)
  live_levels [] = IsPartOf-refl []
  live_levels (l ∷ above) =
      IsPartOf-append (live_in contents l) (items_in contents l) (live_items contents above) (all_items contents above) (live_level l) (live_levels above)

  pub few_live : (p : P) → length (live_of (contents p)) ≤ length (contents p).items
  few_live p = IsPartOf-length (live_of (contents p)) (contents p).items (live_part (contents p).flags (contents p).items)

  abbrev AtMost : ℕ → Option P → Type 0
  AtMost n l = length (items_in contents l) ≤ n

  none_heavy : (l : Option P) (n : ℕ) → parts_in l ≡ 0 → AtMost n l
  none_heavy None n none = omega arith
  none_heavy (Some p) n none = absurd (omega (arith, none))

  weightless : (levels : List (Option P)) (n : ℕ) → weight_of levels ≡ 0 → HaveAtMost contents n levels
  weightless [] n none = All-nil (AtMost n)
  weightless (l ∷ above) n none = All-cons (AtMost n) l above (none_heavy l n (omega (arith, none))) (weightless above n (omega (arith, none)))

  -- no part weighs more than all, so none has more items than half the power above
  small_from : (levels : List (Option P)) (i n m : ℕ) → AreLevels contents i levels → weight_of levels < 2 ^ n → 2 ^ (i + n) ≤ 2 * m
      → HaveAtMost contents m levels
  small_from [] i n m levels light high = All-nil (AtMost m)
  small_from (l ∷ above) i zero m levels light high = weightless (l ∷ above) m (omega (arith, light))
  small_from (l ∷ above) i (suc n) m levels light high =
      let same : 2 ^ (i + suc n) ≡ 2 ^ (i + 1 + n) = ap (λ k. 2 ^ k) (omega arith) in
      let one_up : i + suc n ≡ i + n + 1 = omega arith in
      let twice : 2 ^ (i + suc n) ≡ 2 * 2 ^ (i + n) = ap (λ k. 2 ^ k) one_up ∙ doubled (i + n) in
      let up : i ≤ i + n = omega arith in
      let less : 2 ^ i ≤ 2 ^ (i + n) = pow_mono up in
      All-cons (AtMost m) l above (omega (arith, levels.0, high, twice, less))
      (small_from above (i + 1) n m levels.1 (lighter l above n light) (omega (arith, high, same)))

  pub small-levels : (levels : List (Option P)) → AreLevels contents 0 levels → (g : ℕ) → weight_of levels < 2 ^ (g + 1)
      → HaveAtMost contents (2 ^ g) levels
  small-levels levels h g light =
      let same : 2 ^ (0 + (g + 1)) ≡ 2 ^ (g + 1) = ap (λ k. 2 ^ k) (omega arith) in
      small_from levels 0 (g + 1) (2 ^ g) h light (omega (arith, same, doubled g))
