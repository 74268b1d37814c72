-- Places in entries of sixteen.
use Rattle.std.proofs.Common.{◌≡◌, ◌≢◌, ℕ, zero, suc, ◌+◌, ◌-◌, ◌*◌, ◌/◌, ◌%◌, ◌^◌, ◌<◌, ◌≤◌, ◌==◌, ◌⊎◌, inl, inr, true, false, cond, List, [], ◌∷◌, ◌++◌, length, take, get_or, set, replicate, refl, sym, ap, ap₂, ◌∙◌, arith, get_or-set_same, get_or-set_other, add_comm}
use Rattle.std.specs.List.{count_by, sum_by}
use Rattle.std.specs.Int.{bit_at}
use lib.Count.{ones}
use Rattle.std.proofs.lemmas.Nat.{ones_cat, ones-le, zero_from_ones, mod-pow-add, mod_below, pow_pos}
use Rattle.std.proofs.lemmas.Nat.Bits.{bit_at-lt, bit_at_ones}
use Rattle.std.proofs.lemmas.Bool.{cases_lt, cases_eq}
use Rattle.std.proofs.lemmas.Bool.Decides.{nat_tests}
use Rattle.std.proofs.lemmas.List.{same_lists, take_all, length-set, get_or_append_left, get_or_push}
use Rattle.std.proofs.lemmas.List.FromFn.{length-map-range_with_len, get_or-map-range_with_len, map-range_with_len_more, fill_by_all}
use Rattle.std.proofs.lemmas.List.Sums.{sum_by_more}
use Rattle.weak_delete.specs.declared.place.Place.{Place}
use Rattle.weak_delete.specs.Places.{is_live, live_amount, cleared, no_place, live_place}
use Rattle.weak_delete.specs.Packed.{live_bits, live_weights, place_in, packed}

pub length-packed : (weights : List (List ℕ)) (masks : List ℕ) (n : ℕ) → length (packed weights masks n) ≡ n
length-packed weights masks n = length-map-range_with_len (place_in weights masks) 0 n

pub get_or-packed : (weights : List (List ℕ)) (masks : List ℕ) (n k : ℕ) (d : Place) → k < n → get_or (packed weights masks n) k d ≡ place_in weights masks k
get_or-packed weights masks n k d within = get_or-map-range_with_len (place_in weights masks) 0 n k k d within (omega arith)

-- the same places, whatever the entries have behind them
pub packed-same : (weights weights' : List (List ℕ)) (masks masks' : List ℕ) (n : ℕ) → ((k : ℕ) → k < n → place_in weights' masks' k ≡ place_in weights masks k)
    → packed weights' masks' n ≡ packed weights masks n
packed-same weights weights' masks masks' n same =
    fill_by_all (place_in weights masks) (packed weights' masks' n) n no_place (length-packed weights' masks' n)
    (λ k within. get_or-packed weights' masks' n k no_place within ∙ same k within)

-- and one more
pub packed-more : (weights weights' : List (List ℕ)) (masks masks' : List ℕ) (n : ℕ) (place : Place) → ((k : ℕ) → k < n → place_in weights' masks' k ≡ place_in weights masks k)
    → place_in weights' masks' n ≡ place → packed weights' masks' (n + 1) ≡ packed weights masks n ++ place ∷ []
packed-more weights weights' masks masks' n place same last =
    map-range_with_len_more (place_in weights' masks') 0 n n (omega arith)
    ∙ ap₂ (λ ps p. ps ++ p ∷ []) (packed-same weights weights' masks masks' n same) last

-- the first place of a new entry
pub packed-put_first : (weights : List (List ℕ)) (masks : List ℕ) (n weight : ℕ) → length weights ≡ n / 16 → length masks ≡ n / 16 → n % 16 ≡ 0
    → packed (weights ++ replicate 16 weight ∷ []) (masks ++ (2 ^ 16 - 1) ∷ []) (n + 1) ≡ packed weights masks n ++ live_place weight ∷ []
packed-put_first weights masks n weight as_many masks_too first =
    packed-more weights (weights ++ replicate 16 weight ∷ []) masks (masks ++ (2 ^ 16 - 1) ∷ []) n (live_place weight)
    (λ k within. ap₂ (λ (e : List ℕ) m. record { amount = get_or e (k % 16) 0; live = bit_at m (k % 16) == 1 })
    (get_or_append_left weights (replicate 16 weight ∷ []) [] (k / 16) (omega arith))
    (get_or_append_left masks ((2 ^ 16 - 1) ∷ []) 0 (k / 16) (omega arith)))
    (ap₂ (λ (e : List ℕ) m. record { amount = get_or e (n % 16) 0; live = bit_at m (n % 16) == 1 })
    (get_or_push weights (replicate 16 weight) [] (n / 16) as_many) (get_or_push masks (2 ^ 16 - 1) 0 (n / 16) masks_too)
    ∙ ap (λ r. record { amount = get_or (replicate 16 weight) r 0; live = bit_at (2 ^ 16 - 1) r == 1 }) first)

-- a place behind others of its entry
pub packed-put_behind : (weights : List (List ℕ)) (masks : List ℕ) (n weight : ℕ) (entry : List ℕ) → n / 16 < length weights → get_or weights (n / 16) [] ≡ entry
    → n % 16 < length entry → get_or masks (n / 16) 0 ≡ 2 ^ 16 - 1
    → packed (set weights (n / 16) (set entry (n % 16) weight)) masks (n + 1) ≡ packed weights masks n ++ live_place weight ∷ []
packed-put_behind weights masks n weight entry there is long mask =
    packed-more weights (set weights (n / 16) (set entry (n % 16) weight)) masks masks n (live_place weight)
    (λ k within. ap (λ a. record { amount = a; live = bit_at (get_or masks (k / 16) 0) (k % 16) == 1 }) (same k within (cases_eq (k / 16) (n / 16))))
    (ap₂ (λ a b. record { amount = a; live = b == 1 })
    (ap (λ (e : List ℕ). get_or e (n % 16) 0) (get_or-set_same weights (n / 16) (set entry (n % 16) weight) [] there) ∙ get_or-set_same entry (n % 16) weight 0 long)
    (ap (λ m. bit_at m (n % 16)) mask ∙ bit_at_ones 16 (n % 16) (omega arith)))
  where
    same : (k : ℕ) → k < n → (k / 16 ≡ n / 16) ⊎ (k / 16 ≡ n / 16 → ⊥)
        → get_or (get_or (set weights (n / 16) (set entry (n % 16) weight)) (k / 16) []) (k % 16) 0 ≡ get_or (get_or weights (k / 16) []) (k % 16) 0
    same k within (inr other) = ap (λ (e : List ℕ). get_or e (k % 16) 0) (get_or-set_other weights (n / 16) (k / 16) (set entry (n % 16) weight) [] other)
    same k within (inl own) =
        let apart : k % 16 ≢ n % 16 = λ e. (let no : ⊥ = omega arith in no) in
        ap (λ i. get_or (get_or (set weights (n / 16) (set entry (n % 16) weight)) i []) (k % 16) 0) own
        ∙ ap (λ (e : List ℕ). get_or e (k % 16) 0) (get_or-set_same weights (n / 16) (set entry (n % 16) weight) [] there)
        ∙ get_or-set_other entry (n % 16) (k % 16) weight 0 apart
        ∙ sym (ap (λ i. get_or (get_or weights i []) (k % 16) 0) own ∙ ap (λ (e : List ℕ). get_or e (k % 16) 0) is)

-- the first slots, and one more
pub live_bits-none : (mask : ℕ) → live_bits mask 0 ≡ 0
unfolding live_bits
live_bits-none mask = refl

pub live_bits-more : (mask slot : ℕ) → live_bits mask (slot + 1) ≡ live_bits mask slot + bit_at mask slot
unfolding live_bits
live_bits-more mask slot = ap (live_bits mask) (let next : slot + 1 ≡ suc slot = omega arith in next)

pub live_weights-none : (weights : List ℕ) (mask : ℕ) → live_weights weights mask 0 ≡ 0
unfolding live_weights
live_weights-none weights mask = refl

pub live_weights-more : (weights : List ℕ) (mask slot : ℕ) → live_weights weights mask (slot + 1) ≡ live_weights weights mask slot + get_or weights slot 0 * bit_at mask slot
unfolding live_weights
live_weights-more weights mask slot = ap (live_weights weights mask) (let next : slot + 1 ≡ suc slot = omega arith in next)

-- a bit of a weight is no more than the weight
pub weight-le : (a b : ℕ) → b < 2 → a * b ≤ a
weight-le a b small = elim (cases_lt b 1) [
  | inl none ↦ let is : b ≡ 0 = omega arith in omega (arith, ap (λ c. a * c) is)
  | inr one ↦ let is : b ≡ 1 = omega arith in omega (arith, ap (λ c. a * c) is)
]

-- more slots have no fewer live ones
pub live_bits-rise : (mask r more : ℕ) → live_bits mask r ≤ live_bits mask (r + more)
live_bits-rise mask r zero = omega (arith, ap (live_bits mask) (let same : r + 0 ≡ r = omega arith in same))
live_bits-rise mask r (suc more) =
    omega (arith, live_bits-rise mask r more, live_bits-more mask (r + more), ap (live_bits mask) (let next : r + suc more ≡ r + more + 1 = omega arith in next))

-- a live bit counts for one
bit_counts : (b : ℕ) → b < 2 → cond (b == 1) 1 0 ≡ b
bit_counts b small = grind (arith, nat_tests)

bit_weighs : (a b : ℕ) → b < 2 → cond (b == 1) a 0 ≡ a * b
bit_weighs a b small = elim (cases_lt b 1) [
  | inl none ↦
      let is : b ≡ 0 = omega arith in
      ap (λ c. cond (c == 1) a 0) is ∙ sym (let zero_times : a * b ≡ 0 = omega (arith, ap (λ c. a * c) is) in zero_times)
  | inr one ↦
      let is : b ≡ 1 = omega arith in
      ap (λ c. cond (c == 1) a 0) is ∙ sym (let one_times : a * b ≡ a = omega (arith, ap (λ c. a * c) is) in one_times)
]

module _ (weights : List (List ℕ)) (masks : List ℕ) (n : ℕ) where
  slot_at : (f : Place → ℕ) (e r : ℕ) → r < 16 → 16 * e + r < n
      → sum_by f (take (16 * e + suc r) (packed weights masks n)) ≡ sum_by f (take (16 * e + r) (packed weights masks n))
      + f (record { amount = get_or (get_or weights e []) r 0; live = bit_at (get_or masks e 0) r == 1 })
  slot_at f e r small within =
      let next : 16 * e + suc r ≡ 16 * e + r + 1 = omega arith in
      let entry : (16 * e + r) / 16 ≡ e = omega arith in
      let slot : (16 * e + r) % 16 ≡ r = omega arith in
      ap (λ i. sum_by f (take i (packed weights masks n))) next
      ∙ sum_by_more f (packed weights masks n) (16 * e + r) no_place (omega (arith, length-packed weights masks n))
      ∙ ap (λ p. sum_by f (take (16 * e + r) (packed weights masks n)) + f p)
      (get_or-packed weights masks n (16 * e + r) no_place within
      ∙ ap₂ (λ i j. record { amount = get_or (get_or weights i []) j 0; live = bit_at (get_or masks i 0) j == 1 }) entry slot)

  none_at : (f : Place → ℕ) (e : ℕ) → sum_by f (take (16 * e + 0) (packed weights masks n)) ≡ sum_by f (take (16 * e) (packed weights masks n))
  none_at f e = ap (λ i. sum_by f (take i (packed weights masks n))) (let same : 16 * e + 0 ≡ 16 * e = omega arith in same)

  -- the places of the first slots of an entry
  pub count_by-slots : (e r : ℕ) → r ≤ 16 → 16 * e + r ≤ n
      → count_by is_live (take (16 * e + r) (packed weights masks n)) ≡ count_by is_live (take (16 * e) (packed weights masks n)) + live_bits (get_or masks e 0) r
  unfolding live_bits
  count_by-slots e zero small within = omega (arith, none_at (λ p. cond (is_live p) 1 0) e)
  count_by-slots e (suc r) small within =
      omega (
        arith,
        slot_at (λ p. cond (is_live p) 1 0) e r (omega arith) (omega arith),
        count_by-slots e r (omega arith) (omega arith),
        bit_counts (bit_at (get_or masks e 0) r) (bit_at-lt (get_or masks e 0) r),
      )

  pub sum_by-slots : (e r : ℕ) → r ≤ 16 → 16 * e + r ≤ n
      → sum_by live_amount (take (16 * e + r) (packed weights masks n)) ≡ sum_by live_amount (take (16 * e) (packed weights masks n)) + live_weights (get_or weights e []) (get_or masks e 0) r
  unfolding live_weights
  sum_by-slots e zero small within = omega (arith, none_at live_amount e)
  sum_by-slots e (suc r) small within =
      omega (
        arith,
        slot_at live_amount e r (omega arith) (omega arith),
        sum_by-slots e r (omega arith) (omega arith),
        bit_weighs (get_or (get_or weights e []) r 0) (bit_at (get_or masks e 0) r) (bit_at-lt (get_or masks e 0) r),
      )

  -- an entry has no more live places than live slots
  pub count_by-entry-le : (e : ℕ) → 16 * e ≤ n
      → count_by is_live (take (16 * (e + 1)) (packed weights masks n)) ≤ count_by is_live (take (16 * e) (packed weights masks n)) + live_bits (get_or masks e 0) 16
  count_by-entry-le e within = elim (cases_lt n (16 * (e + 1))) [
    | inl cut ↦
        let rest = n - 16 * e in
        let is : 16 * e + rest ≡ n = omega arith in
        let whole : take (16 * (e + 1)) (packed weights masks n) ≡ take (16 * e + rest) (packed weights masks n) =
        take_all (16 * (e + 1)) (packed weights masks n) (omega (arith, length-packed weights masks n))
        ∙ sym (take_all (16 * e + rest) (packed weights masks n) (omega (arith, length-packed weights masks n))) in
        let up : rest + (16 - rest) ≡ 16 = omega arith in
        omega (
          arith,
          ap (count_by is_live) whole,
          count_by-slots e rest (omega arith) (omega arith),
          live_bits-rise (get_or masks e 0) rest (16 - rest),
          ap (live_bits (get_or masks e 0)) up,
        )
    | inr full ↦
        let next : 16 * (e + 1) ≡ 16 * e + 16 = omega arith in
        omega (arith, ap (λ i. count_by is_live (take i (packed weights masks n))) next, count_by-slots e 16 (omega arith) (omega arith))
  ]

  -- the live slot with so many before it is a place, where more places are live
  pub slot_within : (e slot : ℕ) → 16 * e ≤ n → slot < 16
      → count_by is_live (take (16 * e) (packed weights masks n)) + live_bits (get_or masks e 0) slot < count_by is_live (packed weights masks n) → 16 * e + slot < n
  slot_within e slot within small more = elim (cases_lt (16 * e + slot) n) [
    | inl inside ↦ inside
    | inr past ↦
        let rest = n - 16 * e in
        let is : 16 * e + rest ≡ n = omega arith in
        let up : rest + (slot - rest) ≡ slot = omega arith in
        let whole : take (16 * e + rest) (packed weights masks n) ≡ packed weights masks n = take_all (16 * e + rest) (packed weights masks n) (omega (arith, length-packed weights masks n)) in
        let no : ⊥ = omega (
          arith,
          ap (count_by is_live) whole,
          count_by-slots e rest (omega arith) (omega arith),
          live_bits-rise (get_or masks e 0) rest (slot - rest),
          ap (live_bits (get_or masks e 0)) up,
        ) in absurd no
  ]

  -- and it is live
  pub slot_live : (e slot : ℕ) → slot < 16 → 16 * e + slot < n → bit_at (get_or masks e 0) slot ≡ 1 → is_live (get_or (packed weights masks n) (16 * e + slot) no_place) ≡ true
  slot_live e slot small within bit =
      let entry : (16 * e + slot) / 16 ≡ e = omega arith in
      let at : (16 * e + slot) % 16 ≡ slot = omega arith in
      ap is_live (get_or-packed weights masks n (16 * e + slot) no_place within)
      ∙ ap₂ (λ i j. bit_at (get_or masks i 0) j == 1) entry at ∙ ap (λ b. b == 1) bit

-- a bit that is taken out of a mask takes its place out
pub packed-cleared : (weights : List (List ℕ)) (masks : List ℕ) (n k mask : ℕ) → k < n → k / 16 < length masks → bit_at mask (k % 16) ≡ 0
    → ((j : ℕ) → j < 16 → j ≢ k % 16 → bit_at mask j ≡ bit_at (get_or masks (k / 16) 0) j)
    → packed weights (set masks (k / 16) mask) n ≡ cleared (packed weights masks n) k
packed-cleared weights masks n k mask within there dead others =
    let old = packed weights masks n in
    let new = packed weights (set masks (k / 16) mask) n in
    let gone : Place = record (get_or old k no_place) { live = false } in
    same_lists new (cleared old k)
    (length-packed weights (set masks (k / 16) mask) n ∙ sym (length-set old k gone ∙ length-packed weights masks n))
    (λ i d below. at i d (let small : i < n = omega (arith, length-packed weights (set masks (k / 16) mask) n) in small) (cases_eq i k))
  where
    bit_of : (i : ℕ) → bit_at (get_or (set masks (k / 16) mask) (i / 16) 0) (i % 16) ≡ bit_at (get_or masks (i / 16) 0) (i % 16)
        → place_in weights (set masks (k / 16) mask) i ≡ place_in weights masks i
    bit_of i same = ap (λ b. record { amount = get_or (get_or weights (i / 16) []) (i % 16) 0; live = b == 1 }) same

    other_bit : (i : ℕ) → i ≢ k → (i / 16 ≡ k / 16) ⊎ (i / 16 ≡ k / 16 → ⊥)
        → bit_at (get_or (set masks (k / 16) mask) (i / 16) 0) (i % 16) ≡ bit_at (get_or masks (i / 16) 0) (i % 16)
    other_bit i apart (inl same) =
        let slot : i % 16 ≢ k % 16 = λ e. apart (omega arith) in
        ap (λ j. bit_at (get_or (set masks (k / 16) mask) j 0) (i % 16)) same
        ∙ ap (λ m. bit_at m (i % 16)) (get_or-set_same masks (k / 16) mask 0 there)
        ∙ others (i % 16) (omega arith) slot ∙ ap (λ j. bit_at (get_or masks j 0) (i % 16)) (sym same)
    other_bit i apart (inr away) = ap (λ m. bit_at m (i % 16)) (get_or-set_other masks (k / 16) (i / 16) mask 0 away)

    at : (i : ℕ) (d : Place) → i < n → (i ≡ k) ⊎ (i ≡ k → ⊥)
        → get_or (packed weights (set masks (k / 16) mask) n) i d ≡ get_or (cleared (packed weights masks n) k) i d
    at i d below (inr apart) =
        get_or-packed weights (set masks (k / 16) mask) n i d below ∙ bit_of i (other_bit i apart (cases_eq (i / 16) (k / 16)))
        ∙ sym (get_or-set_other (packed weights masks n) k i (record (get_or (packed weights masks n) k no_place) { live = false }) d apart
        ∙ get_or-packed weights masks n i d below)
    at i d below (inl same) =
        let bit : bit_at (get_or (set masks (k / 16) mask) (k / 16) 0) (k % 16) ≡ 0 = ap (λ m. bit_at m (k % 16)) (get_or-set_same masks (k / 16) mask 0 there) ∙ dead in
        let new : place_in weights (set masks (k / 16) mask) k ≡ record (place_in weights masks k) { live = false } =
        ap (λ b. record { amount = get_or (get_or weights (k / 16) []) (k % 16) 0; live = b == 1 }) bit in
        let old : record (get_or (packed weights masks n) k no_place) { live = false } ≡ record (place_in weights masks k) { live = false } =
        ap (λ (p : Place). record p { live = false }) (get_or-packed weights masks n k no_place within) in
        let inside : k < length (packed weights masks n) = omega (arith, length-packed weights masks n) in
        get_or-packed weights (set masks (k / 16) mask) n i d below ∙ ap (place_in weights (set masks (k / 16) mask)) same ∙ new ∙ sym old
        ∙ sym (ap (λ j. get_or (cleared (packed weights masks n) k) j d) same
        ∙ get_or-set_same (packed weights masks n) k (record (get_or (packed weights masks n) k no_place) { live = false }) d inside)

-- the bits of a mask below a slot
pub ones-below : (mask slots : ℕ) → ones (mask % 2 ^ slots) ≡ live_bits mask slots
unfolding live_bits
ones-below mask zero = omega (arith, ap ones (let none : mask % 2 ^ 0 ≡ 0 = omega arith in none), ones-le 0 0 (omega arith))
ones-below mask (suc slots) =
    let split : mask % 2 ^ (1 + slots) ≡ (mask / 2 ^ slots % 2 ^ 1) * 2 ^ slots + mask % 2 ^ slots = mod-pow-add mask 1 slots in
    let next : suc slots ≡ 1 + slots = omega arith in
    ap (λ s. ones (mask % 2 ^ s)) next ∙ ap ones split ∙ ones_cat slots (mask / 2 ^ slots % 2 ^ 1) (mask % 2 ^ slots) (mod_below mask (2 ^ slots) (pow_pos slots))
    ∙ ap₂ (λ a b. a + b) (one_bit (mask / 2 ^ slots % 2) (omega arith)) (ones-below mask slots)
    ∙ add_comm (bit_at mask slots) (live_bits mask slots)
  where
    one_bit : (b : ℕ) → b < 2 → ones b ≡ b
    one_bit b small = elim (cases_lt b 1) [
      | inl none ↦ let is : b ≡ 0 = omega arith in omega (arith, ap ones is, ones-le 0 0 (omega arith))
      | inr one ↦ elim (cases_eq (ones b) 0) [
        | inl zero_ones ↦ let is : b ≡ 0 = zero_from_ones b zero_ones in let no : ⊥ = omega arith in absurd no
        | inr some ↦ omega (arith, some, ones-le 1 b (omega arith))
      ]
    ]
