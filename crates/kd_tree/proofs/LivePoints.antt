-- Live points at positions: cut in two, one by one, and all of a part.
use Rattle.std.proofs.Common.{◌≡◌, ℕ, zero, suc, ◌+◌, ◌-◌, ◌<◌, ◌≤◌, Bool, true, false, cond, List, [], ◌∷◌, ◌++◌, length, get_or, Option, Some, None, slice_get, All, refl, sym, ap, ap₂, ◌∙◌, arith, subst, add-one, append-nil, ⊎_elim, ◌⊎◌}
use Rattle.std.specs.List.{flat_map, range_with_len, items_where_true}
use Rattle.std.specs.Option.{option_to_list}
use Rattle.std.proofs.lemmas.List.Concat.{flat_map-append}
use Rattle.std.proofs.lemmas.List.Elements.{All-append, All-cons, All-nil, All-head}
use Rattle.std.proofs.lemmas.Option.{get_or_from_slice_get, slice_get_past}
use Rattle.query_laws.specs.Permuted.{Permuted}
use Rattle.query_laws.proofs.Permutations.{Permuted-flat_map}
use Rattle.builder_trait.specs.Parts.{Contents, live_of}
use Rattle.map_shapes.specs.declared.point.Point.{Point}
use Rattle.kd_tree.specs.Walks.{live_at, live_standing, live_in}

-- the numbers from a on, cut in two
range-split : (a m n : ℕ) → range_with_len a (m + n) ≡ range_with_len a m ++ range_with_len (a + m) n
range-split a zero n = ap₂ range_with_len (omega arith) (omega arith)
range-split a (suc m) n =
    let longer : suc m + n ≡ suc (m + n) = omega arith in
    let moved : a + 1 + m ≡ a + suc m = omega arith in
    ap (range_with_len a) longer ∙ ap (λ l. a ∷ l) (range-split (a + 1) m n ∙ ap (λ b. range_with_len (a + 1) m ++ range_with_len b n) moved)

-- a list without items
pub no_items : {A : Type 0} (xs : List A) → All (λ x. ⊥) xs → xs ≡ []
no_items [] none = refl
no_items (x ∷ xs) none = absurd (All-head (λ x. ⊥) x xs none)

-- a flag that reads as set is there
set_flag : (flags : List Bool) (k : ℕ) → get_or flags k false ≡ true → slice_get flags k ≡ Some true
set_flag [] k is = absurd cc
set_flag (b ∷ flags) zero is = ap Some is
set_flag (b ∷ flags) (suc k) is = set_flag flags k is

module _ (part : Contents Point) (order : List ℕ) where
  pub live_in-split : (a b c : ℕ) → a ≤ b → b ≤ c → live_in part order a c ≡ live_in part order a b ++ live_in part order b c
  live_in-split a b c first second =
      let parted : c - a ≡ (b - a) + (c - b) = omega arith in
      let there : a + (b - a) ≡ b = omega arith in
      ap (λ n. flat_map (live_standing part order) (range_with_len a n)) parted
      ∙ ap (flat_map (live_standing part order)) (range-split a (b - a) (c - b))
      ∙ flat_map-append (live_standing part order) (range_with_len a (b - a)) (range_with_len (a + (b - a)) (c - b))
      ∙ ap (λ s. live_in part order a b ++ flat_map (live_standing part order) (range_with_len s (c - b))) there

  pub live_in-none : (a b : ℕ) → b ≤ a → live_in part order a b ≡ []
  live_in-none a b le =
      let none : b - a ≡ 0 = omega arith in
      ap (λ n. flat_map (live_standing part order) (range_with_len a n)) none

  pub live_in-one : (k : ℕ) → live_in part order k (k + 1) ≡ live_standing part order k
  live_in-one k =
      let one : k + 1 - k ≡ 1 = omega arith in
      ap (λ n. flat_map (live_standing part order) (range_with_len k n)) one ∙ append-nil (live_standing part order k)

  -- at one position
  module _ (position place : ℕ) (stands : slice_get order position ≡ Some place) where
    at_place : live_standing part order position ≡ live_at part place
    at_place = ap (λ o. flat_map (live_at part) (option_to_list o)) stands ∙ append-nil (live_at part place)

    pub standing-live : (p : Point) → slice_get part.items place ≡ Some p → slice_get part.flags place ≡ Some true → live_standing part order position ≡ p ∷ []
    standing-live p item flag =
        at_place ∙ ap₂ (λ b o. cond b (option_to_list o) []) (get_or_from_slice_get part.flags place true false flag) item

    pub standing-dead : slice_get part.flags place ≡ Some false → live_standing part order position ≡ []
    standing-dead flag = at_place ∙ ap (λ b. cond b (option_to_list (slice_get part.items place)) []) (get_or_from_slice_get part.flags place false false flag)

  beyond : (a n : ℕ) → length order ≤ a → flat_map (live_standing part order) (range_with_len a n) ≡ []
  beyond a zero past = refl
  beyond a (suc n) past =
      ap₂ (λ l m. l ++ m) (ap (λ o. flat_map (live_at part) (option_to_list o)) (slice_get_past order a past)) (beyond (a + 1) n (omega arith))

  -- beyond the last one there is none
  pub live_in-beyond : (a b : ℕ) → length order ≤ a → live_in part order a b ≡ []
  live_in-beyond a b past = beyond a (b - a) past

  -- up to an index that is the end or beyond all positions
  pub live_in-ended : (a b c : ℕ) → a ≤ b → b ≤ c → (b ≡ c) ⊎ (length order ≤ b) → live_in part order a b ≡ live_in part order a c
  live_in-ended a b c first second ended =
      ⊎_elim (λ same. ap (live_in part order a) same)
      (λ past.
      sym (live_in-split a b c first second ∙ ap (λ l. live_in part order a b ++ l) (live_in-beyond b c past) ∙ append-nil (live_in part order a b)))
      ended

  -- what holds of each live point
  module _ (P : Point → Type 0) (from to : ℕ)
      (each : (position place : ℕ) (p : Point) → from ≤ position → position < to → slice_get order position ≡ Some place
      → slice_get part.items place ≡ Some p → slice_get part.flags place ≡ Some true → P p) where
    flag_set : (place : ℕ) → get_or part.flags place false ≡ true → slice_get part.flags place ≡ Some true
    flag_set place is = set_flag part.flags place is

    of_item : (position place : ℕ) → from ≤ position → position < to → slice_get order position ≡ Some place → (b : Bool) → get_or part.flags place false ≡ b
        → (o : Option Point) → slice_get part.items place ≡ o → All P (cond b (option_to_list o) [])
    of_item position place low high stands false is o item = All-nil P
    of_item position place low high stands true is None item = All-nil P
    of_item position place low high stands true is (Some p) item = All-cons P p [] (each position place p low high stands item (flag_set place is)) (All-nil P)

    of_position : (position : ℕ) → from ≤ position → position < to → (o : Option ℕ) → slice_get order position ≡ o → All P (flat_map (live_at part) (option_to_list o))
    of_position position low high None stands = All-nil P
    of_position position low high (Some place) stands =
        All-append P (live_at part place) [] (of_item position place low high stands (get_or part.flags place false) refl (slice_get part.items place) refl) (All-nil P)

    of_positions : (a n : ℕ) → from ≤ a → a + n ≤ to → All P (flat_map (live_standing part order) (range_with_len a n))
    of_positions a zero low high = All-nil P
    of_positions a (suc n) low high =
        All-append P (live_standing part order a) (flat_map (live_standing part order) (range_with_len (a + 1) n))
        (of_position a low (omega arith) (slice_get order a) refl) (of_positions (a + 1) n (omega arith) (omega arith))

    pub All-live : from ≤ to → All P (live_in part order from to)
    All-live le = of_positions from (to - from) (omega arith) (omega arith)

-- places read one further on
flat_map-shifted : {B : Type 0} (f : ℕ → List B) (a n : ℕ) → flat_map f (range_with_len (a + 1) n) ≡ flat_map (λ k. f (suc k)) (range_with_len a n)
flat_map-shifted f a zero = refl
flat_map-shifted f a (suc n) = ap₂ (λ k l. f k ++ l) (add-one a) (flat_map-shifted f (a + 1) n)

module _ {A : Type 0} where
  -- what stands at a place, if its flag stands
  abbrev kept_at : List Bool → List A → ℕ → List A
  kept_at flags xs place = cond (get_or flags place false) (option_to_list (slice_get xs place)) []

  -- all kept items, place by place
  all_kept : (flags : List Bool) (xs : List A) → length flags ≡ length xs
      → flat_map (kept_at flags xs) (range_with_len 0 (length xs)) ≡ items_where_true flags xs
  all_kept [] [] e = refl
  all_kept [] (x ∷ xs) e = absurd (omega arith)
  all_kept (b ∷ flags) [] e = refl
  all_kept (true ∷ flags) (x ∷ xs) e =
      ap (λ l. x ∷ l) (flat_map-shifted (kept_at (true ∷ flags) (x ∷ xs)) 0 (length xs) ∙ all_kept flags xs (omega arith))
  all_kept (false ∷ flags) (x ∷ xs) e =
      flat_map-shifted (kept_at (false ∷ flags) (x ∷ xs)) 0 (length xs) ∙ all_kept flags xs (omega arith)

  -- all entries of a list, one by one
  all_standing : {B : Type 0} (f : A → List B) (xs : List A)
      → flat_map (λ k. flat_map f (option_to_list (slice_get xs k))) (range_with_len 0 (length xs)) ≡ flat_map f xs
  all_standing f [] = refl
  all_standing f (x ∷ xs) =
      ap₂ (λ l m. l ++ m) (append-nil (f x)) (flat_map-shifted (λ k. flat_map f (option_to_list (slice_get (x ∷ xs) k))) 0 (length xs) ∙ all_standing f xs)

-- all live points of a part, in the order of the positions
pub live_in-all : (part : Contents Point) (order : List ℕ) (to : ℕ) → Permuted order (range_with_len 0 (length order)) → length order ≡ length part.items
    → length part.flags ≡ length part.items → length order ≤ to → Permuted (live_in part order 0 to) (live_of part)
live_in-all part order to each long flagged enough =
    let n = length order in
    let front : live_in part order 0 n ≡ flat_map (live_at part) order =
    ap (λ m. flat_map (live_standing part order) (range_with_len 0 m)) (let e : n - 0 ≡ n = omega arith in e) ∙ all_standing (live_at part) order in
    let whole : live_in part order 0 to ≡ flat_map (live_at part) order =
    live_in-split part order 0 n to (omega arith) enough ∙ ap (λ l. live_in part order 0 n ++ l) (live_in-beyond part order n to (omega arith))
    ∙ append-nil (live_in part order 0 n) ∙ front in
    let places : flat_map (live_at part) (range_with_len 0 n) ≡ live_of part =
    ap (λ m. flat_map (live_at part) (range_with_len 0 m)) long ∙ all_kept part.flags part.items flagged in
    subst (λ l. Permuted l (live_of part)) (sym whole)
    (subst (λ l. Permuted (flat_map (live_at part) order) l) places (Permuted-flat_map (live_at part) each))
