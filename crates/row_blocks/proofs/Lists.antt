-- Lists by index, and in slices.
use Rattle.std.proofs.Common.{◌≡◌, ◌≢◌, ℕ, ◌+◌, ◌-◌, ◌<◌, ◌≤◌, Bool, true, false, cond, List, [], ◌∷◌, ◌++◌, length, take, drop, map, get_or, set, slice_range, refl, sym, ◌∙◌, ap, arith, subst, Some, slice_get, All, ⊎_elim, ◌⊎◌, inl, inr, get_or-set_same, get_or-set_other, take-append-drop, length-take, length-drop}
use Rattle.std.specs.List.{filter}
use Rattle.std.proofs.lemmas.Bool.{cases_lt, cases_Bool, cond-true, cond-false, both_ways}
use Rattle.std.proofs.lemmas.Option.{slice_get_within, slice_get-get_or, slice_get_past, get_or_from_slice_get}
use Rattle.std.proofs.lemmas.List.{length-set, take-take, take-map, drop-map, get_or-take, get_or-drop}
use Rattle.std.proofs.lemmas.List.Elements.{All-head, All-tail}
use Rattle.std.proofs.lemmas.List.Sums.{length-filter, sum_by-take-le}
use Rattle.std.proofs.lemmas.Slice.{between_is}

module _ {A : Type 0} where
  -- what is written is read
  pub slice_get-set_same : (xs : List A) (k : ℕ) (x : A) → k < length xs → slice_get (set xs k x) k ≡ Some x
  slice_get-set_same xs k x within =
      slice_get-get_or (set xs k x) k x (omega (arith, length-set xs k x)) ∙ ap Some (get_or-set_same xs k x x within)

  -- and all else stays
  pub slice_get-set_other : (xs : List A) (j k : ℕ) (x : A) → k ≢ j → slice_get (set xs j x) k ≡ slice_get xs k
  slice_get-set_other xs j k x other =
      ⊎_elim
      (λ within.
      slice_get-get_or (set xs j x) k x (omega (arith, length-set xs j x)) ∙ ap Some (get_or-set_other xs j k x x other)
      ∙ sym (slice_get-get_or xs k x within))
      (λ past. slice_get_past (set xs j x) k (omega (arith, length-set xs j x)) ∙ sym (slice_get_past xs k past))
      (cases_lt k (length xs))

  -- what holds of each item at an index holds of all
  pub All-slots : {P : A → Type 0} (xs : List A) → ((k : ℕ) (x : A) → slice_get xs k ≡ Some x → P x) → All P xs
  All-slots xs each k d within = each k (get_or xs k d) (slice_get-get_or xs k d within)

  pub at_slot : (P : A → Type 0) (xs : List A) (k : ℕ) (x : A) → All P xs → slice_get xs k ≡ Some x → P x
  at_slot P xs k x all at = subst P (get_or_from_slice_get xs k x x at) (all k x (slice_get_within xs k x at))

  -- what is read within a list stands there
  pub slice_get-from_read : (xs : List A) (i : ℕ) (x : A) → i < length xs → x ≡ get_or xs i x → slice_get xs i ≡ Some x
  slice_get-from_read xs i x below read = slice_get-get_or xs i x below ∙ ap Some (sym read)

  -- a front is a shorter front, and what stands behind it
  pub take-split : (xs : List A) (i j : ℕ) → i ≤ j → take j xs ≡ take i xs ++ slice_range xs i j
  take-split xs i j le =
      sym (take-append-drop i (take j xs))
      ∙ ap (λ ys. ys ++ drop i (take j xs)) (take-take i j xs le)
      ∙ ap (λ ys. take i xs ++ ys) (sym (between_is xs i j))

  -- the entries from one index on and below another
  pub length-slice_range : (xs : List A) (from to : ℕ) → from ≤ to → to ≤ length xs → length (slice_range xs from to) ≡ to - from
  length-slice_range xs from to ordered within = omega (arith, length-take (to - from) (drop from xs), length-drop from xs)

  pub get_or-slice_range : (xs : List A) (from to k : ℕ) (d : A) → k < to - from → get_or (slice_range xs from to) k d ≡ get_or xs (from + k) d
  get_or-slice_range xs from to k d inside = get_or-take (to - from) (drop from xs) k d inside ∙ get_or-drop from xs k d

-- a slice of a list that a function makes of another
pub slice_range-map : {X Y : Type 0} (f : X → Y) (xs : List X) (i j : ℕ) → slice_range (map f xs) i j ≡ map f (slice_range xs i j)
slice_range-map f xs i j = ap (take _) (drop-map f i xs) ∙ take-map f _ (drop i xs)

module _ {A : Type 0} (p : A → Bool) where
  -- a test that no item passes keeps nothing
  pub filter_none : (xs : List A) → All (λ x. p x ≡ false) xs → filter p xs ≡ []
  filter_none [] none = refl
  filter_none (x ∷ xs) none =
      cond-false (p x) (x ∷ filter p xs) (filter p xs) (All-head (λ y. p y ≡ false) x xs none)
      ∙ filter_none xs (All-tail (λ y. p y ≡ false) x xs none)

  -- a test that all items pass keeps all
  pub filter_all : (xs : List A) → All (λ x. p x ≡ true) xs → filter p xs ≡ xs
  filter_all [] all = refl
  filter_all (x ∷ xs) all =
      cond-true (p x) (x ∷ filter p xs) (filter p xs) (All-head (λ y. p y ≡ true) x xs all)
      ∙ ap (λ ys. x ∷ ys) (filter_all xs (All-tail (λ y. p y ≡ true) x xs all))

  -- a weaker test before it keeps what it keeps
  pub filter-filter : (q : A → Bool) → ((x : A) → p x ≡ true → q x ≡ true) → (xs : List A) → filter p (filter q xs) ≡ filter p xs
  filter-filter q weaker [] = refl
  filter-filter q weaker (x ∷ xs) = by (cases_Bool (q x)) (cases_Bool (p x)) (filter-filter q weaker xs)
    where
      by : (q x ≡ true) ⊎ (q x ≡ false) → (p x ≡ true) ⊎ (p x ≡ false) → filter p (filter q xs) ≡ filter p xs
          → filter p (cond (q x) (x ∷ filter q xs) (filter q xs)) ≡ cond (p x) (x ∷ filter p xs) (filter p xs)
      by (inl kept) (inl passed) rest =
          ap (filter p) (cond-true (q x) (x ∷ filter q xs) (filter q xs) kept) ∙ cond-true (p x) (x ∷ filter p (filter q xs)) (filter p (filter q xs)) passed
          ∙ ap (λ ys. x ∷ ys) rest ∙ sym (cond-true (p x) (x ∷ filter p xs) (filter p xs) passed)
      by (inl kept) (inr failed) rest =
          ap (filter p) (cond-true (q x) (x ∷ filter q xs) (filter q xs) kept) ∙ cond-false (p x) (x ∷ filter p (filter q xs)) (filter p (filter q xs)) failed
          ∙ rest ∙ sym (cond-false (p x) (x ∷ filter p xs) (filter p xs) failed)
      by (inr dropped) (inl passed) rest = absurd (both_ways (q x) dropped (weaker x passed))
      by (inr dropped) (inr failed) rest =
          ap (filter p) (cond-false (q x) (x ∷ filter q xs) (filter q xs) dropped) ∙ rest ∙ sym (cond-false (p x) (x ∷ filter p xs) (filter p xs) failed)

  -- a front keeps no more than the whole
  pub length-filter-take-le : (xs : List A) (k : ℕ) → length (filter p (take k xs)) ≤ length (filter p xs)
  length-filter-take-le xs k = omega (arith, length-filter p (take k xs), length-filter p xs, sum_by-take-le (λ x. cond (p x) 1 0) xs k)

-- a test of what a function gives
pub filter-map : {X Y : Type 0} (q : Y → Bool) (f : X → Y) (xs : List X) → filter q (map f xs) ≡ map f (filter (λ x. q (f x)) xs)
filter-map q f [] = refl
filter-map q f (x ∷ xs) = by (q (f x)) (filter-map q f xs)
  where
    by : (b : Bool) → filter q (map f xs) ≡ map f (filter (λ y. q (f y)) xs)
        → cond b (f x ∷ filter q (map f xs)) (filter q (map f xs)) ≡ map f (cond b (x ∷ filter (λ y. q (f y)) xs) (filter (λ y. q (f y)) xs))
    by true rest = ap (λ ys. f x ∷ ys) rest
    by false rest = rest
