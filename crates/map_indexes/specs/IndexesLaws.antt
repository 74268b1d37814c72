-- The rates of a layer's indexes say which are there, and how many items each waits for stands beside its rate.
use Rattle.std.proofs.Common.{◌≡◌, ◌∙◌, ℕ, ◌+◌, ◌≤◌, Bool, true, false, List, [], ◌∷◌, ◌++◌, Option, None, Some, if◌then◌else◌, nat_le, length, refl, sym, ap, arith}
use Rattle.std.specs.Option.{is_some, option_map}
use Rattle.layer_kinds.specs.Indexing.{Placed, Absent, Whole, Late, is_there, wait_in, rates_of, waits_of}
use Rattle.layer_kinds.specs.Shares.{Rates, Waits, all_after, ready_count, share}
use Rattle.map_model.specs.Cost.{Rate, rate_of}
use Rattle.map_model.specs.Index.{IndexSet, no_indexes, one_if, sum_over}
use Rattle.map_model.specs.State as state
use Rattle.map_model.specs.State.{handed, no_waits, wait_of}
use Rattle.map_layers.specs.Layer.{set_of, each_after}
use Rattle.map_indexes.specs.Held.{parts_held, points_held, segments_held}

-- ---- one place

-- a value where an index is there
abbrev where_there : {A : Type 0} → A → Bool → Option A
where_there a b = if b then Some a else None

pub there-held : {P I : Type 0} (p : Placed P I) → is_some (parts_held p) ≡ is_there p
there-held Absent = refl
there-held (Whole i) = refl
there-held (Late l) = refl

one_rate : {P I : Type 0} (r : Rate) (p : Placed P I) → rates_of r p ≡ where_there r (is_there p) ∷ []
one_rate r Absent = refl
one_rate r (Whole i) = refl
one_rate r (Late l) = refl

one_wait : {P I : Type 0} (p : Placed P I) → waits_of p ≡ where_there (wait_in p) (is_there p) ∷ []
one_wait Absent = refl
one_wait (Whole i) = refl
one_wait (Late l) = refl

-- how many items are waited for; none where no index is there
abbrev wait_or_none : Option ℕ → ℕ
wait_or_none None = 0
wait_or_none (Some n) = n

one_named : {P I : Type 0} (p : Placed P I) → wait_in p ≡ wait_or_none (where_there (wait_in p) (is_there p))
one_named Absent = refl
one_named (Whole i) = refl
one_named (Late l) = refl

one_after : (f : ℕ → ℕ) → f 0 ≡ 0 → (w : Option ℕ) → wait_or_none (option_map f w) ≡ f (wait_or_none w)
one_after f zero None = sym zero
one_after f zero (Some n) = refl

-- ---- points

abbrev points_by : Rates → IndexSet
points_by (a ∷ b ∷ c ∷ rest) = record no_indexes { range = is_some a; near = is_some b; top = is_some c }
points_by rates = no_indexes

abbrev waits_by : Waits → state.Waits
waits_by (a ∷ b ∷ c ∷ rest) = record { range = wait_or_none a; near = wait_or_none b; top = wait_or_none c }
waits_by waits = no_waits

some_where : {A : Type 0} (a : A) (b : Bool) → is_some (where_there a b) ≡ b
some_where a true = refl
some_where a false = refl

three_sums : (f : Rate → ℕ) (r s t : Rate) (a b c : Bool) → share f (where_there r a ∷ where_there s b ∷ where_there t c ∷ [])
    ≡ (if a then f r else 0) + (if b then f s else 0) + (if c then f t else 0) + 0 + 0
three_sums f r s t true true true = omega arith
three_sums f r s t true true false = omega arith
three_sums f r s t true false true = omega arith
three_sums f r s t true false false = omega arith
three_sums f r s t false true true = omega arith
three_sums f r s t false true false = omega arith
three_sums f r s t false false true = omega arith
three_sums f r s t false false false = omega arith

three_ready : (l m n : ℕ) (a b c : Bool) → ready_count (where_there l a ∷ where_there m b ∷ where_there n c ∷ [])
    ≡ (if a then one_if (nat_le l handed) else 0) + (if b then one_if (nat_le m handed) else 0) + (if c then one_if (nat_le n handed) else 0) + 0 + 0
three_ready l m n true true true = omega arith
three_ready l m n true true false = omega arith
three_ready l m n true false true = omega arith
three_ready l m n true false false = omega arith
three_ready l m n false true true = omega arith
three_ready l m n false true false = omega arith
three_ready l m n false false true = omega arith
three_ready l m n false false false = omega arith

module _ {P Q R I J K : Type 0} where
  abbrev three : Rate → Rate → Rate → Placed P I → Placed Q J → Placed R K → Rates
  three r s t a b c = rates_of r a ++ (rates_of s b ++ rates_of t c)

  abbrev three_waits : Placed P I → Placed Q J → Placed R K → Waits
  three_waits a b c = waits_of a ++ (waits_of b ++ waits_of c)

  three-is : (r s t : Rate) (a : Placed P I) (b : Placed Q J) (c : Placed R K)
      → three r s t a b c ≡ where_there r (is_there a) ∷ where_there s (is_there b) ∷ where_there t (is_there c) ∷ []
  three-is r s t a b c = λ i. one_rate r a i ++ (one_rate s b i ++ one_rate t c i)

  waits-is : (a : Placed P I) (b : Placed Q J) (c : Placed R K)
      → three_waits a b c ≡ where_there (wait_in a) (is_there a) ∷ where_there (wait_in b) (is_there b) ∷ where_there (wait_in c) (is_there c) ∷ []
  waits-is a b c = λ i. one_wait a i ++ (one_wait b i ++ one_wait c i)

  pub set-is : (a : Placed P I) (b : Placed Q J) (c : Placed R K)
      → set_of (points_held a b c) ≡ record no_indexes { range = is_there a; near = is_there b; top = is_there c }
  set-is a b c = λ i. record no_indexes { range = there-held a i; near = there-held b i; top = there-held c i }

  points-by : (r s t : Rate) (a : Placed P I) (b : Placed Q J) (c : Placed R K) → set_of (points_held a b c) ≡ points_by (three r s t a b c)
  points-by r s t a b c =
      set-is a b c
      ∙ (λ i. record no_indexes { range = sym (some_where r (is_there a)) i; near = sym (some_where s (is_there b)) i; top = sym (some_where t (is_there c)) i })
      ∙ ap points_by (sym (three-is r s t a b c))

  pub points-by_rates : (r s t : Rate) (a a' : Placed P I) (b b' : Placed Q J) (c c' : Placed R K) → three r s t a b c ≡ three r s t a' b' c'
      → set_of (points_held a b c) ≡ set_of (points_held a' b' c')
  points-by_rates r s t a a' b b' c c' same = points-by r s t a b c ∙ ap points_by same ∙ sym (points-by r s t a' b' c')

  pub points-sums : (f : Rate → ℕ) (r s t : Rate) (a : Placed P I) (b : Placed Q J) (c : Placed R K) → share f (three r s t a b c)
      ≡ (if is_some (parts_held a) then f r else 0) + (if is_some (parts_held b) then f s else 0) + (if is_some (parts_held c) then f t else 0) + 0 + 0
  points-sums f r s t a b c =
      ap (share f) (three-is r s t a b c) ∙ three_sums f r s t (is_there a) (is_there b) (is_there c)
      ∙ (λ i. (if sym (there-held a) i then f r else 0) + (if sym (there-held b) i then f s else 0) + (if sym (there-held c) i then f t else 0) + 0 + 0)

  pub points-ready : (a : Placed P I) (b : Placed Q J) (c : Placed R K) → ready_count (three_waits a b c)
      ≡ sum_over (set_of (points_held a b c)) (λ index. one_if (nat_le (wait_of (points_held a b c).waits index) handed))
  points-ready a b c =
      ap ready_count (waits-is a b c) ∙ three_ready (wait_in a) (wait_in b) (wait_in c) (is_there a) (is_there b) (is_there c)
      ∙ (λ i. (if sym (there-held a) i then one_if (nat_le (wait_in a) handed) else 0) + (if sym (there-held b) i then one_if (nat_le (wait_in b) handed) else 0)
      + (if sym (there-held c) i then one_if (nat_le (wait_in c) handed) else 0) + 0 + 0)

  points-named : (a : Placed P I) (b : Placed Q J) (c : Placed R K) → (points_held a b c).waits ≡ waits_by (three_waits a b c)
  points-named a b c =
      (λ i. record { range = one_named a i; near = one_named b i; top = one_named c i }) ∙ ap waits_by (sym (waits-is a b c))

  named-after : (f : ℕ → ℕ) → f 0 ≡ 0 → (a : Placed P I) (b : Placed Q J) (c : Placed R K)
      → waits_by (all_after f (three_waits a b c)) ≡ each_after f (waits_by (three_waits a b c))
  named-after f zero a b c =
      ap (λ ws. waits_by (all_after f ws)) (waits-is a b c)
      ∙ (λ i. record {
        range = one_after f zero (where_there (wait_in a) (is_there a)) i;
        near = one_after f zero (where_there (wait_in b) (is_there b)) i;
        top = one_after f zero (where_there (wait_in c) (is_there c)) i;
      })
      ∙ ap (λ ws. each_after f (waits_by ws)) (sym (waits-is a b c))

  pub points-by_waits : (a a' : Placed P I) (b b' : Placed Q J) (c c' : Placed R K) (f : ℕ → ℕ) → f 0 ≡ 0
      → three_waits a' b' c' ≡ all_after f (three_waits a b c) → (points_held a' b' c').waits ≡ each_after f (points_held a b c).waits
  points-by_waits a a' b b' c c' f zero same =
      points-named a' b' c' ∙ ap waits_by same ∙ named-after f zero a b c ∙ ap (each_after f) (sym (points-named a b c))

  three-long : (r s t : Rate) (a : Placed P I) (b : Placed Q J) (c : Placed R K) → length (three r s t a b c) ≡ 3
  three-long r s t a b c = ap length (three-is r s t a b c)

  pub points-few : (r s t : Rate) (a : Placed P I) (b : Placed Q J) (c : Placed R K) → length (three r s t a b c) ≤ 4
  points-few r s t a b c = omega (arith, three-long r s t a b c)

  pub points-as_many : (r s t : Rate) (a a' : Placed P I) (b b' : Placed Q J) (c c' : Placed R K) → length (three r s t a b c) ≡ length (three r s t a' b' c')
  points-as_many r s t a a' b b' c c' = three-long r s t a b c ∙ sym (three-long r s t a' b' c')

-- ---- segments

abbrev segments_by : Rates → IndexSet
segments_by (a ∷ rest) = record no_indexes { stab = is_some a }
segments_by rates = no_indexes

one_sum : (f : Rate → ℕ) (r : Rate) (a : Bool) → share f (where_there r a ∷ []) ≡ 0 + 0 + 0 + (if a then f r else 0) + 0
one_sum f r true = omega arith
one_sum f r false = omega arith

one_ready : (a : Bool) → ready_count (where_there 0 a ∷ []) ≡ 0 + 0 + 0 + (if a then 1 else 0) + 0
one_ready true = refl
one_ready false = refl

pub segments-by_waits : (f : ℕ → ℕ) → f 0 ≡ 0 → no_waits ≡ each_after f no_waits
segments-by_waits f zero = λ i. record { range = sym zero i; near = sym zero i; top = sym zero i }

abbrev first_wait : Waits → ℕ
first_wait [] = 0
first_wait (w ∷ waits) = wait_or_none w

module _ {P I : Type 0} where
  segments-by : (r : Rate) (a : Placed P I) → set_of (segments_held a) ≡ segments_by (rates_of r a)
  segments-by r Absent = refl
  segments-by r (Whole i) = refl
  segments-by r (Late l) = refl

  pub segments-by_rates : (r : Rate) (a a' : Placed P I) → rates_of r a ≡ rates_of r a' → set_of (segments_held a) ≡ set_of (segments_held a')
  segments-by_rates r a a' same = segments-by r a ∙ ap segments_by same ∙ sym (segments-by r a')

  pub segments-sums : (f : Rate → ℕ) (r : Rate) (a : Placed P I) → share f (rates_of r a) ≡ 0 + 0 + 0 + (if is_some (parts_held a) then f r else 0) + 0
  segments-sums f r a =
      ap (share f) (one_rate r a) ∙ one_sum f r (is_there a) ∙ (λ i. 0 + 0 + 0 + (if sym (there-held a) i then f r else 0) + 0)

  -- it isn't late
  pub segments-ready : (a : Placed P I) → wait_in a ≡ 0 → ready_count (waits_of a) ≡ sum_over (set_of (segments_held a)) (λ index. one_if (nat_le (wait_of no_waits index) handed))
  segments-ready a none =
      ap ready_count (one_wait a) ∙ ap (λ n. ready_count (where_there n (is_there a) ∷ [])) none ∙ one_ready (is_there a)
      ∙ (λ i. 0 + 0 + 0 + (if sym (there-held a) i then 1 else 0) + 0)

  pub segments-few : (r : Rate) (a : Placed P I) → length (rates_of r a) ≤ 4
  segments-few r Absent = omega arith
  segments-few r (Whole i) = omega arith
  segments-few r (Late l) = omega arith

  wait-first : (a : Placed P I) → wait_in a ≡ first_wait (waits_of a)
  wait-first Absent = refl
  wait-first (Whole i) = refl
  wait-first (Late l) = refl

  after-first : (f : ℕ → ℕ) → f 0 ≡ 0 → (a : Placed P I) → wait_in a ≡ 0 → first_wait (all_after f (waits_of a)) ≡ 0
  after-first f zero Absent none = refl
  after-first f zero (Whole i) none = zero
  after-first f zero (Late l) none = ap f none ∙ zero

  -- one that isn't late isn't after an update
  pub never_late : (a a' : Placed P I) → wait_in a ≡ 0 → (f : ℕ → ℕ) → f 0 ≡ 0 → waits_of a' ≡ all_after f (waits_of a) → wait_in a' ≡ 0
  never_late a a' none f zero same = wait-first a' ∙ ap first_wait same ∙ after-first f zero a none

  pub still_ready : (a a' : Placed P I) → wait_in a ≡ 0 → waits_of a' ≡ waits_of a → wait_in a' ≡ 0
  still_ready a a' none same = wait-first a' ∙ ap first_wait same ∙ sym (wait-first a) ∙ none
