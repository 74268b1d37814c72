-- The bounds of a layer are those of its indexes.
use Rattle.std.proofs.Common.{◌≡◌, ℕ, zero, suc, ◌+◌, ◌-◌, ◌*◌, ◌/◌, ◌^◌, ◌<◌, ◌≤◌, ◌∙◌, true, [], ◌∷◌, Option, Some, None, cond, sum_by, length, ap, subst, arith, pow-suc}
use Rattle.std.specs.List.{range_with_len}
use Rattle.std.specs.Option.{is_some, option_map_or}
use Rattle.std.proofs.lemmas.List.Sums.{sum_by-cons}
use Rattle.query_laws.specs.StepLedger.{Counts, AtLapStart, lap_of}
use Rattle.partial_build.specs.Quota.{quota}
use Rattle.log_levels.specs.Cost.{IsWithin, quotas}
use Rattle.log_levels.proofs.Spending.{IsWithin-more, IsWithin-then, quotas-first, quotas-fewer}
use Rattle.map_structures.specs.Touches.{touches_at}
use Rattle.map_model.specs.Cost.{Update, Rate, greatest_level, turns_up_to, marks_up_to, move_marks_up_to, brings}
use Rattle.map_model.proofs.Levels.{IsLog-halvings}
use Rattle.map_shapes.specs.declared.spent.Spent.{Spent}
use Rattle.layer_kinds.specs.Shares.{Rates, Waits, count_of, ready_count, share, IsShared, prepare_turns, prepare_marks, insert_turns, insert_marks, delete_turns, delete_marks, move_turns, move_marks}
use Rattle.layer_kinds.specs.Costs.{IsInBounds, IsTold, turns_of, marks_of}

-- ---- the quotas of all levels

module _ (slope base : ℕ) where
  quota-above : (level : ℕ) → 1 ≤ level → quota slope base level ≡ slope * level + base + 4
  quota-above level some = grind (arith, some)

  -- from a level above 0 on
  quotas_from : (k from : ℕ) → 1 ≤ from
      → 2 * quotas slope base from (from + k) ≤ slope * (2 * ((k + 1) * from) + k * (k + 1)) + 2 * ((k + 1) * (base + 4))
  quotas_from zero from some =
      let here : quotas slope base from (from + 0) ≡ quota slope base from + quotas slope base (from + 1) (from + 0) =
      quotas-first slope base from (from + 0) (omega arith) in
      let none : from + 0 + 1 - (from + 1) ≡ 0 = omega arith in
      let rest : quotas slope base (from + 1) (from + 0) ≡ 0 = ap (λ n. sum_by (quota slope base) (range_with_len (from + 1) n)) none in
      let one = quota-above from some in
      let sum : slope * (2 * ((0 + 1) * from) + 0 * (0 + 1)) + 2 * ((0 + 1) * (base + 4)) ≡ 2 * (slope * from + base + 4) = grind arith in
      omega (arith, here, rest, one, sum)
  quotas_from (suc k) from some =
      let here : quotas slope base from (from + suc k) ≡ quota slope base from + quotas slope base (from + 1) (from + suc k) =
      quotas-first slope base from (from + suc k) (omega arith) in
      let same : from + 1 + k ≡ from + suc k = omega arith in
      let rest : 2 * quotas slope base (from + 1) (from + suc k) ≤ slope * (2 * ((k + 1) * (from + 1)) + k * (k + 1)) + 2 * ((k + 1) * (base + 4)) =
      subst (λ n. 2 * quotas slope base (from + 1) n ≤ slope * (2 * ((k + 1) * (from + 1)) + k * (k + 1)) + 2 * ((k + 1) * (base + 4))) same
      (quotas_from k (from + 1) (omega arith)) in
      let one = quota-above from some in
      let sum : 2 * (slope * from + base + 4) + (slope * (2 * ((k + 1) * (from + 1)) + k * (k + 1)) + 2 * ((k + 1) * (base + 4)))
      ≡ slope * (2 * ((suc k + 1) * from) + suc k * (suc k + 1)) + 2 * ((suc k + 1) * (base + 4)) = grind arith in
      omega (arith, here, rest, one, sum)

  quotas-closed : (g : ℕ) → 2 * quotas slope base 0 g ≤ slope * (g * g) + (slope + 2 * base + 8) * g + base + 4
  quotas-closed zero =
      let here : quotas slope base 0 0 ≡ quota slope base 0 + quotas slope base 1 0 = quotas-first slope base 0 0 (omega arith) in
      let sum : slope * (0 * 0) + (slope + 2 * base + 8) * 0 + base + 4 ≡ base + 4 = grind arith in
      omega (arith, here, sum)
  quotas-closed (suc k) =
      let here : quotas slope base 0 (suc k) ≡ quota slope base 0 + quotas slope base 1 (suc k) = quotas-first slope base 0 (suc k) (omega arith) in
      let same : 1 + k ≡ suc k = omega arith in
      let rest : 2 * quotas slope base 1 (suc k) ≤ slope * (2 * ((k + 1) * 1) + k * (k + 1)) + 2 * ((k + 1) * (base + 4)) =
      subst (λ n. 2 * quotas slope base 1 n ≤ slope * (2 * ((k + 1) * 1) + k * (k + 1)) + 2 * ((k + 1) * (base + 4))) same (quotas_from k 1 (omega arith)) in
      let sum : base + 4 + (slope * (2 * ((k + 1) * 1) + k * (k + 1)) + 2 * ((k + 1) * (base + 4)))
      ≡ slope * (suc k * suc k) + (slope + 2 * base + 8) * suc k + base + 4 = grind arith in
      omega (arith, here, rest, sum)

six_halves : (q p : ℕ) → 2 * q ≤ p → 6 * q ≤ 6 * p / 2
six_halves q p less = omega (arith, less)

seven_halves : (q p : ℕ) → 2 * q ≤ p → 7 * q ≤ 7 * p / 2
seven_halves q p less = omega (arith, less)

six_ticks : (g : ℕ) (rate : Rate) → 6 * quotas rate.slope rate.base 0 g ≤ turns_up_to 6 rate g
six_ticks g rate = six_halves (quotas rate.slope rate.base 0 g)
    (rate.slope * (g * g) + (rate.slope + 2 * rate.base + 8) * g + rate.base + 4)
    (quotas-closed rate.slope rate.base g)

seven_ticks : (g : ℕ) (rate : Rate) → 7 * quotas rate.slope rate.base 0 g ≤ turns_up_to 7 rate g
seven_ticks g rate = seven_halves (quotas rate.slope rate.base 0 g)
    (rate.slope * (g * g) + (rate.slope + 2 * rate.base + 8) * g + rate.base + 4)
    (quotas-closed rate.slope rate.base g)

-- ---- one share, and two together

module _ (f most : Rate → ℕ) (each : (rate : Rate) → f rate ≤ most rate) where
  share-more : (rates : Rates) → share f rates ≤ share most rates
  share-more [] = omega arith
  share-more (r ∷ rest) =
      omega (arith, sum_by-cons (λ x. option_map_or f x 0) r rest, sum_by-cons (λ x. option_map_or most x 0) r rest, one r, share-more rest)
    where
      one : (r : Option Rate) → option_map_or f r 0 ≤ option_map_or most r 0
      one None = omega arith
      one (Some rate) = each rate

module _ (f f' most : Rate → ℕ) (each : (rate : Rate) → f rate + f' rate ≤ most rate) where
  shares : (rates : Rates) → share f rates + share f' rates ≤ share most rates
  shares [] = omega arith
  shares (r ∷ rest) =
      omega (
        arith,
        sum_by-cons (λ x. option_map_or f x 0) r rest,
        sum_by-cons (λ x. option_map_or f' x 0) r rest,
        sum_by-cons (λ x. option_map_or most x 0) r rest,
        one r,
        shares rest,
      )
    where
      one : (r : Option Rate) → option_map_or f r 0 + option_map_or f' r 0 ≤ option_map_or most r 0
      one None = omega arith
      one (Some rate) = each rate

-- the same number of each index
pub share_same : (n : ℕ) (rates : Rates) → share (λ rate. n) rates ≡ count_of rates * n
share_same n [] = omega arith
share_same n (r ∷ rest) =
    let count = sum_by-cons (λ x. cond (is_some x) 1 0) r rest in
    let both : (cond (is_some r) 1 0 + count_of rest) * n ≡ cond (is_some r) 1 0 * n + count_of rest * n = grind arith in
    omega (arith, sum_by-cons (λ x. option_map_or (λ rate. n) x 0) r rest, ap (λ k. k * n) count, both, one r, share_same n rest)
  where
    one : (r : Option Rate) → option_map_or (λ rate. n) r 0 ≡ cond (is_some r) 1 0 * n
    one None = omega arith
    one (Some rate) = omega arith

-- no more are there than there may be
pub count_few : (rates : Rates) → count_of rates ≤ length rates
count_few [] = omega arith
count_few (r ∷ rest) = omega (arith, sum_by-cons (λ x. cond (is_some x) 1 0) r rest, one r, count_few rest)
  where
    one : (r : Option Rate) → cond (is_some r) 1 0 ≤ 1
    one None = omega arith
    one (Some rate) = omega arith

module _ (rates : Rates) (g : ℕ) where
  -- what an update costs, by the level
  abbrev pub IsAtMost : Counts → Counts → Type 0
  IsAtMost old new = IsWithin (share (λ rate. turns_up_to 6 rate g) rates) (share (λ rate. marks_up_to g) rates) (touches_at g) old new

  pub refused-cost : {old new : Counts} → IsShared (prepare_turns g) (prepare_marks g) rates g old new → IsAtMost old new
  refused-cost h = IsWithin-more h
      (share-more (prepare_turns g) (λ rate. turns_up_to 6 rate g) (λ rate. omega (arith, six_ticks g rate)) rates)
      (share-more (prepare_marks g) (λ rate. marks_up_to g) (λ rate. omega arith) rates)
      (omega arith)

  pub added-cost : {old mid new : Counts} → IsShared (prepare_turns g) (prepare_marks g) rates g old mid
      → IsShared (insert_turns g) (insert_marks g) rates g mid new → IsAtMost old new
  added-cost h h' = IsWithin-more (IsWithin-then h h')
      (shares (prepare_turns g) (insert_turns g) (λ rate. turns_up_to 6 rate g) (λ rate. omega (arith, six_ticks g rate)) rates)
      (shares (prepare_marks g) (insert_marks g) (λ rate. marks_up_to g) (λ rate. omega arith) rates)
      (omega arith)

  pub removed-cost : {old mid new : Counts} → IsShared (prepare_turns g) (prepare_marks g) rates g old mid
      → IsShared (delete_turns g) (delete_marks g) rates g mid new → IsAtMost old new
  removed-cost h h' = IsWithin-more (IsWithin-then h h')
      (shares (prepare_turns g) (delete_turns g) (λ rate. turns_up_to 6 rate g)
      (λ rate. omega (arith, six_ticks g rate, quotas-fewer rate.slope rate.base 0 g)) rates)
      (shares (prepare_marks g) (delete_marks g) (λ rate. marks_up_to g) (λ rate. omega arith) rates)
      (omega arith)

  -- what a move costs, by the level
  abbrev pub IsMoveAtMost : Counts → Counts → Type 0
  IsMoveAtMost old new = IsWithin (share (λ rate. turns_up_to 7 rate g) rates) (share (λ rate. move_marks_up_to g) rates) (touches_at g) old new

  pub refused_move-cost : {old new : Counts} → IsShared (prepare_turns g) (prepare_marks g) rates g old new → IsMoveAtMost old new
  refused_move-cost h = IsWithin-more h
      (share-more (prepare_turns g) (λ rate. turns_up_to 7 rate g) (λ rate. omega (arith, seven_ticks g rate)) rates)
      (share-more (prepare_marks g) (λ rate. move_marks_up_to g) (λ rate. omega arith) rates)
      (omega arith)

  pub moved-cost : {old mid new : Counts} → IsShared (prepare_turns g) (prepare_marks g) rates g old mid
      → IsShared (move_turns g) (move_marks g) rates g mid new → IsMoveAtMost old new
  moved-cost h h' = IsWithin-more (IsWithin-then h h')
      (shares (prepare_turns g) (move_turns g) (λ rate. turns_up_to 7 rate g)
      (λ rate. omega (arith, seven_ticks g rate, quotas-fewer rate.slope rate.base 0 g)) rates)
      (shares (prepare_marks g) (move_marks g) (λ rate. move_marks_up_to g) (λ rate. omega arith) rates)
      (omega arith)

-- ---- a layer

light : (m h : ℕ) → m < 2 * 2 ^ h → m < 2 ^ (h + 1)
light m h less =
    let next : suc h ≡ h + 1 = omega arith in
    subst (λ k. m < 2 ^ k) next (omega (arith, less, pow-suc 2 h))

-- its greatest level is above its weight
pub greatest-light : (n : ℕ) → n ≤ 2 ^ 24 → 2 * n + 10 < 2 ^ (greatest_level n + 1)
unfolding greatest_level
greatest-light n few =
    let log = IsLog-halvings 63 (2 * n + 10) (omega arith) (omega (arith, few)) in
    light (2 * n + 10) (greatest_level n) log.1

-- what an update of n items costs that is told
pub IsTold-of : (update : Update) (rates : Rates) (waits : Waits) (n turns marks : ℕ) {spent : Spent} {old new : Counts} → IsInBounds update rates n old new → AtLapStart old
    → turns ≡ turns_of update rates n → marks ≡ marks_of update rates n → turns < 2 ^ 32 → marks < 2 ^ 32
    → (brings update ≡ true → old.turns + 3 * ready_count waits ≤ new.turns)
    → spent ≡ record {
      turns = lap_of new.lap_start.turns new.turns;
      turn_bound = turns;
      marks = lap_of new.lap_start.marks new.marks;
      mark_bound = marks;
    } → IsTold update rates waits n spent old new
IsTold-of update rates waits n turns marks {spent} {old} {new} h lap turns_are marks_are few_turns few_marks some told =
    let from_turns : new.lap_start.turns ≡ old.turns = ap (λ l. l.turns) h.spent.same_lap ∙ lap.no_turns in
    let from_marks : new.lap_start.marks ≡ old.marks = ap (λ l. l.marks) h.spent.same_lap ∙ lap.no_marks in
    let risen : old.turns ≤ new.turns = omega (arith, h.spent.turns_spent) in
    let marked : old.marks ≤ new.marks = omega (arith, h.spent.marks_spent) in
    let spent_turns : spent.turns ≡ new.turns - old.turns =
    ap (λ s. s.turns) told ∙ omega (arith, from_turns, h.few_turns, turns_are, few_turns) in
    let spent_marks : spent.marks ≡ new.marks - old.marks =
    ap (λ s. s.marks) told ∙ omega (arith, from_marks, h.few_marks, marks_are, few_marks) in
    record {
      turn_bound = ap (λ s. s.turn_bound) told ∙ turns_are;
      mark_bound = ap (λ s. s.mark_bound) told ∙ marks_are;
      few_turns = omega (arith, spent_turns, h.few_turns, ap (λ s. s.turn_bound) told, turns_are);
      few_marks = omega (arith, spent_marks, h.few_marks, ap (λ s. s.mark_bound) told, marks_are);
      some_turns = λ is. omega (arith, spent_turns, some is);
      turns = omega (arith, spent_turns, risen);
      marks = omega (arith, spent_marks, marked);
    }
