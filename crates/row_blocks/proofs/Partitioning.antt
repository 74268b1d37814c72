-- A row whose blocks are partitioned, entry by entry, into the blocks of the next row.
use Rattle.std.proofs.Common.{◌≡◌, ℕ, zero, suc, ◌+◌, ◌-◌, ◌*◌, ◌/◌, ◌^◌, ◌<◌, ◌≤◌, ◌&&◌, ◌⊎◌, inl, inr, Bool, true, false, cond, List, [], ◌∷◌, ◌++◌, length, take, drop, map, get_or, set, min, slice_range, nat_lt, nat_le, refl, sym, ap, ap₂, subst, ◌∙◌, arith, All, length-take, length-drop, length-append, take-append-drop, append-nil}
use Rattle.std.specs.List.{filter, range_with_len}
use Rattle.std.proofs.Math.Nat.{mul-le-mul_right}
use Rattle.std.proofs.lemmas.Nat.{pow_pos, div-add-mod', mod_below}
use Rattle.std.proofs.lemmas.Bool.{cases_lt, cases_eq, cond-true, cond-false, and_parts, leb-true, ltb-true, lt-ltb, le-ltb, eq-eqb, ne_eqb}
use Rattle.std.proofs.lemmas.Bool.Decides.{nat_tests}
use Rattle.std.proofs.lemmas.List.{length-set, length-map, get_or-take, get_or-drop, get_or-map, take_all, drop-set-lt, drop-set-add, take-set-le, take_more_set, map-id}
use Rattle.std.proofs.lemmas.List.Elements.{All-from_get_or, filter-append, filter_more, filter_passes}
use Rattle.std.proofs.lemmas.List.FromFn.{filter_of_map_range_with_len_more, length-range_with_len, get_or-range_with_len}
use Rattle.std.proofs.lemmas.List.Sorted.{All-permutation}
use Rattle.query_laws.proofs.Permutations.{Permuted-length, Permuted-filter, Permuted-sym, IsPermutation-from_Permuted}
use Rattle.row_blocks.specs.Blocks.{IsMultiple, start_of}
use Rattle.row_blocks.specs.Partitions.{is_in_block, block_of, HasEachPlace, IsInBlocks, IsMoved, target_of, lower_after}
use Rattle.row_blocks.proofs.Blocks.{pow_next, first_half, second_half, times_below}
use Rattle.row_blocks.proofs.Lists.{take-split, length-slice_range, get_or-slice_range, filter_none, filter_all, filter-filter, filter-map, length-filter-take-le}

-- ---- blocks of one height

-- a block begins at or before its places
pub start_of-le : (height place : ℕ) → start_of height place ≤ place
start_of-le height place = omega (arith, div-add-mod' place (2 ^ height))

-- and ends behind them
pub start_of-above : (height place : ℕ) → place < start_of height place + 2 ^ height
start_of-above height place = omega (arith, div-add-mod' place (2 ^ height), mod_below place (2 ^ height) (pow_pos height))

pub start_of-multiple : (height place : ℕ) → IsMultiple (start_of height place) height
start_of-multiple height place = record { times = place / 2 ^ height; is = refl }

-- blocks of one height don't overlap
pub blocks_apart : {s t height : ℕ} → IsMultiple s height → IsMultiple t height → s < t → s + 2 ^ height ≤ t
blocks_apart {s} {t} {height} first second before =
    let fewer : first.times < second.times = times_below first.times second.times (2 ^ height) (omega (arith, first.is, second.is)) in
    let le : (first.times + 1) * 2 ^ height ≤ second.times * 2 ^ height = mul-le-mul_right (2 ^ height) (omega arith) in
    omega (arith, first.is, second.is)

-- only one block has a place
pub start_of_is : {start height : ℕ} (place : ℕ) → IsMultiple start height → start ≤ place → place < start + 2 ^ height → start_of height place ≡ start
start_of_is {start} {height} place multiple above below =
    let own = start_of-multiple height place in
    elim (cases_lt (start_of height place) start) [
      | inl less ↦ let le = blocks_apart own multiple less in let no : ⊥ = omega (arith, start_of-above height place) in absurd no
      | inr from ↦ elim (cases_lt start (start_of height place)) [
        | inl more ↦ let le = blocks_apart multiple own more in let no : ⊥ = omega (arith, start_of-le height place) in absurd no
        | inr up_to ↦ omega arith
      ]
    ]

-- ---- entries with places

-- how many numbers below n are from a on and below b
count_between : (a b n : ℕ) → length (filter (λ p. nat_le a p && nat_lt p b) (range_with_len 0 n)) ≡ min n b - a
count_between a b zero = omega arith
count_between a b (suc n) =
    let step : filter (λ p. nat_le a p && nat_lt p b) (map (λ k. k) (range_with_len 0 (n + 1)))
    ≡ filter (λ p. nat_le a p && nat_lt p b) (map (λ k. k) (range_with_len 0 n)) ++ cond (nat_le a n && nat_lt n b) (n ∷ []) [] =
    filter_of_map_range_with_len_more (λ p. nat_le a p && nat_lt p b) (λ k. k) 0 n n (omega arith) in
    let plain : filter (λ p. nat_le a p && nat_lt p b) (range_with_len 0 (n + 1))
    ≡ filter (λ p. nat_le a p && nat_lt p b) (range_with_len 0 n) ++ cond (nat_le a n && nat_lt n b) (n ∷ []) [] =
    ap (filter (λ p. nat_le a p && nat_lt p b)) (sym (map-id (range_with_len 0 (n + 1)))) ∙ step
    ∙ ap (λ l. filter (λ p. nat_le a p && nat_lt p b) l ++ cond (nat_le a n && nat_lt n b) (n ∷ []) []) (map-id (range_with_len 0 n)) in
    let next : suc n ≡ n + 1 = omega arith in
    ap (λ m. length (filter (λ p. nat_le a p && nat_lt p b) (range_with_len 0 m))) next
    ∙ ap length plain ∙ length-append _ _ ∙ one_more a b n _ (count_between a b n)
  where
    one_more : (a b n c : ℕ) → c ≡ min n b - a → c + length (cond (nat_le a n && nat_lt n b) (n ∷ []) []) ≡ min (suc n) b - a
    one_more a b n c is = by (cases_lt n a) (cases_lt n b)
      where
        by : (n < a) ⊎ (a ≤ n) → (n < b) ⊎ (b ≤ n) → c + length (cond (nat_le a n && nat_lt n b) (n ∷ []) []) ≡ min (suc n) b - a
        by (inl low) _ = let test : (nat_le a n && nat_lt n b) ≡ false = grind (arith, nat_tests) in
            ap (λ t. c + length (cond t (n ∷ []) [])) test ∙ omega (arith, is)
        by (inr from) (inr past) = let test : (nat_le a n && nat_lt n b) ≡ false = grind (arith, nat_tests) in
            ap (λ t. c + length (cond t (n ∷ []) [])) test ∙ omega (arith, is)
        by (inr from) (inl below) = let test : (nat_le a n && nat_lt n b) ≡ true = grind (arith, nat_tests) in
            ap (λ t. c + length (cond t (n ∷ []) [])) test ∙ omega (arith, is)

module _ {T : Type 0} (place : T → ℕ) where
  -- a list that has each place has as many entries in a block as there are places
  pub length-block_of : (whole : List T) (height start : ℕ) → HasEachPlace place whole
      → length (block_of place height start whole) ≡ min (length whole) (start + 2 ^ height) - start
  length-block_of whole height start each =
      let inside : ℕ → Bool = λ p. nat_le start p && nat_lt p (start + 2 ^ height) in
      let mapped : length (filter inside (map place whole)) ≡ length (block_of place height start whole) =
      ap length (filter-map inside place whole) ∙ length-map (block_of place height start whole) place in
      sym mapped ∙ Permuted-length (Permuted-filter inside each) ∙ count_between start (start + 2 ^ height) (length whole)

  -- whether an entry is in a block
  pub in_block : (height start : ℕ) (e : T) → start ≤ place e → place e < start + 2 ^ height → is_in_block place height start e ≡ true
  in_block height start e above below = by start (place e) (start + 2 ^ height) above below
    where
      by : (a p b : ℕ) → a ≤ p → p < b → (nat_le a p && nat_lt p b) ≡ true
      by a p b above below = grind (arith, nat_tests)

  pub not_in_block : (height start : ℕ) (e : T) → (place e < start) ⊎ (start + 2 ^ height ≤ place e) → is_in_block place height start e ≡ false
  not_in_block height start e outside = by start (place e) (start + 2 ^ height) outside
    where
      by : (a p b : ℕ) → (p < a) ⊎ (b ≤ p) → (nat_le a p && nat_lt p b) ≡ false
      by a p b (inl low) = grind (arith, nat_tests)
      by a p b (inr high) = grind (arith, nat_tests)

  pub from_in_block : (height start : ℕ) (e : T) → is_in_block place height start e ≡ true → (start ≤ place e) × (place e < start + 2 ^ height)
  from_in_block height start e inside =
      let both = and_parts (nat_le start (place e)) (nat_lt (place e) (start + 2 ^ height)) inside in
      (leb-true start (place e) both.0, ltb-true (place e) (start + 2 ^ height) both.1)

  -- a list that has each place has no others
  pub place_within : (whole : List T) → HasEachPlace place whole → (k : ℕ) (d : T) → k < length whole → place (get_or whole k d) < length whole
  place_within whole each k d within =
      let P : ℕ → Type 0 = λ p. p < length whole in
      let all : All P (range_with_len 0 (length whole)) = All-from_get_or P (range_with_len 0 (length whole)) 0
      (λ i below. omega (arith, length-range_with_len 0 (length whole), get_or-range_with_len 0 (length whole) i 0 (omega (arith, length-range_with_len 0 (length whole))))) in
      let mapped : All P (map place whole) = All-permutation P (range_with_len 0 (length whole)) (map place whole) (IsPermutation-from_Permuted (Permuted-sym each)) all in
      subst P (get_or-map place whole k d 0 within) (mapped k 0 (omega (arith, length-map whole place)))

  -- a list that fits into one block is a row of one block
  pub IsInBlocks-whole : (whole : List T) (height : ℕ) → HasEachPlace place whole → length whole ≤ 2 ^ height → IsInBlocks place whole height whole
  IsInBlocks-whole whole height each few = record {
    as_many = refl;
    blocks = λ start multiple inside.
        let zero_multiple : IsMultiple 0 height = record { times = 0; is = omega arith } in
        let first : start ≡ 0 = elim (cases_lt 0 start) [
          | inl more ↦ let le = blocks_apart zero_multiple multiple more in let no : ⊥ = omega arith in absurd no
          | inr none ↦ omega arith
        ] in
        let all : block_of place height start whole ≡ whole =
        filter_all (is_in_block place height start) whole
        (λ k d below. in_block height start (get_or whole k d) (omega arith) (omega (arith, place_within whole each k d below))) in
        ap (λ s. take (min (start + 2 ^ height) (length whole) - s) (drop s whole)) first
        ∙ take_all (min (start + 2 ^ height) (length whole) - 0) whole (omega arith) ∙ sym all;
  }

  -- ---- a row in blocks
  module _ {whole row : List T} {height : ℕ} (cut : IsInBlocks place whole height row) where
    -- each entry stands in the block that has its place
    pub own_block : (j : ℕ) (d : T) → j < length row → start_of height (place (get_or row j d)) ≡ start_of height j
    own_block j d within =
        let start = start_of height j in
        let low = start_of-le height j in
        let high = start_of-above height j in
        let end = min (start + 2 ^ height) (length whole) in
        let block : slice_range row start end ≡ block_of place height start whole = cut.blocks start (start_of-multiple height j) (omega (arith, cut.as_many)) in
        let long : length (slice_range row start end) ≡ end - start = length-slice_range row start end (omega (arith, cut.as_many)) (omega (arith, cut.as_many)) in
        let there : get_or (slice_range row start end) (j - start) d ≡ get_or row j d =
        get_or-slice_range row start end (j - start) d (omega (arith, cut.as_many)) ∙ ap (λ i. get_or row i d) (let e : start + (j - start) ≡ j = omega arith in e) in
        let passes : is_in_block place height start (get_or (block_of place height start whole) (j - start) d) ≡ true =
        filter_passes (is_in_block place height start) whole (j - start) d (omega (arith, ap length block, cut.as_many)) in
        let here : is_in_block place height start (get_or row j d) ≡ true =
        subst (λ e. is_in_block place height start e ≡ true) (sym (ap (λ l. get_or l (j - start) d) block) ∙ there) passes in
        let bounds = from_in_block height start (get_or row j d) here in
        start_of_is (place (get_or row j d)) (start_of-multiple height j) bounds.0 bounds.1

    -- so an entry outside of a block isn't one of it
    outside_block : (start j : ℕ) (d : T) → IsMultiple start height → j < length row → (j < start) ⊎ (start + 2 ^ height ≤ j) → is_in_block place height start (get_or row j d) ≡ false
    outside_block start j d multiple within outside =
        let own = own_block j d within in
        let low = start_of-le height j in
        let high = start_of-above height j in
        let place_low = start_of-le height (place (get_or row j d)) in
        let place_high = start_of-above height (place (get_or row j d)) in
        elim outside [
          | inl before ↦ not_in_block height start (get_or row j d)
              (inl (let apart = blocks_apart (start_of-multiple height j) multiple (omega arith) in omega arith))
          | inr past ↦ elim (cases_lt start (start_of height j)) [
            | inl more ↦ not_in_block height start (get_or row j d) (inr (let apart = blocks_apart multiple (start_of-multiple height j) more in omega arith))
            | inr up_to ↦ let no : ⊥ = omega (arith, start_of_is j multiple (omega arith)) in absurd no
          ]
        ]

    -- and the row has in each block what the list has, in its order
    pub block_of-row : (start : ℕ) → IsMultiple start height → start < length whole → block_of place height start row ≡ block_of place height start whole
    block_of-row start multiple inside =
        let end = min (start + 2 ^ height) (length whole) in
        let p : T → Bool = is_in_block place height start in
        let split : row ≡ (take start row ++ slice_range row start end) ++ drop end row =
        sym (take-append-drop end row) ∙ ap (λ l. l ++ drop end row) (take-split row start end (omega arith)) in
        let front : filter p (take start row) ≡ [] =
        filter_none p (take start row)
        (λ j d below.
        let short : j < start = omega (arith, length-take start row) in
        subst (λ e. p e ≡ false) (sym (get_or-take start row j d short)) (outside_block start j d multiple (omega (arith, length-take start row)) (inl short))) in
        let back : filter p (drop end row) ≡ [] =
        filter_none p (drop end row)
        (λ j d below.
        let within : end + j < length row = omega (arith, length-drop end row) in
        subst (λ e. p e ≡ false) (sym (get_or-drop end row j d)) (outside_block start (end + j) d multiple within (inr (omega (arith, cut.as_many))))) in
        let middle : filter p (slice_range row start end) ≡ block_of place height start whole =
        ap (filter p) (cut.blocks start multiple inside) ∙ filter-filter p p (λ x h. h) whole in
        ap (filter p) split ∙ filter-append p (take start row ++ slice_range row start end) (drop end row)
        ∙ ap₂ (λ a b. a ++ b) (filter-append p (take start row) (slice_range row start end) ∙ ap₂ (λ a b. a ++ b) front middle) back
        ∙ (let e : block_of place height start whole ++ [] ≡ block_of place height start whole = append-nil (block_of place height start whole) in e)

  -- two neighbouring ranges of places have together what they have
  split_range : (a m b : ℕ) → a ≤ m → m ≤ b → (xs : List T)
      → length (filter (λ e. nat_le a (place e) && nat_lt (place e) m) xs) + length (filter (λ e. nat_le m (place e) && nat_lt (place e) b) xs)
      ≡ length (filter (λ e. nat_le a (place e) && nat_lt (place e) b) xs)
  split_range a m b low high [] = refl
  split_range a m b low high (x ∷ xs) =
      one_more x _ _ _ _ _ _ (tests a (place x) m b low high) (split_range a m b low high xs)
    where
      tests : (a p m b : ℕ) → a ≤ m → m ≤ b → cond (nat_le a p && nat_lt p m) 1 0 + cond (nat_le m p && nat_lt p b) 1 0 ≡ cond (nat_le a p && nat_lt p b) 1 0
      tests a p m b low high = grind (arith, nat_tests)

      counted : (b : Bool) (x : T) (ys : List T) → length (cond b (x ∷ ys) ys) ≡ cond b 1 0 + length ys
      counted true x ys = omega arith
      counted false x ys = omega arith

      one_more : (x : T) (p q r : Bool) (us vs ws : List T) → cond p 1 0 + cond q 1 0 ≡ cond r 1 0 → length us + length vs ≡ length ws
          → length (cond p (x ∷ us) us) + length (cond q (x ∷ vs) vs) ≡ length (cond r (x ∷ ws) ws)
      one_more x p q r us vs ws test rest = omega (arith, counted p x us, counted q x vs, counted r x ws, test, rest)

  -- ---- the way of one entry
  module _ {whole source : List T} (height : ℕ) (each : HasEachPlace place whole) (above : IsInBlocks place whole (height + 1) source) where
    -- a half block has in the row what it has in the list
    pub half_of-row : (start : ℕ) → IsMultiple start height → start_of (height + 1) start < length whole
        → block_of place height start source ≡ block_of place height start whole
    half_of-row start multiple inside =
        let outer = start_of (height + 1) start in
        let low = start_of-le (height + 1) start in
        let end : IsMultiple (outer + 2 ^ (height + 1)) (height + 1) = record { times = start / 2 ^ (height + 1) + 1; is = omega arith } in
        let high : start + 2 ^ height ≤ outer + 2 ^ (height + 1) = blocks_apart multiple (first_half (outer + 2 ^ (height + 1)) height end) (start_of-above (height + 1) start) in
        let weaker : (x : T) → is_in_block place height start x ≡ true → is_in_block place (height + 1) outer x ≡ true =
        λ x h. (let bounds = from_in_block height start x h in in_block (height + 1) outer x (omega arith) (omega arith)) in
        sym (filter-filter (is_in_block place height start) (is_in_block place (height + 1) outer) weaker source)
        ∙ ap (filter (is_in_block place height start)) (block_of-row above outer (start_of-multiple (height + 1) start) inside)
        ∙ filter-filter (is_in_block place height start) (is_in_block place (height + 1) outer) weaker whole

    -- and so as many as it has places
    pub length-half_of : (start : ℕ) → IsMultiple start height → start_of (height + 1) start < length whole
        → length (block_of place height start source) ≡ min (length whole) (start + 2 ^ height) - start
    length-half_of start multiple inside = ap length (half_of-row start multiple inside) ∙ length-block_of whole height start each

    -- of the block at k the first entries up to there were read
    so_far : (k : ℕ) → k ≤ length source → length (block_of place (height + 1) (start_of (height + 1) k) (take k source)) ≡ k - start_of (height + 1) k
    so_far k within =
        let start = start_of (height + 1) k in
        let low = start_of-le (height + 1) k in
        let p : T → Bool = is_in_block place (height + 1) start in
        let front : filter p (take start source) ≡ [] =
        filter_none p (take start source)
        (λ j d below.
        let short : j < start = omega (arith, length-take start source) in
        subst (λ e. p e ≡ false) (sym (get_or-take start source j d short))
        (outside_block above start j d (start_of-multiple (height + 1) k) (omega (arith, length-take start source)) (inl short))) in
        let long : length (slice_range source start k) ≡ k - start = length-slice_range source start k low within in
        let rest : filter p (slice_range source start k) ≡ slice_range source start k =
        filter_all p (slice_range source start k)
        (λ j d below.
        let inside : j < k - start = omega arith in
        let own = own_block above (start + j) d (omega arith) in
        let same : start_of (height + 1) (start + j) ≡ start =
        start_of_is (start + j) (start_of-multiple (height + 1) k) (omega arith) (omega (arith, start_of-above (height + 1) k)) in
        let e_low = start_of-le (height + 1) (place (get_or source (start + j) d)) in
        let e_high = start_of-above (height + 1) (place (get_or source (start + j) d)) in
        subst (λ e. p e ≡ true) (sym (get_or-slice_range source start k j d inside)) (in_block (height + 1) start (get_or source (start + j) d) (omega arith) (omega arith))) in
        ap (λ l. length (filter p l)) (take-split source start k low) ∙ ap length (filter-append p (take start source) (slice_range source start k))
        ∙ ap₂ (λ a b. length (a ++ b)) front rest ∙ long

    -- what isn't in the first half of the block at k is in the second
    pub second_of : (k : ℕ) → k ≤ length source → let start = start_of (height + 1) k in
        length (block_of place height start (take k source)) + length (block_of place height (start + 2 ^ height) (take k source)) ≡ k - start
    second_of k within =
        let start = start_of (height + 1) k in
        let end : start + 2 ^ height + 2 ^ height ≡ start + 2 ^ (height + 1) = omega (arith, pow_next height) in
        let both = split_range start (start + 2 ^ height) (start + 2 ^ height + 2 ^ height) (omega arith) (omega arith) (take k source) in
        both ∙ ap (λ b. length (filter (λ e. nat_le start (place e) && nat_lt (place e) b) (take k source))) end ∙ so_far k within

    -- nothing was moved
    pub IsMoved-begin : (target : List T) → length target ≡ length source → IsMoved place source target height 0 0
    IsMoved-begin target long = record {
      long = long;
      within = omega arith;
      moved = λ start multiple inside. refl;
      counted = refl;
    }

    -- all were moved
    pub IsInBlocks-moved : {target : List T} {k lower : ℕ} → IsMoved place source target height k lower → k ≡ length source → IsInBlocks place whole height target
    IsInBlocks-moved {target} {k} moved all = record {
      as_many = moved.long ∙ above.as_many;
      blocks = λ start multiple inside.
          let whole_source : take k source ≡ source = take_all k source (omega arith) in
          let outer : start_of (height + 1) start < length whole = omega (arith, start_of-le (height + 1) start) in
          let long = length-half_of start multiple outer in
          let count : length (block_of place height start (take k source)) ≡ min (start + 2 ^ height) (length whole) - start =
          ap (λ l. length (block_of place height start l)) whole_source ∙ omega (arith, long) in
          ap (λ m. take m (drop start target)) (sym count) ∙ moved.moved start multiple (omega (arith, above.as_many))
          ∙ ap (block_of place height start) whole_source ∙ half_of-row start multiple outer;
    }

    module _ {target : List T} {k lower : ℕ} (moved : IsMoved place source target height k lower) (inside : k < length source) (e : T) (d : T) (read : get_or source k d ≡ e)
        (home : ℕ) (multiple : IsMultiple home height) (low : home ≤ place e) (high : place e < home + 2 ^ height) where
      -- a block has one entry more where it is the entry's own
      grown : (start : ℕ) → block_of place height start (take (k + 1) source) ≡ block_of place height start (take k source) ++ cond (is_in_block place height start e) (e ∷ []) []
      grown start =
          filter_more (is_in_block place height start) source k d inside
          ∙ ap (λ x. block_of place height start (take k source) ++ cond (is_in_block place height start x) (x ∷ []) []) read

      own_start : start_of (height + 1) home ≡ start_of (height + 1) k
      own_start =
          let own : start_of (height + 1) (place e) ≡ start_of (height + 1) k = subst (λ x. start_of (height + 1) (place x) ≡ start_of (height + 1) k) read (own_block above k d inside) in
          let outer = start_of (height + 1) home in
          let end : IsMultiple (outer + 2 ^ (height + 1)) (height + 1) = record { times = home / 2 ^ (height + 1) + 1; is = omega arith } in
          let within : home + 2 ^ height ≤ outer + 2 ^ (height + 1) = blocks_apart multiple (first_half (outer + 2 ^ (height + 1)) height end) (start_of-above (height + 1) home) in
          sym (start_of_is (place e) (start_of-multiple (height + 1) home) (omega (arith, start_of-le (height + 1) home)) (omega arith)) ∙ own

      outer_inside : start_of (height + 1) home < length whole
      outer_inside = omega (arith, own_start, start_of-le (height + 1) k, above.as_many)

      -- there is room for it in its block
      pub has_room : home + length (block_of place height home (take k source)) < min (length whole) (home + 2 ^ height)
      has_room =
          let more : length (block_of place height home (take (k + 1) source)) ≡ length (block_of place height home (take k source)) + 1 =
          ap length (grown home) ∙ ap (λ b. length (block_of place height home (take k source) ++ cond b (e ∷ []) [])) (in_block height home e low high)
          ∙ length-append (block_of place height home (take k source)) (e ∷ []) in
          omega (arith, more, length-filter-take-le (is_in_block place height home) source (k + 1), length-half_of home multiple outer_inside)

      -- written there, it stands where it belongs
      pub moved_next : (j : ℕ) → j ≡ home + length (block_of place height home (take k source)) → (start : ℕ) → IsMultiple start height → start < length source
          → take (length (block_of place height start (take (k + 1) source))) (drop start (set target j e)) ≡ block_of place height start (take (k + 1) source)
      moved_next j at start own inside_start = elim (cases_eq start home) [ inl same ↦ here same | inr other ↦ elsewhere other ]
        where
          here : start ≡ home → take (length (block_of place height start (take (k + 1) source))) (drop start (set target j e)) ≡ block_of place height start (take (k + 1) source)
          here same =
              let old = block_of place height home (take k source) in
              let more : block_of place height home (take (k + 1) source) ≡ old ++ e ∷ [] =
              grown home ∙ ap (λ b. old ++ cond b (e ∷ []) []) (in_block height home e low high) in
              let count : length (block_of place height home (take (k + 1) source)) ≡ length old + 1 = ap length more ∙ length-append old (e ∷ []) in
              let written : drop home (set target j e) ≡ set (drop home target) (length old) e =
              ap (λ i. drop home (set target i e)) at ∙ drop-set-add home target (length old) e in
              let within : length old < length (drop home target) = omega (arith, length-drop home target, has_room, moved.long, above.as_many) in
              subst (λ s. take (length (block_of place height s (take (k + 1) source))) (drop s (set target j e)) ≡ block_of place height s (take (k + 1) source)) (sym same)
              (ap₂ take count written ∙ take_more_set (drop home target) (length old) e within
              ∙ ap (λ l. l ++ e ∷ []) (moved.moved home multiple (omega (arith, same))) ∙ sym more)

          elsewhere : (start ≡ home → ⊥) → take (length (block_of place height start (take (k + 1) source))) (drop start (set target j e)) ≡ block_of place height start (take (k + 1) source)
          elsewhere other =
              let old = block_of place height start (take k source) in
              let outer : start_of (height + 1) start < length whole = omega (arith, start_of-le (height + 1) start, above.as_many) in
              let few : length old ≤ min (length whole) (start + 2 ^ height) - start =
              omega (arith, length-filter-take-le (is_in_block place height start) source k, length-half_of start own outer) in
              let apart : (home + 2 ^ height ≤ start) ⊎ (start + 2 ^ height ≤ home) = elim (cases_lt home start) [
                | inl before ↦ inl (blocks_apart multiple own before)
                | inr from ↦ inr (blocks_apart own multiple (omega arith))
              ] in
              let outside : (place e < start) ⊎ (start + 2 ^ height ≤ place e) = elim apart [ inl before ↦ inl (omega arith) | inr behind ↦ inr (omega arith) ] in
              let same : block_of place height start (take (k + 1) source) ≡ old =
              grown start ∙ ap (λ b. old ++ cond b (e ∷ []) []) (not_in_block height start e outside) ∙ append-nil old in
              let unread : take (length old) (drop start (set target j e)) ≡ take (length old) (drop start target) = elim apart [
                | inl before ↦ ap (take (length old)) (drop-set-lt start target j e (omega (arith, has_room)))
                | inr behind ↦
                    let split : start + (j - start) ≡ j = omega (arith, at) in
                    ap (λ i. take (length old) (drop start (set target i e))) (sym split)
                    ∙ ap (take (length old)) (drop-set-add start target (j - start) e)
                    ∙ take-set-le (length old) (drop start target) (j - start) e (omega (arith, at))
              ] in
              ap (λ l. take (length l) (drop start (set target j e))) same ∙ unread ∙ moved.moved start own inside_start ∙ sym same

  -- ---- one step of a partition
  module _ {whole source target : List T} (height k lower : ℕ) (each : HasEachPlace place whole) (above : IsInBlocks place whole (height + 1) source)
      (moved : IsMoved place source target height k lower) (inside : k < length source) (e : T) (d : T) (read : get_or source k d ≡ e) where
    pub lower_within : lower ≤ k - start_of (height + 1) k
    lower_within = omega (arith, second_of height each above k moved.within, moved.counted)

    -- the entry's place is in the block at hand
    in_start : (start_of (height + 1) k ≤ place e) × (place e < start_of (height + 1) k + 2 ^ height + 2 ^ height)
    in_start =
        let own : start_of (height + 1) (place e) ≡ start_of (height + 1) k =
        subst (λ x. start_of (height + 1) (place x) ≡ start_of (height + 1) k) read (own_block above k d inside) in
        (omega (arith, own, start_of-le (height + 1) (place e)), omega (arith, own, start_of-above (height + 1) (place e), pow_next height))

    target_is : (place e < start_of (height + 1) k + 2 ^ height) ⊎ (start_of (height + 1) k + 2 ^ height ≤ place e)
        → (home : ℕ) × IsMultiple home height × (home ≤ place e) × (place e < home + 2 ^ height)
        × (target_of height k lower (place e) ≡ home + length (block_of place height home (take k source)))
    target_is (inl low) = (
      start_of (height + 1) k,
      first_half (start_of (height + 1) k) height (start_of-multiple (height + 1) k),
      in_start.0,
      low,
      cond-true _ _ _ (lt-ltb _ _ low) ∙ ap (λ n. start_of (height + 1) k + n) moved.counted,
    )
    target_is (inr high) = (
      start_of (height + 1) k + 2 ^ height,
      second_half (start_of (height + 1) k) height (start_of-multiple (height + 1) k),
      high,
      in_start.1,
      cond-false _ _ _ (le-ltb _ _ high) ∙ ap (λ n. start_of (height + 1) k + 2 ^ height + n)
          (let rest : k - start_of (height + 1) k - lower ≡ length (block_of place height (start_of (height + 1) k + 2 ^ height) (take k source)) =
          omega (arith, second_of height each above k moved.within, moved.counted) in rest),
    )

    lower_is : (start_of (height + 1) (k + 1) ≡ k + 1) ⊎ (start_of (height + 1) (k + 1) ≡ k + 1 → ⊥)
        → lower_after height k lower (place e) ≡ length (block_of place height (start_of (height + 1) (k + 1)) (take (k + 1) source))
    lower_is (inl ends) = cond-true _ _ _ (eq-eqb _ _ ends) ∙ omega (arith, second_of height each above (k + 1) (omega arith), ends)
    lower_is (inr goes_on) =
        let low = start_of-le (height + 1) (k + 1) in
        let high = start_of-above (height + 1) (k + 1) in
        let same : start_of (height + 1) k ≡ start_of (height + 1) (k + 1) =
        start_of_is k (start_of-multiple (height + 1) (k + 1)) (omega (arith, goes_on)) (omega arith) in
        let old = block_of place height (start_of (height + 1) k) (take k source) in
        let grown : block_of place height (start_of (height + 1) k) (take (k + 1) source)
        ≡ old ++ cond (is_in_block place height (start_of (height + 1) k) e) (e ∷ []) [] =
        filter_more (is_in_block place height (start_of (height + 1) k)) source k d inside
        ∙ ap (λ x. old ++ cond (is_in_block place height (start_of (height + 1) k) x) (x ∷ []) []) read in
        cond-false _ _ _ (ne_eqb _ _ goes_on)
        ∙ elim (cases_lt (place e) (start_of (height + 1) k + 2 ^ height)) [
          | inl first ↦
              cond-true _ _ _ (lt-ltb _ _ first) ∙ ap (λ n. n + 1) moved.counted ∙ sym (length-append old (e ∷ []))
              ∙ ap (λ b. length (old ++ cond b (e ∷ []) [])) (sym (in_block height (start_of (height + 1) k) e in_start.0 first))
          | inr second ↦
              cond-false _ _ _ (le-ltb _ _ second) ∙ moved.counted ∙ ap length (sym (append-nil old))
              ∙ ap (λ b. length (old ++ cond b (e ∷ []) [])) (sym (not_in_block height (start_of (height + 1) k) e (inr second)))
        ]
        ∙ ap length (sym grown) ∙ ap (λ s. length (block_of place height s (take (k + 1) source))) same

    pub target_within : target_of height k lower (place e) < length source
    target_within =
        let goes = target_is (cases_lt (place e) (start_of (height + 1) k + 2 ^ height)) in
        omega (arith, goes.4, has_room height each above moved inside e d read goes.0 goes.1 goes.2 goes.3, above.as_many)

    -- the entry was written there
    pub IsMoved-next : IsMoved place source (set target (target_of height k lower (place e)) e) height (k + 1) (lower_after height k lower (place e))
    IsMoved-next =
        let goes = target_is (cases_lt (place e) (start_of (height + 1) k + 2 ^ height)) in
        record {
          long = length-set target (target_of height k lower (place e)) e ∙ moved.long;
          within = omega arith;
          moved = moved_next height each above moved inside e d read goes.0 goes.1 goes.2 goes.3 (target_of height k lower (place e)) goes.4;
          counted = lower_is (cases_eq (start_of (height + 1) (k + 1)) (k + 1));
        }
