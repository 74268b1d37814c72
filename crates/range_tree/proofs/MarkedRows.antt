-- A point that dies is taken out of each row: where it stands in the next one, and what a row has afterwards.
use Rattle.std.proofs.Common.{◌≡◌, ◌≢◌, ℕ, ◌+◌, ◌-◌, ◌*◌, ◌^◌, ◌<◌, ◌≤◌, ◌⊎◌, inl, inr, Bool, true, false, cond, nat_le, List, ◌∷◌, ◌++◌, length, length-append, length-take, length-drop, take, drop, map, set, get_or, min, Some, slice_get, slice_range, take-append-drop, refl, sym, ap, ◌∙◌, subst, arith}
use Rattle.std.specs.List.{filter, count_by}
use Rattle.std.proofs.Math.Nat.{mul-le-mul_right}
use Rattle.std.proofs.lemmas.Bool.{cases_lt, cases_eq}
use Rattle.std.proofs.lemmas.Bool.Decides.{nat_tests}
use Rattle.std.proofs.lemmas.List.{take-take, length-map, length-set, get_or-map, get_or-set_same, get_or-set_other, get_or_at, same_lists, drop_more, drop-set-lt, drop-set-add, take-set-le}
use Rattle.std.proofs.lemmas.List.Elements.{filter-append, filter_passes, All-take}
use Rattle.std.proofs.lemmas.Option.{slice_get-get_or}
use Rattle.std.proofs.lemmas.List.Sums.{length-filter, count_by_more_yes, sum_by-take-le}
use Rattle.row_blocks.specs.Blocks.{IsMultiple, start_of}
use Rattle.row_blocks.specs.Partitions.{block_of, is_in_block, HasEachPlace, IsInBlocks}
use Rattle.row_blocks.proofs.Blocks.{pow_next, first_half, second_half}
use Rattle.row_blocks.proofs.Lists.{length-slice_range, get_or-slice_range, filter_all, filter-filter}
use Rattle.row_blocks.proofs.Partitioning.{start_of-le, start_of-above, start_of-multiple, length-block_of, in_block, from_in_block, own_block, block_of-row}
use Rattle.rank_rows.specs.Ranked.{Ranked, place_at, marked}
use Rattle.map_shapes.specs.declared.point.Point.{Point}
use Rattle.range_tree.specs.Tree.{IsRow, is_second, is_live_at, weight_of}
use Rattle.range_tree.proofs.Images.{second_count}
use Rattle.range_tree.proofs.RowSlices.{bit_tells, length-halves}

-- ---- one entry for each place

-- two entries that pass are two
two_pass : (test : ℕ → Bool) (xs : List ℕ) (i j : ℕ) → i < j → j < length xs → test (get_or xs i 0) ≡ true → test (get_or xs j 0) ≡ true → 2 ≤ count_by test xs
two_pass test xs i j less inside first second =
    let shorter : take (i + 1) (take j xs) ≡ take (i + 1) xs = take-take (i + 1) j xs (omega arith) in
    omega (
      arith,
      count_by_more_yes test xs i 0 (omega arith) first,
      count_by_more_yes test xs j 0 inside second,
      sum_by-take-le (λ x. cond (test x) 1 0) (take j xs) (i + 1),
      ap (count_by test) shorter,
      sum_by-take-le (λ x. cond (test x) 1 0) xs (j + 1),
    )

module _ (places row : List ℕ) (h : ℕ) (each : HasEachPlace (λ p. p) places) (cut : IsInBlocks (λ p. p) places h row) where
  -- a place has one entry
  once : (p : ℕ) → p < length places → length (block_of (λ p. p) 0 p row) ≡ 1
  once p inside =
      let s = start_of h p in
      let own : ℕ → Bool = is_in_block (λ p. p) 0 p in
      let block : ℕ → Bool = is_in_block (λ p. p) h s in
      let weaker : (x : ℕ) → own x ≡ true → block x ≡ true =
      λ x is. let both = from_in_block (λ p. p) 0 p x is in
      in_block (λ p. p) h s x (omega (arith, both.0, start_of-le h p)) (omega (arith, both.1, start_of-above h p)) in
      let same : filter own row ≡ filter own places =
      sym (filter-filter own block weaker row) ∙ ap (filter own) (block_of-row (λ p. p) cut s (start_of-multiple h p) (omega (arith, start_of-le h p)))
      ∙ filter-filter own block weaker places in
      omega (arith, ap length same, length-block_of (λ p. p) places 0 p each)

  pub unique_place : (p : ℕ) → p < length places → (i j : ℕ) → i < length row → j < length row → get_or row i 0 ≡ p → get_or row j 0 ≡ p → i ≡ j
  unique_place p inside i j first second at there = by (cases_lt i j) (cases_lt j i)
    where
      passes : (x : ℕ) → x ≡ p → is_in_block (λ p. p) 0 p x ≡ true
      passes x is = in_block (λ p. p) 0 p x (omega arith) (omega arith)

      one : count_by (is_in_block (λ p. p) 0 p) row ≡ 1
      one = sym (length-filter (is_in_block (λ p. p) 0 p) row) ∙ once p inside

      by : (i < j) ⊎ (j ≤ i) → (j < i) ⊎ (i ≤ j) → i ≡ j
      by (inl less) _ = absurd (omega (arith, one, two_pass (is_in_block (λ p. p) 0 p) row i j less second (passes (get_or row i 0) at) (passes (get_or row j 0) there)))
      by (inr from) (inl more) = absurd (omega (arith, one, two_pass (is_in_block (λ p. p) 0 p) row j i more first (passes (get_or row j 0) there) (passes (get_or row i 0) at)))
      by (inr from) (inr up_to) = omega arith

-- ---- one entry of a row is written

module _ {A : Type 0} (xs : List A) (f f' : ℕ → A) (row : List ℕ) (lo k : ℕ) (a : A) (is : slice_range xs (lo + 0) (lo + length row) ≡ map f row)
    (inside : k < length row) (own : f' (get_or row k 0) ≡ a) (others : (i : ℕ) → i < length row → i ≢ k → f' (get_or row i 0) ≡ f (get_or row i 0)) where
  whole_row : lo + length row ≤ length xs
  whole_row =
      omega (
        arith,
        inside,
        ap length is,
        length-map row f,
        length-take (lo + length row - (lo + 0)) (drop (lo + 0) xs),
        length-drop (lo + 0) xs,
      )

  pub row_written : slice_range (set xs (lo + k) a) (lo + 0) (lo + length row) ≡ map f' row
  row_written =
      same_lists (slice_range (set xs (lo + k) a) (lo + 0) (lo + length row)) (map f' row)
      (omega (arith, whole_row, length-set xs (lo + k) a, length-slice_range (set xs (lo + k) a) (lo + 0) (lo + length row) (omega arith) (omega (arith, whole_row, length-set xs (lo + k) a)), length-map row f'))
      (λ i d less.
      let within : i < length row =
      omega (arith, less, whole_row, length-set xs (lo + k) a, length-slice_range (set xs (lo + k) a) (lo + 0) (lo + length row) (omega arith) (omega (arith, whole_row, length-set xs (lo + k) a))) in
      let short : i < lo + length row - (lo + 0) = omega arith in
      get_or-slice_range (set xs (lo + k) a) (lo + 0) (lo + length row) i d short ∙ at i d within (cases_eq i k) ∙ sym (get_or-map f' row i 0 d within))
    where
      at : (i : ℕ) (d : A) → i < length row → (i ≡ k) ⊎ (i ≢ k) → get_or (set xs (lo + k) a) (lo + 0 + i) d ≡ f' (get_or row i 0)
      at i d within (inl same) =
          let there : lo + 0 + i ≡ lo + k = omega arith in
          ap (λ j. get_or (set xs (lo + k) a) j d) there ∙ get_or-set_same xs (lo + k) a d (omega (arith, whole_row)) ∙ sym own
          ∙ ap (λ j. f' (get_or row j 0)) (sym same)
      at i d within (inr other) =
          let apart : lo + 0 + i ≢ lo + k = omega arith in
          let short : i < lo + length row - (lo + 0) = omega arith in
          get_or-set_other xs (lo + k) (lo + 0 + i) a d apart ∙ sym (get_or-slice_range xs (lo + 0) (lo + length row) i d short)
          ∙ ap (λ l. get_or l i d) is ∙ get_or-map f row i 0 d within ∙ sym (others i within other)

-- and one is read
module _ {A : Type 0} (xs : List A) (f : ℕ → A) (row : List ℕ) (lo k : ℕ) (is : slice_range xs (lo + 0) (lo + length row) ≡ map f row) (inside : k < length row) where
  pub row_inside : lo + length row ≤ length xs
  row_inside =
      omega (
        arith,
        inside,
        ap length is,
        length-map row f,
        length-take (lo + length row - (lo + 0)) (drop (lo + 0) xs),
        length-drop (lo + 0) xs,
      )

  pub row_get : (d : A) → get_or xs (lo + k) d ≡ f (get_or row k 0)
  row_get d =
      let short : k < lo + length row - (lo + 0) = omega arith in
      let there : lo + k ≡ lo + 0 + k = omega arith in
      ap (λ i. get_or xs i d) there ∙ sym (get_or-slice_range xs (lo + 0) (lo + length row) k d short) ∙ ap (λ l. get_or l k d) is ∙ get_or-map f row k 0 d inside

  pub row_read : (d : A) → slice_get xs (lo + k) ≡ Some (f (get_or row k 0))
  row_read d = slice_get-get_or xs (lo + k) d (omega (arith, row_inside)) ∙ ap Some (row_get d)

-- other slices stay
pub slice_kept : {A : Type 0} (xs : List A) (j lo hi : ℕ) (a : A) → (j < lo) ⊎ (hi ≤ j) → slice_range (set xs j a) lo hi ≡ slice_range xs lo hi
slice_kept xs j lo hi a (inl before) = ap (take (hi - lo)) (drop-set-lt lo xs j a before)
slice_kept xs j lo hi a (inr behind) = elim (cases_lt j lo) [
  | inl before ↦ ap (take (hi - lo)) (drop-set-lt lo xs j a before)
  | inr from ↦
      let there : lo + (j - lo) ≡ j = omega arith in
      let far : hi - lo ≤ j - lo = omega arith in
      ap (λ i. take (hi - lo) (drop lo (set xs i a))) (sym there) ∙ ap (take (hi - lo)) (drop-set-add lo xs (j - lo) a) ∙ take-set-le (hi - lo) (drop lo xs) (j - lo) a far
]

module _ (points : List Point) (flags : List Bool) (ranks : Ranked) (q k : ℕ) where
  -- another row
  pub IsRow-other : (fs : List Bool) (height r : ℕ) (row : List ℕ) → r ≢ q → length row ≤ 64 * ranks.stride → k < 64 * ranks.stride → IsRow points fs height r row ranks
      → IsRow points fs height r row (marked q k ranks)
  IsRow-other fs height r row other long inside is = record {
    second = is.second;
    live = slice_kept ranks.live (place_at ranks q k) (place_at ranks r 0) (place_at ranks r (length row)) false (by (cases_lt r q)) ∙ is.live;
    weights = slice_kept ranks.weights (place_at ranks q k) (place_at ranks r 0) (place_at ranks r (length row)) 0 (by (cases_lt r q)) ∙ is.weights;
  }
    where
      by : (r < q) ⊎ (q ≤ r) → (place_at ranks q k < place_at ranks r 0) ⊎ (place_at ranks r (length row) ≤ place_at ranks q k)
      by (inl before) =
          let le : (r + 1) * ranks.stride ≤ q * ranks.stride = mul-le-mul_right ranks.stride (omega arith) in
          let behind : place_at ranks r (length row) ≤ place_at ranks q k = omega arith in inr behind
      by (inr from) =
          let le : (q + 1) * ranks.stride ≤ r * ranks.stride = mul-le-mul_right ranks.stride (omega arith) in
          let ahead : place_at ranks q k < place_at ranks r 0 = omega arith in inl ahead

  -- the row itself
  pub IsRow-marked : (height place : ℕ) (row : List ℕ) → place < length flags → k < length row → get_or row k 0 ≡ place
      → ((i : ℕ) → i < length row → i ≢ k → get_or row i 0 ≢ place) → IsRow points flags height q row ranks → IsRow points (set flags place false) height q row (marked q k ranks)
  IsRow-marked height place row there inside at others is = record {
    second = is.second;
    live = row_written ranks.live (is_live_at flags) (is_live_at (set flags place false)) row (64 * (q * ranks.stride)) k false is.live inside dead
        (λ i within other. same (get_or row i 0) (others i within other));
    weights = row_written ranks.weights (λ p. cond (is_live_at flags p) (weight_of points p) 0) (λ p. cond (is_live_at (set flags place false) p) (weight_of points p) 0) row
        (64 * (q * ranks.stride)) k 0 is.weights inside (ap (λ b. cond b (weight_of points (get_or row k 0)) 0) dead)
        (λ i within other. ap (λ b. cond b (weight_of points (get_or row i 0)) 0) (same (get_or row i 0) (others i within other)));
  }
    where
      dead : is_live_at (set flags place false) (get_or row k 0) ≡ false
      dead = ap (λ p. get_or (set flags place false) p false) at ∙ get_or-set_same flags place false false there

      same : (p : ℕ) → p ≢ place → is_live_at (set flags place false) p ≡ is_live_at flags p
      same p other = get_or-set_other flags place p false false other

-- ---- where an entry stands in the next row

module _ (places row next : List ℕ) (j : ℕ) (cut : IsInBlocks (λ p. p) places (j + 1) row) (below : IsInBlocks (λ p. p) places j next) (k p : ℕ)
    (inside : k < length places) (at : get_or row k 0 ≡ p) (there : p < length places) where
  abbrev begin : ℕ
  begin = start_of (j + 1) k

  abbrev block : List ℕ
  block = block_of (λ x. x) (j + 1) (start_of (j + 1) k) places

  abbrev front : List ℕ
  front = take (k - start_of (j + 1) k) (block_of (λ x. x) (j + 1) (start_of (j + 1) k) places)

  own_is : start_of (j + 1) p ≡ start_of (j + 1) k
  own_is = ap (start_of (j + 1)) (sym at) ∙ own_block (λ x. x) cut k 0 (omega (arith, cut.as_many))

  block_is : slice_range row begin (min (begin + 2 ^ (j + 1)) (length places)) ≡ block
  block_is = cut.blocks begin (start_of-multiple (j + 1) k) (omega (arith, start_of-le (j + 1) k))

  long : length block ≡ min (begin + 2 ^ (j + 1)) (length places) - begin
  long =
      let low = start_of-le (j + 1) k in
      omega (
        arith,
        ap length block_is,
        length-slice_range row begin (min (begin + 2 ^ (j + 1)) (length places)) (omega arith) (omega (arith, cut.as_many)),
      )

  -- the entries of its block before it
  pub front_is : slice_range row begin k ≡ front
  front_is =
      let high = start_of-above (j + 1) k in
      let low = start_of-le (j + 1) k in
      let end = min (begin + 2 ^ (j + 1)) (length places) in
      sym (take-take (k - begin) (end - begin) (drop begin row) (omega arith)) ∙ ap (take (k - begin)) block_is

  front_inside : block_of (λ x. x) (j + 1) begin front ≡ front
  front_inside =
      filter_all (is_in_block (λ x. x) (j + 1) begin) front
      (All-take (λ x. is_in_block (λ y. y) (j + 1) (start_of (j + 1) k) x ≡ true) (k - begin) block (filter_passes (is_in_block (λ x. x) (j + 1) begin) places))

  front_long : length front ≡ k - begin
  front_long = let high = start_of-above (j + 1) k in let low = start_of-le (j + 1) k in omega (arith, length-take (k - begin) block, long)

  -- how many of these go into the second half
  pub front_second : count_by (is_second (j + 1)) front ≡ length (block_of (λ x. x) j (begin + 2 ^ j) front)
  front_second =
      ap (count_by (is_second (j + 1))) (sym front_inside)
      ∙ second_count (λ x. x) (is_second (j + 1)) j begin (bit_tells j begin (start_of-multiple (j + 1) k)) front

  pub front_halves : length (block_of (λ x. x) j begin front) + length (block_of (λ x. x) j (begin + 2 ^ j) front) ≡ k - begin
  front_halves = omega (arith, length-halves j begin front, ap length front_inside, front_long)

  here : get_or block (k - begin) 0 ≡ p
  here =
      let high = start_of-above (j + 1) k in
      let low = start_of-le (j + 1) k in
      let end = min (begin + 2 ^ (j + 1)) (length places) in
      let short : k - begin < end - begin = omega arith in
      let spot : begin + (k - begin) ≡ k = omega arith in
      ap (λ l. get_or l (k - begin) 0) (sym block_is) ∙ get_or-slice_range row begin end (k - begin) 0 short ∙ ap (λ i. get_or row i 0) spot ∙ at

  -- in a half of its block as many stand before it
  pub half_at : (t : ℕ) → IsMultiple t j → begin ≤ t → t + 2 ^ j ≤ begin + 2 ^ (j + 1) → is_in_block (λ x. x) j t p ≡ true
      → (t + length (block_of (λ x. x) j t front) < length places) × (get_or next (t + length (block_of (λ x. x) j t front)) 0 ≡ p)
  half_at t multiple low high has =
      let both = from_in_block (λ x. x) j t p has in
      let end = min (t + 2 ^ j) (length places) in
      let i = k - begin in
      let test : ℕ → Bool = is_in_block (λ x. x) j t in
      let u : List ℕ = filter test front in
      let v : List ℕ = filter test (drop (i + 1) block) in
      let below_k = start_of-le (j + 1) k in
      let above_k = start_of-above (j + 1) k in
      let split : block ≡ front ++ p ∷ drop (i + 1) block =
      sym (take-append-drop i block) ∙ ap (λ l. front ++ l) (drop_more block i 0 (omega (arith, long)) ∙ ap (λ x. x ∷ drop (i + 1) block) here) in
      let parted : filter test block ≡ u ++ p ∷ v =
      ap (filter test) split ∙ filter-append test front (p ∷ drop (i + 1) block) ∙ ap (λ b. u ++ cond b (p ∷ v) v) has in
      let weaker : (x : ℕ) → test x ≡ true → is_in_block (λ y. y) (j + 1) begin x ≡ true =
      λ x is. let ends = from_in_block (λ y. y) j t x is in in_block (λ y. y) (j + 1) begin x (omega (arith, ends.0)) (omega (arith, ends.1)) in
      let half : slice_range next t end ≡ u ++ p ∷ v =
      below.blocks t multiple (omega (arith, both.0)) ∙ sym (filter-filter test (is_in_block (λ y. y) (j + 1) begin) weaker places) ∙ parted in
      let short : length u < end - t =
      omega (arith, ap length half, length-append u (p ∷ v), length-slice_range next t end (omega (arith, both.0)) (omega (arith, below.as_many))) in
      (omega (arith, short), sym (get_or-slice_range next t end (length u) 0 short) ∙ ap (λ l. get_or l (length u) 0) half ∙ get_or_at u p v 0 (length u) refl)

  -- where the rank of its bit puts it
  pub next_at : (bit : Bool) (r : ℕ) → bit ≡ nat_le (begin + 2 ^ j) p → r ≡ count_by (is_second (j + 1)) (slice_range row begin k)
      → (cond bit (begin + 2 ^ j + r) (k - r) < length places) × (get_or next (cond bit (begin + 2 ^ j + r) (k - r)) 0 ≡ p)
  next_at bit r is ranked =
      let multiple = start_of-multiple (j + 1) k in
      let seconds : r ≡ length (block_of (λ x. x) j (begin + 2 ^ j) front) = ranked ∙ ap (count_by (is_second (j + 1))) front_is ∙ front_second in
      let first : is_in_block (λ x. x) j begin p ≡ true
      → (begin + length (block_of (λ x. x) j begin front) < length places) × (get_or next (begin + length (block_of (λ x. x) j begin front)) 0 ≡ p) =
      half_at begin (first_half begin j multiple) (omega arith) (omega (arith, pow_next j)) in
      let second : is_in_block (λ x. x) j (begin + 2 ^ j) p ≡ true
      → (begin + 2 ^ j + length (block_of (λ x. x) j (begin + 2 ^ j) front) < length places)
      × (get_or next (begin + 2 ^ j + length (block_of (λ x. x) j (begin + 2 ^ j) front)) 0 ≡ p) =
      half_at (begin + 2 ^ j) (second_half begin j multiple) (omega arith) (omega (arith, pow_next j)) in
      by bit is r seconds first second front_halves (omega (arith, own_is, start_of-le (j + 1) p)) (omega (arith, own_is, start_of-above (j + 1) p, pow_next j)) (start_of-le (j + 1) k)
    where
      by : (b : Bool) → b ≡ nat_le (begin + 2 ^ j) p → (r : ℕ) → r ≡ length (block_of (λ x. x) j (begin + 2 ^ j) front)
          → (is_in_block (λ x. x) j begin p ≡ true
          → (begin + length (block_of (λ x. x) j begin front) < length places) × (get_or next (begin + length (block_of (λ x. x) j begin front)) 0 ≡ p))
          → (is_in_block (λ x. x) j (begin + 2 ^ j) p ≡ true
          → (begin + 2 ^ j + length (block_of (λ x. x) j (begin + 2 ^ j) front) < length places)
          × (get_or next (begin + 2 ^ j + length (block_of (λ x. x) j (begin + 2 ^ j) front)) 0 ≡ p))
          → length (block_of (λ x. x) j begin front) + length (block_of (λ x. x) j (begin + 2 ^ j) front) ≡ k - begin
          → begin ≤ p → p < begin + 2 ^ j + 2 ^ j → begin ≤ k
          → (cond b (begin + 2 ^ j + r) (k - r) < length places) × (get_or next (cond b (begin + 2 ^ j + r) (k - r)) 0 ≡ p)
      by true is r seconds first second halves low high le =
          let from : begin + 2 ^ j ≤ p = grind (arith, nat_tests) in
          subst (λ n. (begin + 2 ^ j + n < length places) × (get_or next (begin + 2 ^ j + n) 0 ≡ p)) (sym seconds) (second (in_block (λ x. x) j (begin + 2 ^ j) p from high))
      by false is r seconds first second halves low high le =
          let before : p < begin + 2 ^ j = grind (arith, nat_tests) in
          let spot : k - r ≡ begin + length (block_of (λ x. x) j begin front) = omega (arith, seconds, halves, le) in
          subst (λ n. (n < length places) × (get_or next n 0 ≡ p)) (sym spot) (first (in_block (λ x. x) j begin p low before))
