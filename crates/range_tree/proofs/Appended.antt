-- Rows of which one more place is put.
use Rattle.std.proofs.Common.{◌≡◌, ℕ, ◌+◌, ◌-◌, ◌*◌, ◌/◌, ◌%◌, ◌^◌, ◌<◌, ◌≤◌, ◌==◌, ◌⊎◌, inl, inr, Bool, true, cond, nat_le, List, [], ◌∷◌, ◌++◌, length, length-append, length-take, take, drop, map, get_or, slice_range, refl, sym, ap, ap₂, ◌∙◌, arith}
use Rattle.std.specs.List.{count_by}
use Rattle.std.proofs.lemmas.Bool.{cases_lt}
use Rattle.std.proofs.lemmas.Bool.Decides.{nat_tests}
use Rattle.std.proofs.lemmas.Nat.{pow_pos, div-add-mod', mod_below}
use Rattle.std.proofs.lemmas.List.{take-append-le, take_more, drop_at, drop-take, map_push}
use Rattle.std.proofs.lemmas.List.Elements.{filter-append}
use Rattle.row_blocks.specs.Blocks.{start_of}
use Rattle.row_blocks.specs.Partitions.{is_in_block, block_of, HasEachPlace, IsInBlocks}
use Rattle.row_blocks.proofs.Blocks.{pow_next}
use Rattle.row_blocks.proofs.Lists.{take-split, length-slice_range, get_or-slice_range, filter_all}
use Rattle.row_blocks.proofs.Partitioning.{start_of-le, start_of-above, start_of-multiple, start_of_is, in_block, own_block, second_of}
use Rattle.rank_rows.specs.Ranked.{Ranked, place_at, with_place}
use Rattle.map_shapes.specs.declared.point.Point.{Point}
use Rattle.range_tree.specs.Tree.{IsRow, is_second, is_live_at, weight_of}
use Rattle.range_tree.proofs.Images.{second_count}
use Rattle.range_tree.proofs.RowSlices.{bit_tells, length-halves, slice_range-append}

-- ---- lists

-- neighbours that stand before the end stay as one more is put
pub slice_kept-push : {A : Type 0} (xs : List A) (x : A) (a b : ℕ) → a ≤ b → b ≤ length xs → slice_range (xs ++ x ∷ []) a b ≡ slice_range xs a b
slice_kept-push xs x a b ordered within =
    let there : a + (b - a) ≡ b = omega arith in
    sym (drop-take a (b - a) (xs ++ x ∷ [])) ∙ ap (λ n. drop a (take n (xs ++ x ∷ []))) there ∙ ap (drop a) (take-append-le b xs (x ∷ []) within)
    ∙ ap (λ n. drop a (take n xs)) (sym there) ∙ drop-take a (b - a) xs

-- and at the end it joins them
pub slice_more : {A : Type 0} (xs : List A) (x : A) (a b : ℕ) → a ≤ b → length xs ≡ b → slice_range (xs ++ x ∷ []) a (b + 1) ≡ slice_range xs a b ++ x ∷ []
slice_more xs x a b ordered end =
    let one : b + 1 - b ≡ 1 = omega arith in
    slice_range-append (xs ++ x ∷ []) a b (b + 1) ordered (omega arith)
    ∙ ap₂ (λ us vs. us ++ vs) (slice_kept-push xs x a b ordered (omega (arith, end)))
    (ap₂ (λ n l. take n l) one (drop_at xs (x ∷ []) b end))

-- the first entries of a row, and one more
pub row_more : {A : Type 0} (xs : List A) (f : ℕ → A) (row : List ℕ) (lo k : ℕ) (a : A) → slice_range xs (lo + 0) (lo + length (take k row)) ≡ map f (take k row)
    → k < length row → length xs ≡ lo + k → f (get_or row k 0) ≡ a → slice_range (xs ++ a ∷ []) (lo + 0) (lo + length (take (k + 1) row)) ≡ map f (take (k + 1) row)
row_more xs f row lo k a is inside end own =
    let short : length (take k row) ≡ k = omega (arith, length-take k row) in
    let long : lo + length (take (k + 1) row) ≡ lo + k + 1 = omega (arith, length-take (k + 1) row) in
    ap (λ n. slice_range (xs ++ a ∷ []) (lo + 0) n) long ∙ slice_more xs a (lo + 0) (lo + k) (omega arith) end
    ∙ ap₂ (λ n x. slice_range xs (lo + 0) (lo + n) ++ x ∷ []) (sym short) (sym own)
    ∙ ap (λ l. l ++ f (get_or row k 0) ∷ []) is ∙ sym (map_push f (take k row) (get_or row k 0)) ∙ ap (map f) (sym (take_more row k 0 inside))

-- ---- rows

module _ (points : List Point) (flags : List Bool) (height q : ℕ) (v : Ranked) (second : Bool) (weight : ℕ) where
  -- a row keeps its places
  pub IsRow-push : (row : List ℕ) → place_at v q (length row) ≤ length v.second → place_at v q (length row) ≤ length v.live → place_at v q (length row) ≤ length v.weights
      → IsRow points flags height q row v → IsRow points flags height q row (with_place second weight v)
  IsRow-push row seconds lives weights is = record {
    second = slice_kept-push v.second second (place_at v q 0) (place_at v q (length row)) (omega arith) seconds ∙ is.second;
    live = slice_kept-push v.live true (place_at v q 0) (place_at v q (length row)) (omega arith) lives ∙ is.live;
    weights = slice_kept-push v.weights weight (place_at v q 0) (place_at v q (length row)) (omega arith) weights ∙ is.weights;
  }

  -- and takes the next one
  pub IsRow-more : (row : List ℕ) (k : ℕ) → length v.second ≡ place_at v q k → length v.live ≡ place_at v q k → length v.weights ≡ place_at v q k → k < length row
      → is_second height (get_or row k 0) ≡ second → is_live_at flags (get_or row k 0) ≡ true → weight_of points (get_or row k 0) ≡ weight
      → IsRow points flags height q (take k row) v → IsRow points flags height q (take (k + 1) row) (with_place second weight v)
  IsRow-more row k seconds lives weights inside bit live own is = record {
    second = row_more v.second (is_second height) row (64 * (q * v.stride)) k second is.second inside seconds bit;
    live = row_more v.live (is_live_at flags) row (64 * (q * v.stride)) k true is.live inside lives live;
    weights = row_more v.weights (λ p. cond (is_live_at flags p) (weight_of points p) 0) row (64 * (q * v.stride)) k weight is.weights inside weights
        (ap (λ b. cond b (weight_of points (get_or row k 0)) 0) live ∙ own);
  }

-- ---- which half

-- the bit of a place's number tells its half
pub second_at : (j place : ℕ) → (place / 2 ^ j % 2 == 1) ≡ nat_le (start_of (j + 1) place + 2 ^ j) place
second_at j place = by (cases_lt (q % 2) 1)
  where
    q : ℕ
    q = place / 2 ^ j

    parts : q * 2 ^ j + place % 2 ^ j ≡ place
    parts = div-add-mod' place (2 ^ j)

    rest : place % 2 ^ j < 2 ^ j
    rest = mod_below place (2 ^ j) (pow_pos j)

    halves : (q / 2) * 2 ^ (j + 1) ≡ (q / 2) * 2 ^ j + (q / 2) * 2 ^ j
    halves = omega (arith, ap (λ x. (q / 2) * x) (pow_next j))

    block : (r : ℕ) → q ≡ 2 * (q / 2) + r → q * 2 ^ j ≡ (q / 2) * 2 ^ j + (q / 2) * 2 ^ j + r * 2 ^ j
    block r is = omega (arith, ap (λ x. x * 2 ^ j) is)

    start : (q / 2) * 2 ^ (j + 1) ≤ place → place < (q / 2) * 2 ^ (j + 1) + 2 ^ (j + 1) → start_of (j + 1) place ≡ (q / 2) * 2 ^ (j + 1)
    start above below = start_of_is place (record { times = q / 2; is = refl }) above below

    first : (a p m : ℕ) (r : ℕ) → r ≡ 0 → p < a + m → (r == 1) ≡ nat_le (a + m) p
    first a p m r is less = grind (arith, nat_tests)

    second : (a p m : ℕ) (r : ℕ) → r ≡ 1 → a + m ≤ p → (r == 1) ≡ nat_le (a + m) p
    second a p m r is more = grind (arith, nat_tests)

    by : (q % 2 < 1) ⊎ (1 ≤ q % 2) → (q % 2 == 1) ≡ nat_le (start_of (j + 1) place + 2 ^ j) place
    by (inl even) =
        let b = block 0 (omega arith) in
        let s = start (omega (arith, parts, halves, b)) (omega (arith, parts, rest, halves, b, pow_next j)) in
        first (start_of (j + 1) place) place (2 ^ j) (q % 2) (omega arith) (omega (arith, parts, rest, halves, b, s))
    by (inr odd) =
        let b = block 1 (omega arith) in
        let s = start (omega (arith, parts, halves, b)) (omega (arith, parts, rest, halves, b, pow_next j)) in
        second (start_of (j + 1) place) place (2 ^ j) (q % 2) (omega arith) (omega (arith, parts, halves, b, s))

-- those of its block before an entry are in the two halves
pub seconds_before : (whole row : List ℕ) (j k : ℕ) → HasEachPlace (λ p. p) whole → IsInBlocks (λ p. p) whole (j + 1) row → k < length row
    → count_by (is_second (j + 1)) (slice_range row (start_of (j + 1) k) k) + length (block_of (λ p. p) j (start_of (j + 1) k) (take k row)) ≡ k - start_of (j + 1) k
seconds_before whole row j k each above inside =
    let s = start_of (j + 1) k in
    let low = start_of-le (j + 1) k in
    let high = start_of-above (j + 1) k in
    let part : List ℕ = slice_range row s k in
    let long : length part ≡ k - s = length-slice_range row s k low (omega arith) in
    let all : block_of (λ p. p) (j + 1) s part ≡ part =
    filter_all (is_in_block (λ p. p) (j + 1) s) part
    (λ i d below.
    let own = own_block (λ p. p) above (s + i) d (omega arith) in
    let here : start_of (j + 1) (s + i) ≡ s = start_of_is (s + i) (start_of-multiple (j + 1) k) (omega arith) (omega arith) in
    let read = get_or-slice_range row s k i d (omega arith) in
    in_block (λ p. p) (j + 1) s (get_or part i d)
    (omega (arith, read, own, here, start_of-le (j + 1) (get_or row (s + i) d)))
    (omega (arith, read, own, here, start_of-above (j + 1) (get_or row (s + i) d)))) in
    let counted : count_by (is_second (j + 1)) part ≡ length (block_of (λ p. p) j (s + 2 ^ j) part) =
    ap (count_by (is_second (j + 1))) (sym all) ∙ second_count (λ p. p) (is_second (j + 1)) j s (bit_tells j s (start_of-multiple (j + 1) k)) part in
    let more : (start : ℕ) → length (block_of (λ p. p) j start (take k row)) ≡ length (block_of (λ p. p) j start (take s row)) + length (block_of (λ p. p) j start part) =
    λ start. ap (λ l. length (block_of (λ p. p) j start l)) (take-split row s k low) ∙ ap length (filter-append (is_in_block (λ p. p) j start) (take s row) part)
    ∙ length-append (block_of (λ p. p) j start (take s row)) (block_of (λ p. p) j start part) in
    omega (
      arith,
      counted,
      long,
      ap length all,
      length-halves j s part,
      more s,
      more (s + 2 ^ j),
      second_of (λ p. p) j each above k (let le : k ≤ length row = omega arith in le),
    )
