-- Rows in blocks by ranks (Chazelle 1988): where the first entries of a list stand in a block of a row, and in the halves of that block.
use Rattle.std.proofs.Common.{◌≡◌, ℕ, ◌+◌, ◌-◌, ◌^◌, ◌<◌, ◌≤◌, ◌&&◌, Bool, true, false, cond, List, [], ◌∷◌, length, length-take, take, drop, min, slice_range, nat_le, nat_lt, refl, sym, ap, ◌∙◌, arith, take-append-drop}
use Rattle.std.specs.List.{filter, count_by}
use Rattle.std.proofs.lemmas.Bool.Decides.{nat_tests}
use Rattle.std.proofs.lemmas.List.{take-take}
use Rattle.std.proofs.lemmas.List.Elements.{filter-append}
use Rattle.std.proofs.lemmas.List.Sums.{sum_by-cons}
use Rattle.std.proofs.Math.Seq.{take-append_seam}
use Rattle.row_blocks.specs.Blocks.{IsMultiple}
use Rattle.row_blocks.specs.Partitions.{block_of, is_in_block, IsInBlocks}
use Rattle.row_blocks.proofs.Blocks.{pow_next}
use Rattle.row_blocks.proofs.Lists.{length-filter-take-le}

module _ {T : Type 0} (place : T → ℕ) where
  -- behind the first n entries of a list, in the block that begins here
  abbrev pub image_of : List T → (height start n : ℕ) → ℕ
  image_of whole height start n = start + length (block_of place height start (take n whole))

  -- what a test keeps of a front is a front of what it keeps
  pub front-filter : (p : T → Bool) (xs : List T) (n : ℕ) → take (length (filter p (take n xs))) (filter p xs) ≡ filter p (take n xs)
  front-filter p xs n =
      ap (λ ys. take (length (filter p (take n xs))) (filter p ys)) (sym (take-append-drop n xs))
      ∙ ap (take (length (filter p (take n xs)))) (filter-append p (take n xs) (drop n xs))
      ∙ take-append_seam (filter p (take n xs)) (filter p (drop n xs))

  -- what one entry counts for
  abbrev one : Bool → ℕ
  one b = cond b 1 0

  -- each entry of a block is in one half of it
  one_half : (a p half long : ℕ) → long ≡ half + half → one (nat_le a p && nat_lt p (a + long))
      ≡ one (nat_le a p && nat_lt p (a + half)) + one (nat_le (a + half) p && nat_lt p (a + half + half))
  one_half a p half long twice = grind (arith, nat_tests)

  pub count_halves : (height start : ℕ) (xs : List T)
      → count_by (is_in_block place (height + 1) start) xs
      ≡ count_by (is_in_block place height start) xs + count_by (is_in_block place height (start + 2 ^ height)) xs
  count_halves height start [] = refl
  count_halves height start (x ∷ xs) =
      omega (
        arith,
        sum_by-cons (λ y. one (is_in_block place (height + 1) start y)) x xs,
        sum_by-cons (λ y. one (is_in_block place height start y)) x xs,
        sum_by-cons (λ y. one (is_in_block place height (start + 2 ^ height) y)) x xs,
        one_half start (place x) (2 ^ height) (2 ^ (height + 1)) (pow_next height),
        count_halves height start xs,
      )

  longer : (b : Bool) (x : T) (xs : List T) → length (cond b (x ∷ xs) xs) ≡ one b + length xs
  longer true x xs = omega arith
  longer false x xs = omega arith

  -- and those of its second half by any test that tells the halves of the block apart
  module _ (second : T → Bool) (height start : ℕ)
      (tells : (x : T) → is_in_block place (height + 1) start x ≡ true → second x ≡ nat_le (start + 2 ^ height) (place x)) where
    within : (p half long : ℕ) → long ≡ half + half → (nat_le start p && nat_lt p (start + long)) ≡ true
        → one (nat_le (start + half) p) ≡ one (nat_le (start + half) p && nat_lt p (start + half + half))
    within p half long twice is = grind (arith, nat_tests)

    without : (p half long : ℕ) → long ≡ half + half → (nat_le start p && nat_lt p (start + long)) ≡ false
        → one (nat_le (start + half) p && nat_lt p (start + half + half)) ≡ 0
    without p half long twice is = grind (arith, nat_tests)

    second_inside : (x : T) → is_in_block place (height + 1) start x ≡ true → one (second x) ≡ one (is_in_block place height (start + 2 ^ height) x)
    second_inside x is = ap one (tells x is) ∙ within (place x) (2 ^ height) (2 ^ (height + 1)) (pow_next height) is

    second_outside : (x : T) → is_in_block place (height + 1) start x ≡ false → one (is_in_block place height (start + 2 ^ height) x) ≡ 0
    second_outside x is = without (place x) (2 ^ height) (2 ^ (height + 1)) (pow_next height) is

    pub second_count : (xs : List T) → count_by second (block_of place (height + 1) start xs) ≡ length (block_of place height (start + 2 ^ height) xs)
    second_count [] = refl
    second_count (x ∷ xs) = by (second_count xs) (is_in_block place (height + 1) start x) refl
      where
        by : count_by second (block_of place (height + 1) start xs) ≡ length (block_of place height (start + 2 ^ height) xs)
            → (inside : Bool) → is_in_block place (height + 1) start x ≡ inside
            → count_by second (cond inside (x ∷ block_of place (height + 1) start xs) (block_of place (height + 1) start xs))
            ≡ length (cond (is_in_block place height (start + 2 ^ height) x) (x ∷ block_of place height (start + 2 ^ height) xs) (block_of place height (start + 2 ^ height) xs))
        by before true is =
            omega (
              arith,
              sum_by-cons (λ y. one (second y)) x (block_of place (height + 1) start xs),
              second_inside x is,
              before,
              longer (is_in_block place height (start + 2 ^ height) x) x (block_of place height (start + 2 ^ height) xs),
            )
        by before false is =
            omega (
              arith,
              second_outside x is,
              before,
              longer (is_in_block place height (start + 2 ^ height) x) x (block_of place height (start + 2 ^ height) xs),
            )

    -- rank: so many of a block before the image of a front go into its second half
    pub rank-front : (whole row : List T) (n : ℕ) → IsInBlocks place whole (height + 1) row → IsMultiple start (height + 1) → start < length whole
        → count_by second (slice_range row start (image_of whole (height + 1) start n)) ≡ length (block_of place height (start + 2 ^ height) (take n whole))
    rank-front whole row n blocks multiple inside =
        let front = block_of place (height + 1) start (take n whole) in
        let m = length front in
        let end = min (start + 2 ^ (height + 1)) (length whole) in
        let block = blocks.blocks start multiple inside in
        let few : m ≤ end - start =
        omega (arith, length-filter-take-le (is_in_block place (height + 1) start) whole n, ap length block, length-take (end - start) (drop start row)) in
        let same : start + m - start ≡ m = omega arith in
        ap (λ k. count_by second (take k (drop start row))) same ∙ ap (count_by second) (sym (take-take m (end - start) (drop start row) few))
        ∙ ap (λ ys. count_by second (take m ys)) block ∙ ap (count_by second) (front-filter (is_in_block place (height + 1) start) whole n) ∙ second_count (take n whole)
