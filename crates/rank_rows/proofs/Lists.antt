-- Lists of places, and sums over them.
use Rattle.std.proofs.Common.{◌≡◌, ℕ, zero, suc, ◌+◌, ◌<◌, ◌≤◌, ◌==◌, cond, List, length, map, take, sym, ap, ◌∙◌, arith}
use Rattle.std.specs.Prelude.{sum_by, sum, slice_range}
use Rattle.std.specs.List.{range_with_len}
use Rattle.std.proofs.lemmas.Bool.Decides.{nat_tests}
use Rattle.std.proofs.lemmas.List.Sums.{sum_by-append, sum_by_more}
use Rattle.std.proofs.lemmas.List.FromFn.{take-map-range_with_len, sum_by-map-range_with_len_more}
use Rattle.row_blocks.proofs.Lists.{take-split}
use Rattle.rank_rows.specs.Totals.{total}
use Rattle.rank_rows.specs.Words.{weight_at}
use Rattle.rank_rows.specs.Ranked.{how_many}
use Rattle.rank_rows.proofs.Sums.{total-none, total-more}

-- the sum between two places
sum_by-between : {A : Type 0} (f : A → ℕ) (xs : List A) (a b : ℕ) → a ≤ b → sum_by f (slice_range xs a b) + sum_by f (take a xs) ≡ sum_by f (take b xs)
sum_by-between f xs a b le = omega (arith, ap (sum_by f) (take-split xs a b le), sum_by-append f (take a xs) (slice_range xs a b))

module _ (f : ℕ → ℕ) (small : (k : ℕ) → f k < 2) where
  ones_in : (n : ℕ) → how_many (map (λ k. f k == 1) (range_with_len 0 n)) ≡ total f n
  ones_in zero = sym (total-none f)
  ones_in (suc n) =
      let one : suc n ≡ n + 1 = omega arith in
      ap (λ m. how_many (map (λ k. f k == 1) (range_with_len 0 m))) one
      ∙ sum_by-map-range_with_len_more (λ bit. cond bit 1 0) (λ k. f k == 1) 0 n n (omega arith)
      ∙ sym (ap (total f) one ∙ (let is = counts (f n) (small n) in omega (arith, is, total-more f n, ones_in n)))
    where
      counts : (v : ℕ) → v < 2 → cond (v == 1) 1 0 ≡ v
      counts v low = grind (arith, nat_tests)

  zeros_in : (n : ℕ) → how_many (map (λ k. f k == 0) (range_with_len 0 n)) + total f n ≡ n
  zeros_in zero = omega (arith, total-none f)
  zeros_in (suc n) =
      let one : suc n ≡ n + 1 = omega arith in
      omega (
        arith,
        ap (λ m. how_many (map (λ k. f k == 0) (range_with_len 0 m))) one
            ∙ sum_by-map-range_with_len_more (λ bit. cond bit 1 0) (λ k. f k == 0) 0 n n (omega arith),
        ap (total f) one ∙ total-more f n,
        counts (f n) (small n),
        zeros_in n,
      )
    where
      counts : (v : ℕ) → v < 2 → cond (v == 0) 1 0 + v ≡ 1
      counts v low = grind (arith, nat_tests)

  pub how_many-ones : (n a b : ℕ) → a ≤ b → b ≤ n → how_many (slice_range (map (λ k. f k == 1) (range_with_len 0 n)) a b) + total f a ≡ total f b
  how_many-ones n a b le within =
      omega (
        arith,
        sum_by-between (λ bit. cond bit 1 0) (map (λ k. f k == 1) (range_with_len 0 n)) a b le,
        ap how_many (take-map-range_with_len (λ k. f k == 1) 0 n a (omega arith)),
        ap how_many (take-map-range_with_len (λ k. f k == 1) 0 n b within),
        ones_in a,
        ones_in b,
      )

  pub how_many-zeros : (n a b : ℕ) → a ≤ b → b ≤ n → how_many (slice_range (map (λ k. f k == 0) (range_with_len 0 n)) a b) + total f b + a ≡ b + total f a
  how_many-zeros n a b le within =
      omega (
        arith,
        sum_by-between (λ bit. cond bit 1 0) (map (λ k. f k == 0) (range_with_len 0 n)) a b le,
        ap how_many (take-map-range_with_len (λ k. f k == 0) 0 n a (omega arith)),
        ap how_many (take-map-range_with_len (λ k. f k == 0) 0 n b within),
        zeros_in a,
        zeros_in b,
      )

-- the weights between two places
sum_in : (xs : List ℕ) (n : ℕ) → n ≤ length xs → sum (take n xs) ≡ total (weight_at xs) n
sum_in xs zero within = sym (total-none (weight_at xs))
sum_in xs (suc n) within =
    let one : suc n ≡ n + 1 = omega arith in
    omega (
      arith,
      ap (λ m. sum (take m xs)) one,
      sum_by_more (λ x. x) xs n 0 (omega arith),
      ap (total (weight_at xs)) one ∙ total-more (weight_at xs) n,
      sum_in xs n (omega arith),
    )

pub sum-between : (xs : List ℕ) (a b : ℕ) → a ≤ b → b ≤ length xs → sum (slice_range xs a b) + total (weight_at xs) a ≡ total (weight_at xs) b
sum-between xs a b le within = omega (arith, sum_by-between (λ x. x) xs a b le, sum_in xs a (omega arith), sum_in xs b within)
