-- A point that is followed down the rows.
use Rattle.std.proofs.Common.{◌≡◌, ℕ, ◌+◌, ◌-◌, ◌*◌, ◌^◌, ◌<◌, true, cond, nat_le, List, length, map, get_or, slice_range, sym, ap, ap₂, ◌∙◌, subst, arith}
use Rattle.std.specs.List.{count_by}
use Rattle.std.proofs.lemmas.List.{length-map, get_or-map}
use Rattle.builder_trait.specs.Parts.{Contents}
use Rattle.row_blocks.specs.Blocks.{start_of}
use Rattle.row_blocks.specs.Partitions.{is_in_block, IsInBlocks}
use Rattle.row_blocks.proofs.Partitioning.{start_of-le, start_of-above, start_of-multiple, in_block, own_block}
use Rattle.rank_rows.specs.Ranked.{Ranked, place_at, rank, next_place, IsPlace}
use Rattle.map_shapes.specs.declared.point.Point.{Point}
use Rattle.range_tree.specs.declared.growing.Carried.{Carried}
use Rattle.range_tree.specs.Heights.{rows_to}
use Rattle.range_tree.specs.Tree.{is_second}
use Rattle.range_tree.specs.Marks.{IsStanding}
use Rattle.range_tree.proofs.RowSlices.{row_there, rank_is, bit_tells}
use Rattle.range_tree.proofs.SpanLemmas.{many_places, places_below}
use Rattle.range_tree.proofs.MarkedRows.{row_get, next_at}
use Rattle.range_tree.proofs.Carrying.{row_below}

module _ (part : Contents Point) (place height row k : ℕ) (ranks : Ranked) (carried : List Carried) (is : IsStanding part place height row k ranks carried) where
  many : length part.places ≡ length part.items
  many = many_places part is.each

  long : length (is.rows_are.rows row) ≡ length part.items
  long = omega (arith, (is.rows_are.blocks row is.below).as_many, many)

  pub standing_there : place < length part.items
  standing_there =
      subst (λ p. p < length part.items) is.at
      (row_below part.places (is.rows_are.rows row) (length part.items) (height - row) (places_below part is.each) (is.rows_are.blocks row is.below) k (omega (arith, long, is.within)))

  module _ (below : row < rows_to height) where
    pub IsPlace-standing : IsPlace ranks row k
    IsPlace-standing = record {
      there = omega (arith, is.within, row_there part height (rows_to height) ranks carried is.rows_are many row below (omega (arith, is.within)));
      within = omega (arith, is.within, is.rows_are.stride);
      high = omega (arith, below, is.rows_are.same_height);
    }

    -- where it stands in the next row
    pub standing_next : (next_place ranks row k < length part.places) × (get_or (is.rows_are.rows (row + 1)) (next_place ranks row k) 0 ≡ place)
    standing_next =
        let j : ℕ = height - (row + 1) in
        let h_is : height - row ≡ j + 1 = omega (arith, below) in
        let start_is : ranks.height - row ≡ j + 1 = omega (arith, h_is, is.rows_are.same_height) in
        let lower_is : ranks.height - row - 1 ≡ j = omega (arith, start_is) in
        let s : ℕ = start_of (j + 1) k in
        let p : ℕ = place in
        let list : List ℕ = is.rows_are.rows row in
        let cut : IsInBlocks (λ x. x) part.places (j + 1) list = subst (λ g. IsInBlocks (λ x. x) part.places g list) h_is (is.rows_are.blocks row (omega arith)) in
        let next : IsInBlocks (λ x. x) part.places j (is.rows_are.rows (row + 1)) = is.rows_are.blocks (row + 1) (omega arith) in
        let own : start_of (j + 1) p ≡ s = ap (start_of (j + 1)) (sym is.at) ∙ own_block (λ x. x) cut k 0 (omega (arith, long, is.within)) in
        let inside : is_in_block (λ x. x) (j + 1) s p ≡ true =
        in_block (λ x. x) (j + 1) s p (omega (arith, own, start_of-le (j + 1) p)) (omega (arith, own, start_of-above (j + 1) p)) in
        let bit : get_or ranks.second (place_at ranks row k) true ≡ nat_le (s + 2 ^ j) p =
        row_get ranks.second (is_second (height - row)) list (64 * (row * ranks.stride)) k (is.rows_are.each row below).second (omega (arith, long, is.within)) true
        ∙ ap₂ is_second h_is is.at ∙ bit_tells j s (start_of-multiple (j + 1) k) p inside in
        let ranked : rank ranks row s k ≡ count_by (is_second (j + 1)) (slice_range list s k) =
        rank_is part height (rows_to height) ranks carried is.rows_are many row below s k (start_of-le (j + 1) k) (omega (arith, is.within))
        ∙ ap (λ g. count_by (is_second g) (slice_range list s k)) h_is in
        let spot : next_place ranks row k ≡ cond (get_or ranks.second (place_at ranks row k) true) (s + 2 ^ j + rank ranks row s k) (k - rank ranks row s k) =
        ap₂ (λ g i. cond (get_or ranks.second (place_at ranks row k) true) (start_of g k + 2 ^ i + rank ranks row (start_of g k) k) (k - rank ranks row (start_of g k) k)) start_is lower_is in
        subst (λ n. (n < length part.places) × (get_or (is.rows_are.rows (row + 1)) n 0 ≡ place)) (sym spot)
        (next_at part.places list (is.rows_are.rows (row + 1)) j cut next k p (omega (arith, is.within, many)) is.at (omega (arith, standing_there, many))
        (get_or ranks.second (place_at ranks row k) true) (rank ranks row s k) bit ranked)

    pub IsStanding-next : IsStanding part place height (row + 1) (next_place ranks row k) ranks carried
    IsStanding-next = record {
      each = is.each;
      rows_are = is.rows_are;
      below = omega (arith, below);
      within = omega (arith, standing_next.0, many);
      at = standing_next.1;
    }

-- behind the last row stands its point
pub standing_last : (part : Contents Point) (place height row k : ℕ) (ranks : Ranked) (carried : List Carried) → IsStanding part place height row k ranks carried
    → row ≡ rows_to height → (k < length carried) × ((d : Carried) → (get_or carried k d).place ≡ place)
standing_last part place height row k ranks carried is last =
    let many = many_places part is.each in
    let rows : map (λ (c : Carried). c.place) carried ≡ is.rows_are.rows row = is.rows_are.last ∙ ap is.rows_are.rows (sym last) in
    let inside : k < length carried =
    omega (arith, is.within, many, (is.rows_are.blocks row is.below).as_many, ap length rows, length-map carried (λ (c : Carried). c.place)) in
    (inside, λ d. sym (get_or-map (λ (c : Carried). c.place) carried k d 0 inside) ∙ ap (λ l. get_or l k 0) rows ∙ is.at)
