-- A point that is followed down the rows, and is taken out of each.
use Rattle.std.proofs.Common.{◌≡◌, ℕ, ◌+◌, ◌-◌, ◌*◌, ◌^◌, ◌<◌, ◌≤◌, ◌⊎◌, inl, inr, true, false, cond, List, length, set, get_or, min, Some, slice_get, sym, ap, ◌∙◌, subst, arith}
use Rattle.std.specs.Option.{unwrap_or}
use Rattle.std.proofs.lemmas.Bool.{cases_lt}
use Rattle.std.proofs.lemmas.List.{take_all}
use Rattle.std.proofs.lemmas.Option.{slice_get_within, get_or_from_slice_get}
use Rattle.builder_trait.specs.Parts.{Contents}
use Rattle.row_blocks.specs.Partitions.{is_in_block}
use Rattle.row_blocks.proofs.Lists.{filter_all}
use Rattle.row_blocks.proofs.Partitioning.{in_block}
use Rattle.rank_rows.specs.Ranked.{Ranked, place_at, marked, next_place, IsPlace}
use Rattle.map_shapes.specs.declared.point.Point.{Point}
use Rattle.range_tree.specs.declared.growing.Carried.{Carried}
use Rattle.range_tree.specs.Heights.{rows_to}
use Rattle.range_tree.specs.Tree.{AreRows, IsRow, is_live_at, weight_of}
use Rattle.range_tree.specs.Marks.{IsFalling, IsMarkedTo}
use Rattle.range_tree.proofs.RowSlices.{row_there}
use Rattle.range_tree.proofs.SpanLemmas.{many_places, has_each, places_below}
use Rattle.range_tree.proofs.MarkedRows.{unique_place, row_read, IsRow-other, IsRow-marked}
use Rattle.range_tree.proofs.Standing.{standing_next}

module _ (part : Contents Point) (place height weight first : ℕ) (start : Ranked) (carried : List Carried) (is : IsFalling part place height weight first start carried) where
  many : length part.places ≡ length part.items
  many = many_places part is.each

  there : place < length part.items
  there = subst (λ p. p < length part.items) is.at (places_below part is.each first 0 (omega (arith, is.within, many)))

  -- the first row is the second order
  first_row : is.rows_are.rows 0 ≡ part.places
  first_row =
      let row : List ℕ = is.rows_are.rows 0 in
      let blocks = is.rows_are.blocks 0 (omega arith) in
      let same : height - 0 ≡ height = omega arith in
      let size : 2 ^ (height - 0) ≡ 2 ^ height = ap (λ h. 2 ^ h) same in
      let below = places_below part is.each in
      sym (take_all (min (0 + 2 ^ (height - 0)) (length part.places) - 0) row (omega (arith, blocks.as_many, size, is.high, many)))
      ∙ blocks.blocks 0 (record { times = 0; is = omega arith }) (omega (arith, is.within, many))
      ∙ filter_all (is_in_block (λ p. p) (height - 0) 0) part.places
      (λ k d inside. in_block (λ p. p) (height - 0) 0 (get_or part.places k d) (omega arith) (omega (arith, is.high, size, below k d inside)))

  pub IsMarkedTo-begun : IsMarkedTo part is.rows_are.rows height (rows_to height) place 0 first start
  IsMarkedTo-begun = record {
    done = λ q less below. absurd (omega arith);
    rest = λ q from below. is.rows_are.each q below;
    within = is.within;
    at = ap (λ l. get_or l first 0) first_row ∙ is.at;
  }

  module _ (row k : ℕ) (below : row < rows_to height) (ranks : Ranked) (same : ranks ≡ record start { live = ranks.live; weights = ranks.weights })
      (old : IsMarkedTo part is.rows_are.rows height (rows_to height) place row k ranks) where
    long : length (is.rows_are.rows row) ≡ length part.items
    long = omega (arith, (is.rows_are.blocks row (omega arith)).as_many, many)

    pub IsPlace-here : IsPlace ranks row k
    IsPlace-here = subst (λ v. IsPlace v row k) (sym same) (record {
      there = omega (arith, old.within, row_there part height (rows_to height) start carried is.rows_are many row below (omega (arith, old.within)));
      within = omega (arith, old.within, is.rows_are.stride);
      high = omega (arith, below, is.rows_are.same_height);
    })

    live_here : is_live_at part.flags place ≡ true
    live_here = get_or_from_slice_get part.flags place true false is.live

    pub live_at_here : slice_get ranks.live (place_at ranks row k) ≡ Some true
    live_at_here =
        row_read ranks.live (is_live_at part.flags) (is.rows_are.rows row) (64 * (row * ranks.stride)) k (old.rest row (omega arith) below).live (omega (arith, long, old.within)) false
        ∙ ap Some (ap (is_live_at part.flags) old.at ∙ live_here)

    pub weight_at_here : slice_get ranks.weights (place_at ranks row k) ≡ Some weight
    weight_at_here =
        row_read ranks.weights (λ p. cond (is_live_at part.flags p) (weight_of part.items p) 0) (is.rows_are.rows row) (64 * (row * ranks.stride)) k
        (old.rest row (omega arith) below).weights (omega (arith, long, old.within)) 0
        ∙ ap Some (ap (λ p. cond (is_live_at part.flags p) (weight_of part.items p) 0) old.at ∙ ap (λ b. cond b (weight_of part.items place) 0) live_here
        ∙ ap (λ o. unwrap_or o 0) is.there)

    -- where it stands in the next row
    next_here : (next_place start row k < length part.places) × (get_or (is.rows_are.rows (row + 1)) (next_place start row k) 0 ≡ place)
    next_here =
        standing_next part place height row k start carried
        (record { each = is.each; rows_are = is.rows_are; below = omega (arith, below); within = old.within; at = old.at }) below

    same_next : next_place (marked row k ranks) row k ≡ next_place start row k
    same_next = ap (λ v. next_place v row k) same

    pub IsMarkedTo-next : IsMarkedTo part is.rows_are.rows height (rows_to height) place (row + 1) (next_place (marked row k ranks) row k) (marked row k ranks)
    IsMarkedTo-next = record {
      done = λ q less within. by q less within (cases_lt q row);
      rest = λ q from within.
          IsRow-other part.items part.flags ranks row k part.flags (height - q) q (is.rows_are.rows q) (omega arith) (few q within) far (old.rest q (omega arith) within);
      within = omega (arith, same_next, next_here.0, many);
      at = ap (λ n. get_or (is.rows_are.rows (row + 1)) n 0) same_next ∙ next_here.1;
    }
      where
        stride_is : ranks.stride ≡ start.stride
        stride_is = ap (λ (v : Ranked). v.stride) same

        few : (q : ℕ) → q < rows_to height → length (is.rows_are.rows q) ≤ 64 * ranks.stride
        few q within = omega (arith, (is.rows_are.blocks q (omega arith)).as_many, many, stride_is, is.rows_are.stride)

        far : k < 64 * ranks.stride
        far = omega (arith, old.within, stride_is, is.rows_are.stride)

        own : IsRow part.items (set part.flags place false) (height - row) row (is.rows_are.rows row) (marked row k ranks)
        own =
            IsRow-marked part.items part.flags ranks row k (height - row) place (is.rows_are.rows row) (slice_get_within part.flags place true is.live) (omega (arith, long, old.within)) old.at
            (λ i within other at. other (unique_place part.places (is.rows_are.rows row) (height - row) (has_each part is.each) (is.rows_are.blocks row (omega arith)) place
            (omega (arith, there, many)) i k within (omega (arith, long, old.within)) at old.at))
            (old.rest row (omega arith) below)

        by : (q : ℕ) → q < row + 1 → q < rows_to height → (q < row) ⊎ (row ≤ q) → IsRow part.items (set part.flags place false) (height - q) q (is.rows_are.rows q) (marked row k ranks)
        by q less within (inl before) =
            IsRow-other part.items part.flags ranks row k (set part.flags place false) (height - q) q (is.rows_are.rows q) (omega arith) (few q within) far (old.done q before within)
        by q less within (inr from) =
            let here : row ≡ q = omega arith in
            subst (λ r. IsRow part.items (set part.flags place false) (height - r) r (is.rows_are.rows r) (marked row k ranks)) here own

  pub AreRows-marked : (row k : ℕ) → row ≡ rows_to height → (ranks : Ranked) → ranks ≡ record start { live = ranks.live; weights = ranks.weights }
      → IsMarkedTo part is.rows_are.rows height (rows_to height) place row k ranks
      → AreRows (record part { flags = set part.flags place false }) height (rows_to height) ranks carried
  AreRows-marked row k end ranks same all = record {
    rows = is.rows_are.rows;
    stride = ap (λ (v : Ranked). v.stride) same ∙ is.rows_are.stride;
    same_height = ap (λ (v : Ranked). v.height) same ∙ is.rows_are.same_height;
    blocks = is.rows_are.blocks;
    each = λ q below. all.done q (omega (arith, end)) below;
    last = is.rows_are.last;
  }
