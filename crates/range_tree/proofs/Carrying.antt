-- One more place of the row that is made.
use Rattle.std.proofs.Common.{◌≡◌, ℕ, ◌+◌, ◌-◌, ◌*◌, ◌/◌, ◌%◌, ◌==◌, ◌^◌, ◌<◌, ◌≤◌, Bool, true, false, cond, nat_le, nat_lt, List, [], ◌∷◌, ◌++◌, length, length-take, take, drop, map, set, get_or, min, All, Some, slice_get, slice_range, refl, sym, ap, ap₂, ◌∙◌, subst, arith}
use Rattle.std.specs.List.{count_by}
use Rattle.std.proofs.Math.Nat.{mul-le-mul_right}
use Rattle.std.proofs.lemmas.Nat.{mul-le}
use Rattle.std.proofs.lemmas.Bool.Decides.{nat_tests}
use Rattle.std.proofs.lemmas.Option.{get_or_from_slice_get}
use Rattle.std.proofs.lemmas.List.{take_all, take-take, drop-take, length-map, length_push, get_or-map, get_or-replicate, get_or_push, map-set}
use Rattle.std.proofs.lemmas.List.Elements.{All-push, All-set, All-filter}
use Rattle.query_laws.specs.StepLedger.{Entries}
use Rattle.builder_trait.specs.Parts.{Contents}
use Rattle.row_blocks.specs.Blocks.{start_of}
use Rattle.row_blocks.specs.Partitions.{is_in_block, block_of, IsInBlocks, IsMoved, target_of, lower_after}
use Rattle.row_blocks.proofs.Lists.{length-slice_range, get_or-slice_range, slice_range-map}
use Rattle.row_blocks.proofs.Partitioning.{start_of-le, start_of-above, start_of-multiple, in_block, own_block, target_within, IsMoved-next}
use Rattle.rank_rows.specs.Ranked.{Ranked, place_at, how_many, rank, next_place, with_place, IsNextRow}
use Rattle.map_shapes.specs.declared.point.Point.{Point}
use Rattle.range_tree.specs.declared.growing.Carried.{Carried}
use Rattle.range_tree.specs.declared.rows.RangeTree.{RangeTree}
use Rattle.range_tree.specs.Heights.{rows_to, words_for}
use Rattle.range_tree.specs.Tree.{IsRow, is_second, is_live_at}
use Rattle.range_tree.specs.Growing.{AreGrown, carried_of}
use Rattle.range_tree.proofs.RowSlices.{slice_of-part, how_many-map, bit_tells}
use Rattle.range_tree.proofs.SpanLemmas.{many_places, has_each, places_below}
use Rattle.range_tree.proofs.Appended.{slice_kept-push, IsRow-push, IsRow-more, second_at, seconds_before}

-- a row has places of points alone
pub row_below : (places row : List ℕ) (n h : ℕ) → All (λ p. p < n) places → IsInBlocks (λ p. p) places h row → (k : ℕ) → k < length row → get_or row k 0 < n
row_below places row n h all cut k inside =
    let s = start_of h k in
    let low = start_of-le h k in
    let high = start_of-above h k in
    let end = min (s + 2 ^ h) (length places) in
    let block : slice_range row s end ≡ block_of (λ p. p) h s places = cut.blocks s (start_of-multiple h k) (omega (arith, cut.as_many)) in
    let read : get_or (slice_range row s end) (k - s) 0 ≡ get_or row k 0 =
    get_or-slice_range row s end (k - s) 0 (omega (arith, cut.as_many)) ∙ ap (λ i. get_or row i 0) (let e : s + (k - s) ≡ k = omega arith in e) in
    let long : length (slice_range row s end) ≡ end - s = length-slice_range row s end (omega (arith, cut.as_many)) (omega (arith, cut.as_many)) in
    let here : get_or (block_of (λ p. p) h s places) (k - s) 0 < n =
    All-filter (is_in_block (λ p. p) h s) (λ p. p < n) places all (k - s) 0 (omega (arith, ap length block, long, cut.as_many)) in
    omega (arith, here, read, ap (λ l. get_or l (k - s) 0) block)

-- a slice of a front
slice_of_front : {A : Type 0} (xs : List A) (a b : ℕ) → a ≤ b → slice_range (take b xs) a b ≡ slice_range xs a b
slice_of_front xs a b ordered =
    let there : a + (b - a) ≡ b = omega arith in
    ap (λ n. take (b - a) (drop a (take n xs))) (sym there) ∙ ap (take (b - a)) (drop-take a (b - a) xs) ∙ take-take (b - a) (b - a) (drop a xs) (omega arith)

-- where the rank of its bit puts it
spot : (p m s lower k r : ℕ) (b : Bool) → b ≡ nat_le m p → r + lower ≡ k - s → s ≤ k
    → cond b (m + r) (k - r) ≡ cond (nat_lt p m) (s + lower) (m + (k - s - lower))
spot p m s lower k r true is ranked le = grind (arith, nat_tests)
spot p m s lower k r false is ranked le = grind (arith, nat_tests)

module _ (part : Contents Point) (old : RangeTree) (grown : AreGrown part old) where
  abbrev row : List ℕ
  row = grown.row grown.count

  many : length part.places ≡ length part.items
  many = many_places part grown.each_place

  cut : IsInBlocks (λ p. p) part.places (old.height - grown.count) row
  cut = grown.blocks grown.count (omega arith)

  pub long : length row ≡ length part.items
  long = omega (arith, cut.as_many, many)

  pub source_long : length old.source.items ≡ length part.items
  source_long = ap length grown.source ∙ length-map row (carried_of part.items) ∙ long

  words : 64 * (grown.count * old.ranks.stride) ≡ 64 * (grown.count * words_for (length part.items))
  words = ap (λ s. 64 * (grown.count * s)) grown.stride

  pub at_place : length old.ranks.second ≡ place_at old.ranks grown.count old.at
  at_place = omega (arith, grown.second, words)

  pub IsNextRow-here : old.at < 64 * words_for (length part.items) → IsNextRow old.ranks grown.count
  IsNextRow-here unended = record {
    begun = omega (arith, at_place);
    unended = omega (arith, at_place, ap (λ s. 64 * s) grown.stride);
    high = omega (arith, grown.below, grown.same_height);
  }

  -- rows above end before it
  row_ends : (q : ℕ) → q < grown.count → 64 * (q * old.ranks.stride) + length (grown.row q) ≤ 64 * (grown.count * words_for (length part.items)) + old.at
  row_ends q less =
      let le : (q + 1) * words_for (length part.items) ≤ grown.count * words_for (length part.items) = mul-le-mul_right (words_for (length part.items)) (omega arith) in
      omega (arith, le, ap (λ s. 64 * (q * s)) grown.stride, (grown.blocks q (omega arith)).as_many, many)

  -- a turn is left for it
  pub more_left : old.at < 64 * words_for (length part.items) → 0 < old.left
  more_left unended =
      omega (
        arith,
        unended,
        grown.left,
        mul-le (grown.count + 1) (64 * words_for (length part.items)) (rows_to old.height) (64 * words_for (length part.items)) (omega (arith, grown.below)) (omega arith),
      )

  -- ---- one that fills the last word
  module _ (past : length old.source.items ≤ old.at) (unended : old.at < 64 * words_for (length part.items)) where
    pub AreGrown-filled : AreGrown part (record old { ranks = with_place false 0 old.ranks; at = old.at + 1; left = old.left - 1 })
    AreGrown-filled =
        let short : length row ≤ old.at = omega (arith, past, source_long, long) in
        let same : take old.at row ≡ take (old.at + 1) row = take_all old.at row short ∙ sym (take_all (old.at + 1) row (omega arith)) in
        let cut_off : length (take old.at row) ≤ old.at = omega (arith, length-take old.at row) in
        let as_far : min old.at (length part.items) ≡ min (old.at + 1) (length part.items) = omega (arith, past, source_long) in
        record {
          count = grown.count;
          row = grown.row;
          lower = grown.lower;
          below = grown.below;
          all_live = grown.all_live;
          each_place = grown.each_place;
          stride = grown.stride;
          same_height = grown.same_height;
          fresh = All-push (λ live. live ≡ true) old.ranks.live true grown.fresh refl;
          blocks = grown.blocks;
          each = λ q less.
              IsRow-push part.items part.flags (old.height - q) q old.ranks false 0 (grown.row q) (omega (arith, row_ends q less, grown.second))
              (omega (arith, row_ends q less, grown.live)) (omega (arith, row_ends q less, grown.weights)) (grown.each q less);
          source = grown.source;
          target = grown.target;
          at_within = omega (arith, unended);
          second = omega (arith, grown.second, length_push old.ranks.second false);
          live = omega (arith, grown.live, length_push old.ranks.live true);
          weights = omega (arith, grown.weights, length_push old.ranks.weights 0);
          begun = subst (λ l. IsRow part.items part.flags (old.height - grown.count) grown.count l (with_place false 0 old.ranks)) same
              (IsRow-push part.items part.flags (old.height - grown.count) grown.count old.ranks false 0 (take old.at row) (omega (arith, cut_off, words, grown.second))
              (omega (arith, cut_off, words, grown.live)) (omega (arith, cut_off, words, grown.weights)) grown.begun);
          moved = subst (λ k. IsMoved (λ p. p) row (map (λ (c : Carried). c.place) old.target.items) (old.height - grown.count - 1) k grown.lower) as_far grown.moved;
          left = omega (arith, grown.left, more_left unended);
        }

  -- ---- that of a point
  module _ (inside : old.at < length old.source.items) where
    abbrev p : ℕ
    p = get_or row old.at 0

    abbrev j : ℕ
    j = old.height - grown.count - 1

    within : old.at < length row
    within = omega (arith, inside, source_long, long)

    h_is : old.height - grown.count ≡ old.height - grown.count - 1 + 1
    h_is = omega (arith, grown.below)

    above : IsInBlocks (λ x. x) part.places (old.height - grown.count - 1 + 1) row
    above = subst (λ h. IsInBlocks (λ x. x) part.places h row) h_is cut

    there : p < length part.items
    there = row_below part.places row (length part.items) (old.height - grown.count) (places_below part grown.each_place) cut old.at within

    lives : is_live_at part.flags p ≡ true
    lives = ap (λ fs. get_or fs p false) grown.all_live ∙ get_or-replicate (length part.items) p true false there

    so_far : min old.at (length part.items) ≡ old.at
    so_far = omega (arith, inside, source_long)

    moved_here : IsMoved (λ x. x) row (map (λ (c : Carried). c.place) old.target.items) (old.height - grown.count - 1) old.at grown.lower
    moved_here = subst (λ k. IsMoved (λ x. x) row (map (λ (c : Carried). c.place) old.target.items) (old.height - grown.count - 1) k grown.lower) so_far grown.moved

    pub carried_is : (carried : Carried) → slice_get old.source.items old.at ≡ Some carried → carried ≡ carried_of part.items p
    carried_is carried read =
        sym (get_or_from_slice_get old.source.items old.at carried carried read) ∙ ap (λ l. get_or l old.at carried) grown.source
        ∙ get_or-map (carried_of part.items) row old.at 0 carried within

    -- its bit, by a division
    pub bit_is : (half : ℕ) → half ≡ 2 ^ (old.height - grown.count - 1) → (p / half % 2 == 1) ≡ is_second (old.height - grown.count) p
    bit_is half is =
        let i : ℕ = old.height - grown.count - 1 in
        ap (λ m. p / m % 2 == 1) is ∙ second_at i p
        ∙ ap (λ h. nat_le (start_of h p + 2 ^ i) p) (sym h_is)

    module _ (second : Bool) (weight : ℕ) (bit : second ≡ is_second (old.height - grown.count) p) where
      abbrev ranks : Ranked
      ranks = with_place second weight old.ranks

      -- it goes where its half has as many
      pub next_is : next_place (with_place second weight old.ranks) grown.count old.at ≡ target_of (old.height - grown.count - 1) old.at grown.lower p
      next_is =
          let i : ℕ = old.height - grown.count - 1 in
          let s = start_of (i + 1) old.at in
          let low = start_of-le (i + 1) old.at in
          let height_at : old.ranks.height - grown.count ≡ i + 1 = omega (arith, grown.same_height, h_is) in
          let lower_at : old.ranks.height - grown.count - 1 ≡ i = omega (arith, grown.same_height) in
          let own : get_or (old.ranks.second ++ second ∷ []) (place_at old.ranks grown.count old.at) true ≡ second =
          get_or_push old.ranks.second second true (place_at old.ranks grown.count old.at) at_place in
          let front : length (take old.at row) ≡ old.at = omega (arith, length-take old.at row, within) in
          let ranked : rank (with_place second weight old.ranks) grown.count s old.at ≡ count_by (is_second (old.height - grown.count)) (slice_range (take old.at row) s old.at) =
          ap how_many (slice_kept-push old.ranks.second second (place_at old.ranks grown.count s) (place_at old.ranks grown.count old.at) (omega (arith, low)) (omega (arith, at_place))
          ∙ slice_of-part old.ranks old.ranks.second grown.count (length (take old.at row)) s old.at (map (is_second (old.height - grown.count)) (take old.at row)) grown.begun.second
          low (omega (arith, front))
          ∙ slice_range-map (is_second (old.height - grown.count)) (take old.at row) s old.at)
          ∙ how_many-map (is_second (old.height - grown.count)) (slice_range (take old.at row) s old.at) in
          let shorter : slice_range (take old.at row) s old.at ≡ slice_range row s old.at = slice_of_front row s old.at low in
          let counted : rank (with_place second weight old.ranks) grown.count s old.at + grown.lower ≡ old.at - s =
          omega (
            arith,
            ranked ∙ ap₂ (λ h l. count_by (is_second h) l) h_is shorter,
            seconds_before part.places row i old.at (has_each part grown.each_place) above within,
            moved_here.counted,
          ) in
          let tells : second ≡ nat_le (s + 2 ^ i) p =
          bit ∙ ap (λ h. is_second h p) h_is
          ∙ bit_tells i s (start_of-multiple (i + 1) old.at) p
          (in_block (λ x. x) (i + 1) s p (omega (arith, own_start, start_of-le (i + 1) p)) (omega (arith, own_start, start_of-above (i + 1) p))) in
          ap₂ (λ g m. cond (get_or (old.ranks.second ++ second ∷ []) (place_at old.ranks grown.count old.at) true)
          (start_of g old.at + 2 ^ m + rank (with_place second weight old.ranks) grown.count (start_of g old.at) old.at)
          (old.at - rank (with_place second weight old.ranks) grown.count (start_of g old.at) old.at)) height_at lower_at
          ∙ ap (λ b. cond b (s + 2 ^ i + rank (with_place second weight old.ranks) grown.count s old.at) (old.at - rank (with_place second weight old.ranks) grown.count s old.at)) own
          ∙ spot p (s + 2 ^ i) s grown.lower old.at (rank (with_place second weight old.ranks) grown.count s old.at) second tells counted low
        where
          own_start : start_of (old.height - grown.count - 1 + 1) p ≡ start_of (old.height - grown.count - 1 + 1) old.at
          own_start = own_block (λ x. x) above old.at 0 within

      pub target_inside : (t : ℕ) → t ≡ next_place (with_place second weight old.ranks) grown.count old.at → t < length old.target.items
      target_inside t is =
          omega (
            arith,
            is ∙ next_is,
            target_within (λ x. x) (old.height - grown.count - 1) old.at grown.lower (has_each part grown.each_place) above moved_here within p 0 refl,
            moved_here.long,
            length-map old.target.items (λ (c : Carried). c.place),
          )

      pub AreGrown-carried : (carried : Carried) → carried ≡ carried_of part.items p → carried.weight ≡ weight
          → (t : ℕ) → t ≡ next_place (with_place second weight old.ranks) grown.count old.at → (target : Entries Carried) → target.items ≡ set old.target.items t carried
          → AreGrown part (record old { ranks = with_place second weight old.ranks; target = target; at = old.at + 1; left = old.left - 1 })
      AreGrown-carried carried is weighs t t_is target target_are =
          let i : ℕ = old.height - grown.count - 1 in
          let unended : old.at < 64 * words_for (length part.items) = omega (arith, inside, source_long) in
          let place_is : carried.place ≡ p = ap (λ (c : Carried). c.place) is in
          let all : Carried → Type 0 = λ c. c ≡ carried_of part.items c.place in
          let places : map (λ (c : Carried). c.place) target.items ≡ set (map (λ (c : Carried). c.place) old.target.items) (target_of i old.at grown.lower p) p =
          ap (map (λ (c : Carried). c.place)) target_are ∙ map-set (λ (c : Carried). c.place) old.target.items t carried
          ∙ ap₂ (set (map (λ (c : Carried). c.place) old.target.items)) (t_is ∙ next_is) place_is in
          let next : IsMoved (λ x. x) row (map (λ (c : Carried). c.place) target.items) i (old.at + 1) (lower_after i old.at grown.lower p) =
          subst (λ l. IsMoved (λ x. x) row l i (old.at + 1) (lower_after i old.at grown.lower p)) (sym places)
          (IsMoved-next (λ x. x) i old.at grown.lower (has_each part grown.each_place) above moved_here within p 0 refl) in
          let as_far : old.at + 1 ≡ min (old.at + 1) (length part.items) = omega (arith, inside, source_long) in
          record {
            count = grown.count;
            row = grown.row;
            lower = lower_after i old.at grown.lower p;
            below = grown.below;
            all_live = grown.all_live;
            each_place = grown.each_place;
            stride = grown.stride;
            same_height = grown.same_height;
            fresh = All-push (λ live. live ≡ true) old.ranks.live true grown.fresh refl;
            blocks = grown.blocks;
            each = λ q less.
                IsRow-push part.items part.flags (old.height - q) q old.ranks second weight (grown.row q) (omega (arith, row_ends q less, grown.second))
                (omega (arith, row_ends q less, grown.live)) (omega (arith, row_ends q less, grown.weights)) (grown.each q less);
            source = grown.source;
            target = subst (λ l. All all l) (sym target_are) (All-set all old.target.items t carried (is ∙ ap (carried_of part.items) (sym place_is)) grown.target);
            at_within = omega (arith, unended);
            second = omega (arith, grown.second, length_push old.ranks.second second);
            live = omega (arith, grown.live, length_push old.ranks.live true);
            weights = omega (arith, grown.weights, length_push old.ranks.weights weight);
            begun = IsRow-more part.items part.flags (old.height - grown.count) grown.count old.ranks second weight row old.at at_place (omega (arith, grown.live, words))
                (omega (arith, grown.weights, words)) within (sym bit) lives (sym (ap (λ (c : Carried). c.weight) is) ∙ weighs) grown.begun;
            moved = subst (λ k. IsMoved (λ x. x) row (map (λ (c : Carried). c.place) target.items) i k (lower_after i old.at grown.lower p)) as_far next;
            left = omega (arith, grown.left, more_left unended);
          }
