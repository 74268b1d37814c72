-- A row is made, and the next one begins, or the tree is done.
use Rattle.std.proofs.Common.{◌≡◌, ℕ, ◌+◌, ◌-◌, ◌*◌, ◌^◌, ◌<◌, ◌≤◌, ◌==◌, ◌⊎◌, inl, inr, cond, List, [], ◌∷◌, length, map, All, refl, sym, ap, ap₂, ◌∙◌, subst, arith, pow_mono}
use Rattle.std.proofs.lemmas.Nat.{mul-le}
use Rattle.std.proofs.lemmas.Bool.{cases_lt, cond-true, cond-false, eq-eqb, ne_eqb}
use Rattle.std.proofs.lemmas.List.{take_all, length-map}
use Rattle.std.proofs.lemmas.List.Elements.{All-head, All-tail, All-map}
use Rattle.query_laws.specs.StepLedger.{Entries}
use Rattle.builder_trait.specs.Parts.{Contents}
use Rattle.row_blocks.specs.Heights.{IsLeastHeight-height_of}
use Rattle.row_blocks.specs.Partitions.{IsInBlocks}
use Rattle.row_blocks.proofs.Partitioning.{IsInBlocks-moved}
use Rattle.rank_rows.specs.Ranked.{Ranked}
use Rattle.rank_rows.proofs.Reading.{eights}
use Rattle.map_shapes.specs.declared.point.Point.{Point}
use Rattle.range_tree.specs.declared.growing.Carried.{Carried}
use Rattle.range_tree.specs.declared.rows.RangeTree.{RangeTree}
use Rattle.range_tree.specs.Heights.{rows_to, words_for}
use Rattle.range_tree.specs.Tree.{IsRow, AreRows}
use Rattle.range_tree.specs.Growing.{AreGrown, IsGrowing, carried_of}
use Rattle.range_tree.proofs.SpanLemmas.{many_places, has_each}
use Rattle.range_tree.proofs.Begun.{slice_none, moved_none}
use Rattle.range_tree.proofs.Carrying.{more_left}

-- points on their way are those of their places
carried_again : (points : List Point) (cs : List Carried) → All (λ c. c ≡ carried_of points c.place) cs → cs ≡ map (carried_of points) (map (λ c. c.place) cs)
carried_again points [] all = refl
carried_again points (c ∷ cs) all =
    ap₂ (λ x xs. x ∷ xs) (All-head (λ (c : Carried). c ≡ carried_of points c.place) c cs all)
    (carried_again points cs (All-tail (λ (c : Carried). c ≡ carried_of points c.place) c cs all))

module _ (part : Contents Point) (rows : RangeTree) (grown : AreGrown part rows) (end : rows.at ≡ 64 * words_for (length part.items)) where
  abbrev next : List ℕ
  next = map (λ c. c.place) rows.target.items

  -- the rows, and the one that was parted into
  abbrev more_rows : ℕ → List ℕ
  more_rows q = cond (q == grown.count + 1) (map (λ c. c.place) rows.target.items) (grown.row q)

  last_row : (q : ℕ) → q ≡ grown.count + 1 → more_rows q ≡ next
  last_row q is = cond-true (q == grown.count + 1) next (grown.row q) (eq-eqb q (grown.count + 1) is)

  row_above : (q : ℕ) → q < grown.count + 1 → more_rows q ≡ grown.row q
  row_above q less = cond-false (q == grown.count + 1) next (grown.row q) (ne_eqb q (grown.count + 1) (λ same. absurd (omega arith)))

  many : length part.places ≡ length part.items
  many = many_places part grown.each_place

  long : length (grown.row grown.count) ≡ length part.items
  long = omega (arith, (grown.blocks grown.count (omega arith)).as_many, many)

  whole : length part.items ≤ rows.at
  whole = omega (arith, end)

  h_is : rows.height - grown.count ≡ rows.height - grown.count - 1 + 1
  h_is = omega (arith, grown.below)

  parted : IsInBlocks (λ p. p) part.places (rows.height - grown.count - 1) next
  parted =
      IsInBlocks-moved (λ p. p) (rows.height - grown.count - 1) (has_each part grown.each_place)
      (subst (λ h. IsInBlocks (λ p. p) part.places h (grown.row grown.count)) h_is (grown.blocks grown.count (omega arith)))
      grown.moved (omega (arith, whole, long))

  here : IsRow part.items part.flags (rows.height - grown.count) grown.count (grown.row grown.count) rows.ranks
  here =
      subst (λ l. IsRow part.items part.flags (rows.height - grown.count) grown.count l rows.ranks)
      (take_all rows.at (grown.row grown.count) (omega (arith, long, whole))) grown.begun

  blocks : (q : ℕ) → q ≤ grown.count + 1 → IsInBlocks (λ p. p) part.places (rows.height - q) (more_rows q)
  blocks q le = by (cases_lt q (grown.count + 1))
    where
      by : (q < grown.count + 1) ⊎ (grown.count + 1 ≤ q) → IsInBlocks (λ p. p) part.places (rows.height - q) (more_rows q)
      by (inl less) = subst (λ l. IsInBlocks (λ p. p) part.places (rows.height - q) l) (sym (row_above q less)) (grown.blocks q (omega arith))
      by (inr from) =
          let low : rows.height - grown.count - 1 ≡ rows.height - q = omega arith in
          subst (λ l. IsInBlocks (λ p. p) part.places (rows.height - q) l) (sym (last_row q (omega arith)))
          (subst (λ h. IsInBlocks (λ p. p) part.places h next) low parted)

  each : (q : ℕ) → q < grown.count + 1 → IsRow part.items part.flags (rows.height - q) q (more_rows q) rows.ranks
  each q less = subst (λ l. IsRow part.items part.flags (rows.height - q) q l rows.ranks) (sym (row_above q less)) (by (cases_lt q grown.count))
    where
      by : (q < grown.count) ⊎ (grown.count ≤ q) → IsRow part.items part.flags (rows.height - q) q (grown.row q) rows.ranks
      by (inl before) = grown.each q before
      by (inr from) =
          let same : grown.count ≡ q = omega arith in
          subst (λ r. IsRow part.items part.flags (rows.height - r) r (grown.row r) rows.ranks) same here

  -- a row has so many places
  row_full : 64 * ((grown.count + 1) * words_for (length part.items)) + 0 ≡ 64 * (grown.count * words_for (length part.items)) + rows.at
  row_full = omega (arith, end)

  pub AreGrown-next : grown.count + 1 < rows_to rows.height → AreGrown part (record rows { source = rows.target; target = rows.source; at = 0 })
  AreGrown-next below = record {
    count = grown.count + 1;
    row = more_rows;
    lower = 0;
    below = below;
    all_live = grown.all_live;
    each_place = grown.each_place;
    stride = grown.stride;
    same_height = grown.same_height;
    fresh = grown.fresh;
    blocks = blocks;
    each = each;
    source = carried_again part.items rows.target.items grown.target ∙ ap (map (carried_of part.items)) (sym (last_row (grown.count + 1) refl));
    target = subst (λ (l : List Carried). All (λ c. c ≡ carried_of part.items c.place) l) (sym grown.source)
        (All-map (λ (c : Carried). c ≡ carried_of part.items c.place) (carried_of part.items) (grown.row grown.count) (λ k d inside. refl));
    at_within = omega arith;
    second = omega (arith, grown.second, row_full);
    live = omega (arith, grown.live, row_full);
    weights = omega (arith, grown.weights, row_full);
    begun = record {
      second = slice_none rows.ranks.second (64 * ((grown.count + 1) * rows.ranks.stride) + 0) (64 * ((grown.count + 1) * rows.ranks.stride) + 0) (omega arith);
      live = slice_none rows.ranks.live (64 * ((grown.count + 1) * rows.ranks.stride) + 0) (64 * ((grown.count + 1) * rows.ranks.stride) + 0) (omega arith);
      weights = slice_none rows.ranks.weights (64 * ((grown.count + 1) * rows.ranks.stride) + 0) (64 * ((grown.count + 1) * rows.ranks.stride) + 0) (omega arith);
    };
    moved = moved_none (more_rows (grown.count + 1)) (map (λ (c : Carried). c.place) rows.source.items) (rows.height - (grown.count + 1) - 1) (length part.items)
        (omega (
          arith,
          ap length grown.source,
          length-map (grown.row grown.count) (carried_of part.items),
          length-map rows.source.items (λ (c : Carried). c.place),
          grown.moved.long,
          ap length (last_row (grown.count + 1) refl),
        ));
    left = omega (arith, grown.left, row_full);
  }

  pub AreRows-ended : grown.count + 1 ≡ rows_to rows.height → AreRows part rows.height (rows_to rows.height) rows.ranks rows.target.items
  AreRows-ended last = record {
    rows = more_rows;
    stride = grown.stride;
    same_height = grown.same_height;
    blocks = λ q le. blocks q (omega (arith, last));
    each = λ q less. each q (omega (arith, last));
    last = sym (last_row (rows_to rows.height) (sym last));
  }

  -- turns are left exactly where another row is to come
  pub next_below : 0 < rows.left → grown.count + 1 < rows_to rows.height
  next_below more = by (cases_lt (grown.count + 1) (rows_to rows.height))
    where
      by : (grown.count + 1 < rows_to rows.height) ⊎ (rows_to rows.height ≤ grown.count + 1) → grown.count + 1 < rows_to rows.height
      by (inl below) = below
      by (inr from) =
          let last : rows_to rows.height ≡ grown.count + 1 = omega (arith, grown.below) in
          absurd (omega (arith, grown.left, end, ap (λ r. r * (64 * words_for (length part.items))) last))

  pub last_ended : 0 < words_for (length part.items) → rows.left ≡ 0 → grown.count + 1 ≡ rows_to rows.height
  last_ended some none = by (cases_lt (grown.count + 1) (rows_to rows.height))
    where
      by : (grown.count + 1 < rows_to rows.height) ⊎ (rows_to rows.height ≤ grown.count + 1) → grown.count + 1 ≡ rows_to rows.height
      by (inl below) =
          absurd (omega (
            arith,
            grown.left,
            end,
            none,
            mul-le (grown.count + 2) (64 * words_for (length part.items)) (rows_to rows.height) (64 * words_for (length part.items)) (omega (arith, below)) (omega arith),
            some,
          ))
      by (inr from) = omega (arith, grown.below)

-- what grows keeps all else
pub IsGrowing-kept : (part : Contents Point) (old : RangeTree) → IsGrowing part old → (ranks : Ranked) (source target : Entries Carried) (at left : ℕ)
    → ranks.room ≡ old.ranks.room
    → (source.capacity ≡ old.top.capacity) → (target.capacity ≡ old.top.capacity)
    → (0 < left → AreGrown part (record old { ranks = ranks; source = source; target = target; at = at; left = left }))
    → (0 < left → at < 64 * words_for (length part.items))
    → (left ≡ 0 → AreRows part old.height (rows_to old.height) ranks source.items)
    → IsGrowing part (record old { ranks = ranks; source = source; target = target; at = at; left = left })
IsGrowing-kept part old growing ranks source target at left room has_source has_target grown unended ended = record {
  room = record {
    small = growing.room.small;
    xs = growing.room.xs;
    leaves = growing.room.leaves;
    top = growing.room.top;
    source = has_source;
    target = has_target;
    ranks = omega (arith, growing.room.ranks, room);
    none = growing.room.none;
  };
  few = growing.few;
  height = growing.height;
  xs = growing.xs;
  leaves = growing.leaves;
  top = growing.top;
  grown = grown;
  unended = unended;
  ended = λ none. record {
    few = few_points;
    height = growing.height;
    xs = growing.xs;
    leaves = growing.leaves;
    top = growing.top;
    ranks = λ some. ended none;
  };
}
  where
    few_points : length part.items ≤ 2 ^ 31
    few_points =
        let level : part.at_level ≤ 31 = omega (arith, growing.room.small) in
        let most : 2 ^ part.at_level ≤ 2 ^ 31 = pow_mono level in
        omega (arith, most, growing.few)

-- ---- one turn

module _ (part : Contents Point) (old : RangeTree) (growing : IsGrowing part old) (more : 0 < old.left) where
  level_few : part.at_level ≤ 31
  level_few = omega (arith, growing.room.small)

  pub points_few : length part.items ≤ 2 ^ 31
  points_few = let most : 2 ^ part.at_level ≤ 2 ^ 31 = pow_mono level_few in omega (arith, most, growing.few)

  height_least : (h : ℕ) → length part.items ≤ 2 ^ h → old.height ≤ h
  height_least h few = omega (arith, growing.height, (IsLeastHeight-height_of (length part.items) (omega (arith, points_few))).least h few)

  pub height_low : old.height ≤ 31
  height_low = height_least 31 points_few

  -- there is room for the next place
  pub room_left : length old.ranks.second < old.ranks.room
  room_left =
      let grown = growing.grown more in
      let level : old.height ≤ part.at_level = height_least part.at_level growing.few in
      let tall : part.at_level ≡ part.at_level - 6 + 6 = omega (arith, grown.below, level) in
      let size : 2 ^ part.at_level ≡ 64 * 2 ^ (part.at_level - 6) = ap (λ h. 2 ^ h) tall ∙ eights (part.at_level - 6) in
      let wide : 64 * words_for (length part.items) ≤ 2 ^ part.at_level = omega (arith, size, growing.few) in
      let some : 0 < rows_to part.at_level = omega (arith, grown.below, level) in
      omega (
        arith,
        grown.second,
        growing.unended more,
        mul-le (grown.count + 1) (64 * words_for (length part.items)) (rows_to part.at_level) (2 ^ part.at_level) (omega (arith, grown.below, level)) wide,
        growing.room.ranks,
      )

  module _ (ranks : Ranked) (target : Entries Carried) (room : ranks.room ≡ old.ranks.room) (capacity : target.capacity ≡ old.target.capacity)
      (grown : AreGrown part (record old { ranks = ranks; target = target; at = old.at + 1; left = old.left - 1 })) where
    -- in a row
    pub IsGrowing-on : old.at + 1 < 64 * words_for (length part.items) → IsGrowing part (record old { ranks = ranks; target = target; at = old.at + 1; left = old.left - 1 })
    IsGrowing-on inside =
        IsGrowing-kept part old growing ranks old.source target (old.at + 1) (old.left - 1) room growing.room.source
        (capacity ∙ growing.room.target) (λ left. grown) (λ left. inside)
        (λ none. absurd (omega (arith, none, more_left part (record old { ranks = ranks; target = target; at = old.at + 1; left = old.left - 1 }) grown inside)))

    -- at its end
    pub IsGrowing-turned : old.at + 1 ≡ 64 * words_for (length part.items)
        → IsGrowing part (record old { ranks = ranks; source = target; target = old.source; at = 0; left = old.left - 1 })
    IsGrowing-turned end =
        let rows : RangeTree = record old { ranks = ranks; target = target; at = old.at + 1; left = old.left - 1 } in
        let words : 0 < words_for (length part.items) = omega (arith, end) in
        IsGrowing-kept part old growing ranks target old.source 0 (old.left - 1) room (capacity ∙ growing.room.target) growing.room.source
        (λ left. AreGrown-next part rows grown end (next_below part rows grown end left)) (λ left. omega (arith, words))
        (λ none. AreRows-ended part rows grown end (last_ended part rows grown end words none))
