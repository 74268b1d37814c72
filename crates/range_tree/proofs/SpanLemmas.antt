-- The spans of a rectangle, in blocks of rows and in their halves (Chazelle 1988).
use Rattle.std.proofs.Common.{◌≡◌, ◌≢◌, ℕ, ◌+◌, ◌-◌, ◌^◌, ◌<◌, ◌≤◌, ◌&&◌, ◌⊎◌, inl, inr, Bool, true, false, cond, nat_le, List, [], ◌∷◌, length, length-append, length-take, get_or, take, drop, min, All, slice_range, refl, sym, ap, ◌∙◌, subst, arith, pow_mono}
use Rattle.std.specs.List.{filter, flat_map, range_with_len}
use Rattle.std.proofs.lemmas.Bool.{cases_lt}
use Rattle.std.proofs.lemmas.Bool.Decides.{nat_tests}
use Rattle.std.proofs.lemmas.List.{map-id}
use Rattle.std.proofs.lemmas.List.Elements.{All-head, All-tail, All-take, All-drop, All-from_get_or, filter-append}
use Rattle.std.proofs.lemmas.List.FromFn.{length-range_with_len}
use Rattle.query_laws.specs.Permuted.{Permuted}
use Rattle.query_laws.proofs.Permutations.{Permuted-length}
use Rattle.builder_trait.specs.Parts.{Contents}
use Rattle.row_blocks.specs.Blocks.{IsMultiple}
use Rattle.row_blocks.specs.Heights.{IsLeastHeight-height_of}
use Rattle.row_blocks.specs.Partitions.{block_of, is_in_block, HasEachPlace}
use Rattle.row_blocks.proofs.Blocks.{first_half, second_half}
use Rattle.row_blocks.proofs.Lists.{take-split, filter_all}
use Rattle.row_blocks.proofs.Partitioning.{blocks_apart, in_block, from_in_block, place_within}
use Rattle.rank_rows.specs.Ranked.{rank, IsFront}
use Rattle.map_shapes.specs.declared.point.Point.{Point}
use Rattle.range_tree.specs.declared.scanning.Places.{Places}
use Rattle.range_tree.specs.declared.descending.Span.{Span}
use Rattle.range_tree.specs.declared.descending.Cut.TheVariants.{Whole}
use Rattle.range_tree.specs.declared.rows.RangeTree.{RangeTree}
use Rattle.range_tree.specs.Heights.{lowest, rows_to}
use Rattle.range_tree.specs.Tree.{IsTree}
use Rattle.range_tree.specs.Queries.{live_at, image_of, IsSpan, AreWhole, AreHalves, IsCut, is_at, is_inside, ends_inside, live_in_span}
use Rattle.range_tree.proofs.RowSlices.{IsFront-image, first_image, second_image}
use Rattle.range_tree.proofs.SpanSums.{none_at}

-- ---- the places of a part

module _ (part : Contents Point) (each : Permuted part.places (range_with_len 0 (length part.items))) where
  pub many_places : length part.places ≡ length part.items
  many_places = Permuted-length each ∙ length-range_with_len 0 (length part.items)

  pub has_each : HasEachPlace (λ p. p) part.places
  has_each =
      subst (λ l. Permuted l (range_with_len 0 (length part.places))) (sym (map-id part.places))
      (subst (λ n. Permuted part.places (range_with_len 0 n)) (sym many_places) each)

  pub places_below : All (λ p. p < length part.items) part.places
  places_below =
      All-from_get_or (λ p. p < length part.items) part.places 0
      (λ i inside. omega (arith, many_places, place_within (λ p. p) part.places has_each i 0 inside))

some_in_block : (n h start : ℕ) (xs : List ℕ) → All (λ p. p < n) xs → 0 < length (block_of (λ p. p) h start xs) → start < n
some_in_block n h start [] all some = absurd (omega arith)
some_in_block n h start (x ∷ xs) all some =
    by (some_in_block n h start xs (All-tail (λ p. p < n) x xs all)) (is_in_block (λ p. p) h start x) refl some
  where
    by : (0 < length (block_of (λ p. p) h start xs) → start < n) → (inside : Bool) → is_in_block (λ p. p) h start x ≡ inside
        → 0 < length (cond inside (x ∷ block_of (λ p. p) h start xs) (block_of (λ p. p) h start xs)) → start < n
    by rest true is some = let both = from_in_block (λ p. p) h start x is in omega (arith, both.0, All-head (λ p. p < n) x xs all)
    by rest false is some = rest some

empty_list : {A : Type 0} (xs : List A) → length xs ≡ 0 → xs ≡ []
empty_list [] none = refl
empty_list (x ∷ xs) none = absurd (omega arith)

-- ---- heights

module _ (part : Contents Point) (rows : RangeTree) (tree : IsTree part rows) where
  pub height-small : rows.height ≤ 31
  height-small = omega (arith, tree.height, (IsLeastHeight-height_of (length part.items) (omega (arith, tree.few))).least 31 (omega (arith, tree.few)))

  pub height-above : length part.items ≤ 2 ^ rows.height
  height-above =
      subst (λ h. length part.items ≤ 2 ^ h) (sym tree.height) (IsLeastHeight-height_of (length part.items) (omega (arith, tree.few))).above

  pub block-small : (h : ℕ) → h ≤ rows.height → 2 ^ h ≤ 2 ^ 31
  block-small h le = let low : h ≤ 31 = omega (arith, height-small) in pow_mono low

-- ---- one block against some places

-- a place inside a block is inside it
inside_is : (start len p : ℕ) → start < p → p < start + len → is_inside start len p ≡ 1
inside_is start len p low high = grind (arith, nat_tests)

-- and is inside one half of it at most
pub inside_halves : (start half len p : ℕ) → len ≡ half + half → is_inside start half p + is_inside (start + half) half p ≤ is_inside start len p
inside_halves start half len p twice = grind (arith, nat_tests)

not_both : (a start end b : ℕ) → (nat_le a start && nat_le end b) ≡ false → (start < a) ⊎ (b < end)
not_both a start end b failed = by (cases_lt start a)
  where
    by : (start < a) ⊎ (a ≤ start) → (start < a) ⊎ (b < end)
    by (inl less) = inl less
    by (inr from) = let more : b < end = grind (arith, nat_tests) in inr more

pub both-from : (a start end b : ℕ) → (nat_le a start && nat_le end b) ≡ true → (a ≤ start) × (end ≤ b)
both-from a start end b passed = (grind (arith, nat_tests), grind (arith, nat_tests))

module _ (part : Contents Point) (rows : RangeTree) (each : Permuted part.places (range_with_len 0 (length part.items))) (low high : ℕ)
    (span : Span) (is : IsSpan part rows low high span) where
  between : length (block_of (λ p. p) (rows.height - span.row) span.start (take high part.places))
      ≡ length (block_of (λ p. p) (rows.height - span.row) span.start (take low part.places))
      + length (block_of (λ p. p) (rows.height - span.row) span.start (slice_range part.places low high))
  between =
      let test = is_in_block (λ p. p) (rows.height - span.row) span.start in
      ap (λ xs. length (filter test xs)) (take-split part.places low high is.ordered)
      ∙ ap length (filter-append test (take low part.places) (slice_range part.places low high))
      ∙ length-append (filter test (take low part.places)) (filter test (slice_range part.places low high))

  pub span_ordered : span.from ≤ span.to
  span_ordered = omega (arith, is.from, is.to, between)

  pub slice_below : All (λ p. p < length part.items) (slice_range part.places low high)
  slice_below =
      All-take (λ p. p < length part.items) (high - low) (drop low part.places) (All-drop (λ p. p < length part.items) low part.places (places_below part each))

  pub cut_there : span.from ≢ span.to → span.start < length part.items
  cut_there differs =
      some_in_block (length part.items) (rows.height - span.row) span.start (take high part.places)
      (All-take (λ p. p < length part.items) high part.places (places_below part each)) (omega (arith, is.from, is.to, between, differs))

  module _ (places : Places) where
    pub cut_empty : span.from ≡ span.to → live_in_span part rows low high places span ≡ []
    cut_empty same =
        let none : block_of (λ p. p) (rows.height - span.row) span.start (slice_range part.places low high) ≡ [] =
        empty_list (block_of (λ p. p) (rows.height - span.row) span.start (slice_range part.places low high)) (omega (arith, is.from, is.to, between, same)) in
        ap (λ xs. flat_map (live_at part) (filter (is_at places) xs)) none

    module _ (end : ℕ) (end_is : end ≡ min (span.start + 2 ^ (rows.height - span.row)) (length part.items)) where
      pub cut_outside : (end ≤ places.from) ⊎ (places.to ≤ span.start) → live_in_span part rows low high places span ≡ []
      cut_outside outside =
          ap (flat_map (live_at part))
          (none_at part places (rows.height - span.row) span.start (slice_range part.places low high) slice_below (λ p from to inside. by p from to inside outside))
        where
          by : (p : ℕ) → span.start ≤ p → p < span.start + 2 ^ (rows.height - span.row) → p < length part.items
              → (end ≤ places.from) ⊎ (places.to ≤ span.start) → (p < places.from) ⊎ (places.to ≤ p)
          by p from to inside (inl before) = let less : p < places.from = omega (arith, end_is) in inl less
          by p from to inside (inr behind) = let more : places.to ≤ p = omega arith in inr more

      pub cut_whole : span.start < length part.items → places.from ≤ span.start → end ≤ places.to → IsCut part rows low high places span Whole
      cut_whole there from to = (there, λ k above below inside. (omega arith, omega (arith, end_is)))

      pub cut_inner : AreWhole part places → places.from < end → span.start < places.to → (nat_le places.from span.start && nat_le end places.to) ≡ false
          → (span.row + 1 < rows_to rows.height) × (1 ≤ ends_inside rows.height places span)
      cut_inner whole before behind failed = (by_row (cases_lt (span.row + 1) (rows_to rows.height)) (not_both places.from span.start end places.to failed), by_end (not_both places.from span.start end places.to failed))
        where
          by_end : (span.start < places.from) ⊎ (places.to < end) → 1 ≤ ends_inside rows.height places span
          by_end (inl less) = omega (arith, inside_is span.start (2 ^ (rows.height - span.row)) places.from less (omega (arith, end_is)))
          by_end (inr more) = omega (arith, inside_is span.start (2 ^ (rows.height - span.row)) places.to behind (omega (arith, end_is)))

          by_row : (span.row + 1 < rows_to rows.height) ⊎ (rows_to rows.height ≤ span.row + 1) → (span.start < places.from) ⊎ (places.to < end) → span.row + 1 < rows_to rows.height
          by_row (inl below) _ = below
          by_row (inr last) ends =
              let g : rows.height - span.row ≡ lowest = omega (arith, is.row) in
              let block : IsMultiple span.start lowest = subst (λ h. IsMultiple span.start h) g is.block in
              let size : 2 ^ (rows.height - span.row) ≡ 512 = ap (λ h. 2 ^ h) g in
              absurd (elim ends [
                | inl less ↦ let le = blocks_apart block whole.from less in let no : ⊥ = omega (arith, end_is, size) in no
                | inr more ↦ let le = blocks_apart block whole.to behind in let no : ⊥ = omega (arith, end_is, size) in no
              ])

-- ---- its halves

module _ (part : Contents Point) (rows : RangeTree) (each : Permuted part.places (range_with_len 0 (length part.items))) (tree : IsTree part rows)
    (low high : ℕ) (span : Span) (is : IsSpan part rows low high span) (there : span.start < length part.items) where
  pub span_front : (n at : ℕ) → at ≡ image_of part.places (rows.height - span.row) span.start n → IsFront rows.ranks span.row span.start at
  span_front n at image =
      subst (λ k. IsFront rows.ranks span.row span.start k) (sym image)
      (IsFront-image part rows.height (rows_to rows.height) rows.ranks rows.source.items (tree.ranks (omega (arith, is.row))) (many_places part each) span.row is.row
      span.start is.block there (omega (arith, is.row)) n)

  module _ (below : span.row + 1 < rows_to rows.height) where
    pub AreHalves-made : (middle f1 t1 f2 t2 : ℕ) → middle ≡ span.start + 2 ^ (rows.height - span.row - 1)
        → f1 + rank rows.ranks span.row span.start span.from ≡ span.from
        → f2 ≡ span.start + 2 ^ (rows.ranks.height - span.row - 1) + rank rows.ranks span.row span.start span.from
        → t1 + rank rows.ranks span.row span.start span.to ≡ span.to
        → t2 ≡ span.start + 2 ^ (rows.ranks.height - span.row - 1) + rank rows.ranks span.row span.start span.to
        → AreHalves part rows low high span (record { row = span.row + 1; start = span.start; from = f1; to = t1 })
        (record { row = span.row + 1; start = middle; from = f2; to = t2 })
    AreHalves-made middle f1 t1 f2 t2 half first_from second_from first_to second_to =
        let k : ℕ = rows.height - (span.row + 1) in
        let count = rows_to rows.height in
        let the = tree.ranks (omega (arith, is.row)) in
        let many = many_places part each in
        let tall : span.row + 6 < rows.height = omega (arith, is.row) in
        let next : rows.height - span.row ≡ k + 1 = omega (arith, is.row) in
        let lower : rows.height - span.row - 1 ≡ k = omega arith in
        let kept : rows.ranks.height - span.row - 1 ≡ k = omega (arith, the.same_height) in
        let center : span.start + 2 ^ k ≡ middle = sym (half ∙ ap (λ j. span.start + 2 ^ j) lower) in
        let multiple : IsMultiple span.start (k + 1) = subst (λ h. IsMultiple span.start h) next is.block in
        let first : (n from f : ℕ) → from ≡ image_of part.places (rows.height - span.row) span.start n → f + rank rows.ranks span.row span.start from ≡ from
        → f ≡ image_of part.places k span.start n =
        first_image part rows.height count rows.ranks rows.source.items the many span.row is.row span.start is.block there tall k next in
        let second : (n from f : ℕ) → from ≡ image_of part.places (rows.height - span.row) span.start n
        → f ≡ span.start + 2 ^ (rows.ranks.height - span.row - 1) + rank rows.ranks span.row span.start from → f ≡ image_of part.places k middle n =
        λ n from f image spot.
        subst (λ m. f ≡ image_of part.places k m n) center
        (second_image part rows.height count rows.ranks rows.source.items the many span.row is.row span.start is.block there tall k next n from f image
        (spot ∙ ap (λ j. span.start + 2 ^ j + rank rows.ranks span.row span.start from) kept)) in
        record {
          first_row = refl;
          second_row = refl;
          first_start = refl;
          second_start = half;
          first_span = record {
            ordered = is.ordered;
            within = is.within;
            row = below;
            block = first_half span.start k multiple;
            from = first low span.from f1 is.from first_from;
            to = first high span.to t1 is.to first_to;
          };
          second_span = record {
            ordered = is.ordered;
            within = is.within;
            row = below;
            block = subst (λ m. IsMultiple m k) center (second_half span.start k multiple);
            from = second low span.from f2 is.from second_from;
            to = second high span.to t2 is.to second_to;
          };
        }

-- in the first row a front of the second order is its own image
pub whole_image : (part : Contents Point) (rows : RangeTree) → Permuted part.places (range_with_len 0 (length part.items)) → IsTree part rows
    → (n : ℕ) → n ≤ length part.places → n ≡ image_of part.places (rows.height - 0) 0 n
whole_image part rows each tree n within =
    let below = All-take (λ p. p < length part.items) n part.places (places_below part each) in
    let test = is_in_block (λ p. p) (rows.height - 0) 0 in
    let above = height-above part rows tree in
    let same : rows.height - 0 ≡ rows.height = omega arith in
    let size : 2 ^ (rows.height - 0) ≡ 2 ^ rows.height = ap (λ h. 2 ^ h) same in
    let all : filter test (take n part.places) ≡ take n part.places =
    filter_all test (take n part.places)
    (λ k d inside. in_block (λ p. p) (rows.height - 0) 0 (get_or (take n part.places) k d) (omega arith) (omega (arith, above, size, below k d inside))) in
    omega (arith, ap length all, length-take n part.places)
