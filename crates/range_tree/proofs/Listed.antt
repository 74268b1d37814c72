-- The live points of neighbouring positions of a row, one after another.
use Rattle.std.proofs.Common.{◌≡◌, ℕ, ◌+◌, ◌-◌, ◌*◌, ◌<◌, ◌≤◌, ◌⊎◌, inl, inr, true, false, cond, List, [], ◌∷◌, ◌++◌, length, length-append, take, drop, map, get_or, Some, slice_get, slice_range, refl, sym, ap, ap₂, ◌∙◌, arith, append-nil, append_assoc}
use Rattle.std.specs.List.{flat_map, range_with_len}
use Rattle.std.specs.Option.{option_to_list}
use Rattle.std.proofs.lemmas.Bool.{cases_lt}
use Rattle.std.proofs.lemmas.Option.{same_Some}
use Rattle.std.proofs.lemmas.List.{drop_more, map-append}
use Rattle.std.proofs.lemmas.List.Concat.{flat_map-append}
use Rattle.std.proofs.lemmas.List.Elements.{All-take, All-drop, All-from_get_or}
use Rattle.query_laws.specs.Permuted.{Permuted}
use Rattle.builder_trait.specs.Parts.{Contents}
use Rattle.row_blocks.specs.Partitions.{IsInBlocks}
use Rattle.row_blocks.proofs.Lists.{slice_range-map}
use Rattle.rank_rows.specs.Ranked.{Ranked, place_at, slice_of, how_many}
use Rattle.map_shapes.specs.declared.point.Point.{Point}
use Rattle.range_tree.specs.declared.rows.RangeTree.{RangeTree}
use Rattle.range_tree.specs.declared.scanning.Places.{Places}
use Rattle.range_tree.specs.declared.descending.Span.{Span}
use Rattle.range_tree.specs.declared.descending.Cut.TheVariants.{Whole}
use Rattle.range_tree.specs.Heights.{rows_to}
use Rattle.range_tree.specs.Tree.{IsTree, is_live_at}
use Rattle.range_tree.specs.Marks.{IsStanding}
use Rattle.range_tree.specs.Queries.{live_at, IsSpan, IsCut, live_in_span}
use Rattle.range_tree.proofs.RowSlices.{row_between, image_within, slice_of-part, slice_range-append, how_many-map}
use Rattle.range_tree.proofs.SpanSums.{count_live}
use Rattle.range_tree.proofs.SpanLemmas.{many_places, places_below}
use Rattle.range_tree.proofs.SpanMeasures.{all_live}
use Rattle.range_tree.proofs.MarkedRows.{row_read}
use Rattle.range_tree.proofs.Carrying.{row_below}

no_points : {A : Type 0} (xs : List A) → length xs ≡ 0 → xs ≡ []
no_points [] none = refl
no_points (x ∷ xs) none = absurd (omega arith)

one_slice : (xs : List ℕ) (k : ℕ) → k < length xs → slice_range xs k (k + 1) ≡ get_or xs k 0 ∷ []
one_slice xs k inside =
    let one : k + 1 - k ≡ 1 = omega arith in
    ap₂ (λ n l. take n l) one (drop_more xs k 0 inside)

module _ (part : Contents Point) (each : Permuted part.places (range_with_len 0 (length part.items))) (height : ℕ) (ranks : Ranked)
    (list : List ℕ) (row : ℕ) (long : length list ≡ length part.items) (below : (k : ℕ) → k < length list → get_or list k 0 < length part.items)
    (live : slice_of ranks ranks.live row 0 (length list) ≡ map (is_live_at part.flags) list) where
  -- what is live between two positions
  abbrev pub points_between : ℕ → ℕ → List Point
  points_between a b = flat_map (live_at part) (slice_range list a b)

  pub lives_between : (a b : ℕ) → a ≤ b → b ≤ length part.items → how_many (slice_of ranks ranks.live row a b) ≡ length (points_between a b)
  lives_between a b ordered within =
      ap how_many (slice_of-part ranks ranks.live row (length list) a b (map (is_live_at part.flags) list) live ordered (omega (arith, long, within))
      ∙ slice_range-map (is_live_at part.flags) list a b)
      ∙ how_many-map (is_live_at part.flags) (slice_range list a b)
      ∙ sym (count_live part (slice_range list a b)
      (All-take (λ p. p < length part.items) (b - a) (drop a list)
      (All-drop (λ p. p < length part.items) a list (All-from_get_or (λ p. p < length part.items) list 0 below))))

  pub points_split : (a m b : ℕ) → a ≤ m → m ≤ b → points_between a b ≡ points_between a m ++ points_between m b
  points_split a m b first second =
      ap (flat_map (live_at part)) (slice_range-append list a m b first second) ∙ flat_map-append (live_at part) (slice_range list a m) (slice_range list m b)

  -- between positions with as many live ones before them is none
  pub points_none : (start a b : ℕ) → start ≤ a → a ≤ b → b ≤ length part.items → how_many (slice_of ranks ranks.live row start a) ≡ how_many (slice_of ranks ranks.live row start b)
      → points_between a b ≡ []
  points_none start a b from ordered within same =
      no_points (points_between a b)
      (omega (
        arith,
        same,
        lives_between start a from (omega arith),
        lives_between start b (omega arith) within,
        ap length (points_split start a b from ordered),
        length-append (points_between start a) (points_between a b),
      ))

  module _ (k : ℕ) (inside : k < length part.items) (lives : slice_get ranks.live (place_at ranks row k) ≡ Some true) where
    live_here : is_live_at part.flags (get_or list k 0) ≡ true
    live_here =
        same_Some (is_live_at part.flags (get_or list k 0)) true
        (sym (row_read ranks.live (is_live_at part.flags) list (64 * (row * ranks.stride)) k live (omega (arith, long, inside)) false) ∙ lives)

    -- at a live position stands its point
    pub points_one : (item : Point) → slice_get part.items (get_or list k 0) ≡ Some item → points_between k (k + 1) ≡ item ∷ []
    points_one item there =
        ap (flat_map (live_at part)) (one_slice list k (omega (arith, long, inside))) ∙ append-nil (live_at part (get_or list k 0))
        ∙ ap (λ b. cond b (option_to_list (slice_get part.items (get_or list k 0))) []) live_here ∙ ap option_to_list there

  -- the next live position has the next point
  pub points_next : (start from k found : ℕ) (item : Point) → start ≤ k → from ≤ k → k ≤ found → found < length part.items
      → how_many (slice_of ranks ranks.live row start k) ≡ how_many (slice_of ranks ranks.live row start found)
      → slice_get ranks.live (place_at ranks row found) ≡ Some true → slice_get part.items (get_or list found 0) ≡ Some item
      → points_between from (found + 1) ≡ points_between from k ++ item ∷ []
  points_next start from k found item begun first second inside same lives there =
      points_split from k (found + 1) first (omega arith)
      ∙ ap (λ l. points_between from k ++ l)
      (points_split k found (found + 1) second (omega arith)
      ∙ ap₂ (λ us vs. us ++ vs) (points_none start k found begun second (omega arith) same) (points_one found inside lives item there))

  -- and is one more
  pub lives_next : (start found : ℕ) → start ≤ found → found < length part.items → slice_get ranks.live (place_at ranks row found) ≡ Some true
      → (item : Point) → slice_get part.items (get_or list found 0) ≡ Some item
      → how_many (slice_of ranks ranks.live row start (found + 1)) ≡ how_many (slice_of ranks ranks.live row start found) + 1
  lives_next start found from inside lives item there =
      omega (
        arith,
        lives_between start found from (omega arith),
        lives_between start (found + 1) (omega arith) (omega arith),
        ap length (points_split start found (found + 1) from (omega arith)),
        length-append (points_between start found) (points_between found (found + 1)),
        ap length (points_one found inside lives item there),
      )

  pub lives_more : (start a b : ℕ) → start ≤ a → a ≤ b → b ≤ length part.items → how_many (slice_of ranks ranks.live row start a) ≤ how_many (slice_of ranks ranks.live row start b)
  lives_more start a b from ordered within =
      omega (
        arith,
        lives_between start a from (omega arith),
        lives_between start b (omega arith) within,
        ap length (points_split start a b from ordered),
        length-append (points_between start a) (points_between a b),
      )

-- ---- a row of a tree

module _ (part : Contents Point) (rows : RangeTree) (each : Permuted part.places (range_with_len 0 (length part.items))) (tree : IsTree part rows) (row : ℕ)
    (inside : row < rows_to rows.height) (some : 0 < rows_to rows.height) where
  abbrev pub list_of : List ℕ
  list_of = (tree.ranks some).rows row

  many : length part.places ≡ length part.items
  many = many_places part each

  pub list_long : length ((tree.ranks some).rows row) ≡ length part.items
  list_long = omega (arith, ((tree.ranks some).blocks row (omega arith)).as_many, many)

  pub list_below : (k : ℕ) → k < length ((tree.ranks some).rows row) → get_or ((tree.ranks some).rows row) k 0 < length part.items
  list_below =
      row_below part.places ((tree.ranks some).rows row) (length part.items) (rows.height - row) (places_below part each) ((tree.ranks some).blocks row (omega arith))

  pub list_standing : (k : ℕ) → k < length part.items → IsStanding part (get_or ((tree.ranks some).rows row) k 0) rows.height row k rows.ranks rows.source.items
  list_standing k within = record { each = each; rows_are = tree.ranks some; below = omega arith; within = within; at = refl }

-- the points of a span are those between its positions
module _ (part : Contents Point) (rows : RangeTree) (each : Permuted part.places (range_with_len 0 (length part.items))) (tree : IsTree part rows)
    (low high : ℕ) (span : Span) (is : IsSpan part rows low high span) (there : span.start < length part.items) (some : 0 < rows_to rows.height) where
  blocks : IsInBlocks (λ p. p) part.places (rows.height - span.row) ((tree.ranks some).rows span.row)
  blocks = (tree.ranks some).blocks span.row (omega (arith, is.row))

  pub span_within : span.to ≤ length part.items
  span_within =
      omega (
        arith,
        is.to,
        many_places part each,
        image_within part.places ((tree.ranks some).rows span.row) (rows.height - span.row) span.start blocks is.block (omega (arith, many_places part each, there)) high,
      )

  pub span_points : (places : Places) → IsCut part rows low high places span Whole
      → live_in_span part rows low high places span ≡ flat_map (live_at part) (slice_range ((tree.ranks some).rows span.row) span.from span.to)
  span_points places whole =
      all_live part rows each tree low high span is there places whole
      ∙ ap (flat_map (live_at part))
      (sym (ap₂ (λ i j. slice_range ((tree.ranks some).rows span.row) i j) is.from is.to
      ∙ row_between part.places ((tree.ranks some).rows span.row) (rows.height - span.row) span.start blocks is.block (omega (arith, many_places part each, there)) low high is.ordered))

  row_live : slice_of rows.ranks rows.ranks.live span.row 0 (length ((tree.ranks some).rows span.row)) ≡ map (is_live_at part.flags) ((tree.ranks some).rows span.row)
  row_live = ((tree.ranks some).each span.row is.row).live

  span_long : length ((tree.ranks some).rows span.row) ≡ length part.items
  span_long = list_long part rows each tree span.row is.row some

  span_below : (k : ℕ) → k < length ((tree.ranks some).rows span.row) → get_or ((tree.ranks some).rows span.row) k 0 < length part.items
  span_below = list_below part rows each tree span.row is.row some

  begins : span.start ≤ span.from
  begins = omega (arith, is.from)

  abbrev lives : ℕ → ℕ
  lives k = how_many (slice_of rows.ranks rows.ranks.live span.row span.start k)

  abbrev listed : ℕ → ℕ → List Point
  listed a b = flat_map (live_at part) (slice_range ((tree.ranks some).rows span.row) a b)

  pub span_next : (k found : ℕ) (item : Point) → span.from ≤ k → k ≤ found → found < span.to → lives k ≡ lives found
      → slice_get rows.ranks.live (place_at rows.ranks span.row found) ≡ Some true → slice_get part.items (get_or ((tree.ranks some).rows span.row) found 0) ≡ Some item
      → listed span.from (found + 1) ≡ listed span.from k ++ item ∷ []
  span_next k found item from more to same is_live at =
      points_next part each rows.height rows.ranks ((tree.ranks some).rows span.row) span.row span_long span_below row_live span.start span.from k found item
      (omega (arith, begins)) from more (omega (arith, span_within)) same is_live at

  pub span_lives_next : (found : ℕ) (item : Point) → span.from ≤ found → found < span.to
      → slice_get rows.ranks.live (place_at rows.ranks span.row found) ≡ Some true → slice_get part.items (get_or ((tree.ranks some).rows span.row) found 0) ≡ Some item
      → lives (found + 1) ≡ lives found + 1
  span_lives_next found item from to is_live at =
      lives_next part each rows.height rows.ranks ((tree.ranks some).rows span.row) span.row span_long span_below row_live span.start found (omega (arith, begins))
      (omega (arith, span_within)) is_live item at

  pub span_rest : (k : ℕ) → span.from ≤ k → k ≤ span.to → lives k ≡ lives span.to → listed span.from span.to ≡ listed span.from k
  span_rest k from to same =
      points_split part each rows.height rows.ranks ((tree.ranks some).rows span.row) span.row span_long span_below row_live span.from k span.to from to
      ∙ ap (λ l. listed span.from k ++ l)
      (points_none part each rows.height rows.ranks ((tree.ranks some).rows span.row) span.row span_long span_below row_live span.start k span.to (omega (arith, begins)) to span_within same)
      ∙ append-nil (listed span.from k)

  pub span_more : (k : ℕ) → span.from ≤ k → k ≤ span.to → lives k ≤ lives span.to
  span_more k from to =
      lives_more part each rows.height rows.ranks ((tree.ranks some).rows span.row) span.row span_long span_below row_live span.start k span.to (omega (arith, begins)) to span_within

  pub span_counted : span.from ≤ span.to → lives span.to ≡ lives span.from + length (listed span.from span.to)
  span_counted ordered =
      omega (
        arith,
        lives_between part each rows.height rows.ranks ((tree.ranks some).rows span.row) span.row span_long span_below row_live span.start span.from begins (omega (arith, span_within, ordered)),
        lives_between part each rows.height rows.ranks ((tree.ranks some).rows span.row) span.row span_long span_below row_live span.start span.to (omega (arith, begins, ordered)) span_within,
        ap length (points_split part each rows.height rows.ranks ((tree.ranks some).rows span.row) span.row span_long span_below row_live span.start span.from span.to begins ordered),
        length-append (listed span.start span.from) (listed span.from span.to),
      )

  -- while live ones are to come, the next place is one of the span
  pub span_inside : (k rank : ℕ) → k ≤ span.to → lives k ≡ rank → rank < lives span.to → k < span.to
  span_inside k rank to ranked more = by (cases_lt k span.to)
    where
      by : (k < span.to) ⊎ (span.to ≤ k) → k < span.to
      by (inl less) = less
      by (inr from) = let same : k ≡ span.to = omega arith in absurd (omega (arith, ranked, more, ap lives same))

-- what was pushed
pub pushed_more : {X : Type 0} (f : X → ℕ) (old so_far new : List ℕ) (before all : List X) (x : X) → so_far ≡ old ++ map f before → all ≡ before ++ x ∷ []
    → new ≡ so_far ++ f x ∷ [] → new ≡ old ++ map f all
pushed_more f old so_far new before all x is more pushed =
    pushed ∙ ap (λ l. l ++ f x ∷ []) is ∙ append_assoc old (map f before) (f x ∷ [])
    ∙ ap (λ l. old ++ l) (sym (ap (map f) more ∙ map-append f before (x ∷ [])))
