-- What the ranks of a row tell of the live points of a span.
use Rattle.std.proofs.Common.{◌≡◌, ℕ, ◌+◌, ◌-◌, ◌*◌, ◌^◌, ◌<◌, ◌≤◌, Bool, cond, List, ◌++◌, length, map, sum, slice_range, sym, ap, ap₂, ◌∙◌, subst, arith}
use Rattle.std.specs.List.{filter, flat_map, sum_by, count_by, range_with_len}
use Rattle.std.proofs.lemmas.Nat.{mul-le}
use Rattle.std.proofs.lemmas.List.Elements.{All-filter}
use Rattle.std.proofs.lemmas.List.Sums.{sum_by-append}
use Rattle.query_laws.specs.Permuted.{Permuted}
use Rattle.builder_trait.specs.Parts.{Contents}
use Rattle.row_blocks.specs.Partitions.{block_of, is_in_block}
use Rattle.row_blocks.proofs.Blocks.{pow_next}
use Rattle.row_blocks.proofs.Lists.{slice_range-map}
use Rattle.rank_rows.specs.Ranked.{slice_of, how_many}
use Rattle.map_shapes.specs.declared.point.Point.{Point}
use Rattle.range_tree.specs.declared.measure.Measure.{Measure}
use Rattle.range_tree.specs.declared.measure.Measure.TheVariants.{Count, Weight}
use Rattle.range_tree.specs.declared.scanning.Places.{Places}
use Rattle.range_tree.specs.declared.descending.Span.{Span}
use Rattle.range_tree.specs.declared.descending.Cut.TheVariants.{Whole}
use Rattle.range_tree.specs.declared.rows.RangeTree.{RangeTree}
use Rattle.range_tree.specs.Heights.{rows_to}
use Rattle.range_tree.specs.Measures.{measure_of}
use Rattle.range_tree.specs.Costs.{blocks_touches}
use Rattle.range_tree.specs.Tree.{IsTree, is_live_at}
use Rattle.range_tree.specs.Queries.{live_at, IsSpan, AreHalves, IsCut, is_at, is_inside, ends_inside, live_in_span}
use Rattle.range_tree.proofs.RowSlices.{blocks_of, long, row_between, image_within, slice_of-part, slice_range-append, how_many-map}
use Rattle.range_tree.proofs.SpanSums.{sum_by-one, all_at, count_live, weigh_live, weight_here, counted_halves, counted_by-few, measure-few}
use Rattle.range_tree.proofs.SpanLemmas.{many_places, slice_below, span_ordered, inside_halves}

module _ (part : Contents Point) (rows : RangeTree) (each : Permuted part.places (range_with_len 0 (length part.items))) (tree : IsTree part rows)
    (low high : ℕ) (span : Span) (is : IsSpan part rows low high span) (there : span.start < length part.items) where
  -- the places of a span
  abbrev pub places_of : List ℕ
  places_of = block_of (λ p. p) (rows.height - span.row) span.start (slice_range part.places low high)

  -- what a row keeps of a front of a block, and of the span behind it
  fronts : {A : Type 0} (f : ℕ → A) (xs : List A)
      → slice_of rows.ranks xs span.row 0 (length ((tree.ranks (omega (arith, is.row))).rows span.row)) ≡ map f ((tree.ranks (omega (arith, is.row))).rows span.row)
      → slice_of rows.ranks xs span.row span.start span.to ≡ slice_of rows.ranks xs span.row span.start span.from ++ map f places_of
  fronts f xs kept =
      let the = tree.ranks (omega (arith, is.row)) in
      let row : List ℕ = the.rows span.row in
      let h = rows.height - span.row in
      let count = rows_to rows.height in
      let many = many_places part each in
      let blocks = blocks_of part rows.height count rows.ranks rows.source.items the many span.row is.row in
      let wide = long part rows.height count rows.ranks rows.source.items the many span.row is.row in
      let placed : span.start < length part.places = omega (arith, many, there) in
      let ordered = span_ordered part rows each low high span is in
      let last : span.to ≤ length row = omega (arith, is.to, wide, many, image_within part.places row h span.start blocks is.block placed high) in
      let begun : span.start ≤ span.from = omega (arith, is.from) in
      let mid : slice_range row span.from span.to ≡ places_of =
      ap₂ (λ i j. slice_range row i j) is.from is.to ∙ row_between part.places row h span.start blocks is.block placed low high is.ordered in
      slice_of-part rows.ranks xs span.row (length row) span.start span.to (map f row) kept (omega (arith, ordered, begun)) last
      ∙ slice_range-append (map f row) span.start span.from span.to begun ordered
      ∙ ap₂ (λ us vs. us ++ vs)
      (sym (slice_of-part rows.ranks xs span.row (length row) span.start span.from (map f row) kept begun (omega (arith, ordered, last))))
      (slice_range-map f row span.from span.to ∙ ap (map f) mid)

  pub live_fronts : how_many (slice_of rows.ranks rows.ranks.live span.row span.start span.to)
      ≡ how_many (slice_of rows.ranks rows.ranks.live span.row span.start span.from) + count_by (is_live_at part.flags) places_of
  live_fronts =
      let row = (tree.ranks (omega (arith, is.row))).each span.row is.row in
      ap how_many (fronts (is_live_at part.flags) rows.ranks.live row.live)
      ∙ sum_by-append (λ (b : Bool). cond b 1 0) (slice_of rows.ranks rows.ranks.live span.row span.start span.from) (map (is_live_at part.flags) places_of)
      ∙ ap (λ n. how_many (slice_of rows.ranks rows.ranks.live span.row span.start span.from) + n) (how_many-map (is_live_at part.flags) places_of)

  pub weight_fronts : sum (slice_of rows.ranks rows.ranks.weights span.row span.start span.to)
      ≡ sum (slice_of rows.ranks rows.ranks.weights span.row span.start span.from) + sum (map (weight_here part) places_of)
  weight_fronts =
      let row = (tree.ranks (omega (arith, is.row))).each span.row is.row in
      ap sum (fronts (weight_here part) rows.ranks.weights row.weights)
      ∙ sum_by-append (λ (n : ℕ). n) (slice_of rows.ranks rows.ranks.weights span.row span.start span.from) (map (weight_here part) places_of)

  module _ (places : Places) (whole : IsCut part rows low high places span Whole) where
    pub all_live : live_in_span part rows low high places span ≡ flat_map (live_at part) places_of
    all_live =
        ap (flat_map (live_at part))
        (all_at part places (rows.height - span.row) span.start (slice_range part.places low high) (slice_below part rows each low high span is) whole.1)

    pub counted_span : sum_by (measure_of Count) (live_in_span part rows low high places span) ≡ count_by (is_live_at part.flags) places_of
    counted_span =
        sum_by-one (live_in_span part rows low high places span) ∙ ap length all_live
        ∙ count_live part places_of
        (All-filter (is_in_block (λ p. p) (rows.height - span.row) span.start) (λ p. p < length part.items) (slice_range part.places low high) (slice_below part rows each low high span is))

    pub weighed_span : sum_by (measure_of Weight) (live_in_span part rows low high places span) ≡ sum (map (weight_here part) places_of)
    weighed_span = ap (sum_by (measure_of Weight)) all_live ∙ weigh_live part places_of

-- by halves
module _ (part : Contents Point) (rows : RangeTree) (low high : ℕ) (places : Places) (span first second : Span) (halves : AreHalves part rows low high span first second)
    (below : span.row + 1 < rows_to rows.height) where
  pub measure_halves : (f : Point → ℕ) → sum_by f (live_in_span part rows low high places span)
      ≡ sum_by f (live_in_span part rows low high places first) + sum_by f (live_in_span part rows low high places second)
  measure_halves f =
      let k : ℕ = rows.height - (span.row + 1) in
      let next : rows.height - span.row ≡ k + 1 = omega (arith, below) in
      let lower : rows.height - span.row - 1 ≡ k = omega arith in
      let counted : ℕ → ℕ → ℕ = λ h start.
      sum_by f (flat_map (live_at part) (filter (is_at places) (block_of (λ p. p) h start (slice_range part.places low high)))) in
      let first_is : counted (rows.height - first.row) first.start ≡ counted k span.start = ap₂ (λ r s. counted (rows.height - r) s) halves.first_row halves.first_start in
      let second_is : counted (rows.height - second.row) second.start ≡ counted k (span.start + 2 ^ k) =
      ap₂ (λ r s. counted (rows.height - r) s) halves.second_row (halves.second_start ∙ ap (λ j. span.start + 2 ^ j) lower) in
      ap (λ h. counted h span.start) next ∙ counted_halves part f (is_at places) k span.start (slice_range part.places low high)
      ∙ ap₂ (λ m n. m + n) (sym first_is) (sym second_is)

  -- an end is inside one half at most
  pub ends_halves : ends_inside rows.height places first + ends_inside rows.height places second ≤ ends_inside rows.height places span
  ends_halves =
      let k : ℕ = rows.height - (span.row + 1) in
      let next : rows.height - span.row ≡ k + 1 = omega (arith, below) in
      let lower : rows.height - span.row - 1 ≡ k = omega arith in
      let twice : 2 ^ (rows.height - span.row) ≡ 2 ^ k + 2 ^ k = ap (λ h. 2 ^ h) next ∙ pow_next k in
      let ends : ℕ → ℕ → ℕ = λ h start. is_inside start (2 ^ h) places.from + is_inside start (2 ^ h) places.to in
      let first_is : ends (rows.height - first.row) first.start ≡ ends k span.start = ap₂ (λ r s. ends (rows.height - r) s) halves.first_row halves.first_start in
      let second_is : ends (rows.height - second.row) second.start ≡ ends k (span.start + 2 ^ k) =
      ap₂ (λ r s. ends (rows.height - r) s) halves.second_row (halves.second_start ∙ ap (λ j. span.start + 2 ^ j) lower) in
      summed _ _ _ _ _ _ _ _ (inside_halves span.start (2 ^ k) (2 ^ (rows.height - span.row)) places.from twice) (inside_halves span.start (2 ^ k) (2 ^ (rows.height - span.row)) places.to twice) first_is second_is
    where
      summed : (a b c d s t m n : ℕ) → a + b ≤ m → c + d ≤ n → s ≡ a + c → t ≡ b + d → s + t ≤ m + n
      summed a b c d s t m n first second one two = omega arith

-- what is counted for some places is little
pub measure-small : (part : Contents Point) (rows : RangeTree) (low high : ℕ) (places : Places) (span : Span) (measure : Measure) → length (slice_range part.places low high) ≤ 2 ^ 31
    → sum_by (measure_of measure) (live_in_span part rows low high places span) ≤ 2 ^ 62
measure-small part rows low high places span measure few =
    omega (
      arith,
      few,
      counted_by-few part (measure_of measure) (is_at places) (2 ^ 31) (measure-few measure) (is_in_block (λ p. p) (rows.height - span.row) span.start) (slice_range part.places low high),
    )

-- the cost of a block that is taken whole
pub cost_whole : (more height row ends : ℕ) → row < rows_to height → 2 + (2 * (height - row) + more) ≤ blocks_touches more (rows_to height - row) ends
cost_whole more height row ends low = whole (height - row) (rows_to height - row) (omega (arith, low))
  where
    whole : (high below : ℕ) → high ≡ below + 8 → 2 + (2 * high + more) ≤ blocks_touches more below ends
    whole high below is = omega (arith, is)

-- of one that is cut
pub cost_cut : (more below ends first second : ℕ) → 1 ≤ ends → first + second ≤ ends
    → 2 + blocks_touches more below first + blocks_touches more below second ≤ blocks_touches more (below + 1) ends
cost_cut more below ends first second some fewer =
    let m = below * (below + 17 + more) in
    let rest = 2 * below + 18 + more in
    omega (arith, mul-le (first + second) m ends m fewer (omega arith), mul-le 1 rest ends rest some (omega arith))

-- and of its halves
pub cost_halves : (more : ℕ) (part : Contents Point) (rows : RangeTree) (low high : ℕ) (places : Places) (span first second : Span) → AreHalves part rows low high span first second
    → span.row + 1 < rows_to rows.height → 1 ≤ ends_inside rows.height places span
    → 2 + blocks_touches more (rows_to rows.height - first.row) (ends_inside rows.height places first)
    + blocks_touches more (rows_to rows.height - second.row) (ends_inside rows.height places second)
    ≤ blocks_touches more (rows_to rows.height - span.row) (ends_inside rows.height places span)
cost_halves more part rows low high places span first second halves below some =
    let h : ℕ = rows.height in
    let b : ℕ = rows_to h - (span.row + 1) in
    let one : ℕ = ends_inside h places first in
    let two : ℕ = ends_inside h places second in
    let all : ℕ = ends_inside h places span in
    let next : b + 1 ≡ rows_to h - span.row = omega (arith, below) in
    let cost : 2 + blocks_touches more b one + blocks_touches more b two ≤ blocks_touches more (rows_to h - span.row) all =
    subst (λ x. 2 + blocks_touches more b one + blocks_touches more b two ≤ blocks_touches more x all) next
    (cost_cut more b all one two some (ends_halves part rows low high places span first second halves below)) in
    subst (λ r. 2 + blocks_touches more (rows_to h - r) one + blocks_touches more (rows_to h - second.row) two ≤ blocks_touches more (rows_to h - span.row) all) (sym halves.first_row)
    (subst (λ r. 2 + blocks_touches more b one + blocks_touches more (rows_to h - r) two ≤ blocks_touches more (rows_to h - span.row) all) (sym halves.second_row) cost)
