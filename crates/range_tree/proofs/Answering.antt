-- Answers that are taken at both ends and in the middle of some places.
use Rattle.std.proofs.Common.{◌≡◌, ℕ, zero, suc, ◌+◌, ◌-◌, ◌*◌, ◌^◌, ◌<◌, ◌≤◌, ◌&&◌, ◌⊎◌, inl, inr, Bool, true, false, cond, nat_lt, List, [], ◌∷◌, ◌++◌, length, length-append, map, min, Option, Some, None, slice_get, slice_index_or, append_assoc, refl, sym, ap, ◌∙◌, arith, subst, pow_mono}
use Rattle.std.specs.List.{sum_by, filter, flat_map, range_with_len}
use Rattle.std.specs.Option.{option_to_list}
use Rattle.std.proofs.lemmas.Bool.{cases_lt}
use Rattle.std.proofs.lemmas.List.{map-append}
use Rattle.std.proofs.lemmas.List.Sums.{sum_by-cons, sum_by-append, length-filter}
use Rattle.query_laws.specs.Sums.{capped_add}
use Rattle.query_laws.specs.Permuted.{Permuted, nothing, same_head, swapped_heads, composed}
use Rattle.query_laws.proofs.Permutations.{Permuted-append_right, Permuted-append_left, Permuted-append_comm, Permuted-map, Permuted-length}
use Rattle.builder_trait.specs.Parts.{Contents, live_of}
use Rattle.row_blocks.specs.Blocks.{IsMultiple}
use Rattle.row_blocks.proofs.Partitioning.{blocks_apart}
use Rattle.map_shapes.specs.Ascending.{sorted_ids, sorted_union}
use Rattle.map_shapes.specs.AscendingLaws.{sorted_ids-Permuted, sorted_ids-append}
use Rattle.map_shapes.specs.declared.point.Point.{Point}
use Rattle.map_shapes.specs.declared.rect.Rect.{Rect}
use Rattle.map_shapes.specs.Questions.{is_in}
use Rattle.range_tree.specs.declared.measure.Measure.{Measure}
use Rattle.range_tree.specs.declared.measure.Measure.TheVariants.{Count, Weight}
use Rattle.range_tree.specs.declared.rows.RangeTree.{RangeTree}
use Rattle.range_tree.specs.declared.scanning.Places.{Places}
use Rattle.range_tree.specs.declared.descending.Span.{Span}
use Rattle.range_tree.specs.Heights.{lowest}
use Rattle.range_tree.specs.Measures.{measure_of, measure_in}
use Rattle.range_tree.specs.Tree.{IsTree}
use Rattle.range_tree.specs.Queries.{live_at, live_between, live_in_places, AreWithinX, AreWhole, is_inside, ends_inside}
use Rattle.range_tree.proofs.Between.{live_in-all, live_in-split}
use Rattle.range_tree.proofs.SpanSums.{sum_by-one, measure-few}
use Rattle.range_tree.proofs.SpanLemmas.{height-above}

-- what the points in a rectangle count for
pub measure_in-is : (measure : Measure) (rect : Rect) (xs : List Point) → min (sum_by (measure_of measure) (filter (is_in rect) xs)) (2 ^ 64 - 1) ≡ measure_in measure rect xs
measure_in-is Count rect xs = ap (λ n. min n (2 ^ 64 - 1)) (sum_by-one (filter (is_in rect) xs) ∙ length-filter (is_in rect) xs)
measure_in-is Weight rect xs = refl

pub added_all : (old new sum : ℕ) (measure : Measure) (rect : Rect) (xs : List Point) → new ≡ capped_add old sum → sum ≡ sum_by (measure_of measure) (filter (is_in rect) xs)
    → new ≡ capped_add old (measure_in measure rect xs)
added_all old new sum measure rect xs is same = is ∙ ap (capped_add old) same ∙ capped old (sum_by (measure_of measure) (filter (is_in rect) xs)) ∙ ap (capped_add old) (measure_in-is measure rect xs)
  where
    capped : (a b : ℕ) → capped_add a b ≡ capped_add a (min b (2 ^ 64 - 1))
    capped a b = omega arith

-- sums don't depend on the order
pub sum_by-Permuted : {A : Type 0} (f : A → ℕ) {xs ys : List A} → Permuted xs ys → sum_by f xs ≡ sum_by f ys
sum_by-Permuted f nothing = refl
sum_by-Permuted f (same_head x {xs} {ys} p) = sum_by-cons f x xs ∙ ap (λ n. f x + n) (sum_by-Permuted f p) ∙ sym (sum_by-cons f x ys)
sum_by-Permuted f (swapped_heads x y xs) =
    omega (arith, sum_by-cons f x (y ∷ xs), sum_by-cons f y xs, sum_by-cons f y (x ∷ xs), sum_by-cons f x xs)
sum_by-Permuted f (composed p q) = sum_by-Permuted f p ∙ sum_by-Permuted f q

-- few points count for little
few_at : (b : Bool) (o : Option Point) → length (cond b (option_to_list o) []) ≤ 1
few_at true None = omega arith
few_at true (Some p) = omega arith
few_at false o = omega arith

few_between : (part : Contents Point) (a n : ℕ) → length (flat_map (live_at part) (range_with_len a n)) ≤ n
few_between part a zero = omega arith
few_between part a (suc n) =
    omega (
      arith,
      length-append (live_at part a) (flat_map (live_at part) (range_with_len (a + 1) n)),
      few_at (slice_index_or part.flags a false) (slice_get part.items a),
      few_between part (a + 1) n,
    )

few_kept : {A : Type 0} (test : A → Bool) (xs : List A) → length (filter test xs) ≤ length xs
few_kept test [] = omega arith
few_kept test (x ∷ xs) = by (test x) (few_kept test xs)
  where
    by : (b : Bool) → length (filter test xs) ≤ length xs → length (cond b (x ∷ filter test xs) (filter test xs)) ≤ suc (length xs)
    by true rest = omega (arith, rest)
    by false rest = omega (arith, rest)

few_sum : (measure : Measure) (xs : List Point) → sum_by (measure_of measure) xs ≤ length xs * 2 ^ 31
few_sum measure [] = omega arith
few_sum measure (x ∷ xs) = omega (arith, sum_by-cons (measure_of measure) x xs, measure-few measure x, few_sum measure xs)

pub places_small : (part : Contents Point) (rect : Rect) (places : Places) (measure : Measure) → places.to ≤ 2 ^ 31
    → sum_by (measure_of measure) (live_in_places part rect places) ≤ 2 ^ 62
places_small part rect places measure few =
    omega (
      arith,
      few_sum measure (live_in_places part rect places),
      few_kept (is_in rect) (live_between part places.from places.to),
      few_between part places.from (places.to - places.from),
      few,
    )

-- ---- front, middle and back

module _ (part : Contents Point) (rect : Rect) (all : Places) (flagged : length part.flags ≡ length part.items) (is : AreWithinX part all rect) where
  -- all that a rectangle has
  pub all_of : live_in_places part rect all ≡ filter (is_in rect) (live_of part)
  all_of = live_in-all part rect all.from all.to flagged is.ordered is.within is.before is.behind

  module _ (from to : ℕ) (first : all.from ≤ from) (ordered : from ≤ to) (last : to ≤ all.to) where
    pub three : filter (is_in rect) (live_of part)
        ≡ filter (is_in rect) (live_between part all.from from)
        ++ (filter (is_in rect) (live_between part from to) ++ filter (is_in rect) (live_between part to all.to))
    three =
        sym all_of ∙ live_in-split part rect all.from from all.to first (omega arith)
        ∙ ap (λ l. filter (is_in rect) (live_between part all.from from) ++ l) (live_in-split part rect from to all.to ordered last)

    pub sum_three : (f : Point → ℕ) (middle : List Point) → Permuted middle (filter (is_in rect) (live_between part from to))
        → sum_by f (filter (is_in rect) (live_between part all.from from)) + sum_by f (filter (is_in rect) (live_between part to all.to)) + sum_by f middle
        ≡ sum_by f (filter (is_in rect) (live_of part))
    sum_three f middle same =
        let front = filter (is_in rect) (live_between part all.from from) in
        let back = filter (is_in rect) (live_between part to all.to) in
        let inner = filter (is_in rect) (live_between part from to) in
        omega (
          arith,
          ap (sum_by f) three,
          sum_by-append f front (inner ++ back),
          sum_by-append f inner back,
          sum_by-Permuted f same,
        )

    pub length_three : (middle : List Point) → Permuted middle (filter (is_in rect) (live_between part from to))
        → length (filter (is_in rect) (live_between part all.from from)) + length (filter (is_in rect) (live_between part to all.to)) + length middle
        ≡ length (filter (is_in rect) (live_of part))
    length_three middle same =
        let front = filter (is_in rect) (live_between part all.from from) in
        let back = filter (is_in rect) (live_between part to all.to) in
        let inner = filter (is_in rect) (live_between part from to) in
        omega (arith, ap length three, length-append front (inner ++ back), length-append inner back, Permuted-length same)

    -- in any order
    pub joined_three : (old one two new : List ℕ) (middle : List Point) → Permuted middle (filter (is_in rect) (live_between part from to))
        → one ≡ old ++ map (λ p. p.id) (filter (is_in rect) (live_between part all.from from))
        → two ≡ one ++ map (λ p. p.id) (filter (is_in rect) (live_between part to all.to))
        → Permuted new (two ++ map (λ p. p.id) middle)
        → sorted_ids new ≡ sorted_union (sorted_ids old) (sorted_ids (map (λ p. p.id) (filter (is_in rect) (live_of part))))
    joined_three old one two new middle same first second third =
        let id : Point → ℕ = λ p. p.id in
        let front = filter (is_in rect) (live_between part all.from from) in
        let back = filter (is_in rect) (live_between part to all.to) in
        let inner = filter (is_in rect) (live_between part from to) in
        let pushed : two ++ map id middle ≡ old ++ map id (front ++ (back ++ middle)) =
        ap (λ l. l ++ map id middle) (second ∙ ap (λ l. l ++ map id back) first)
        ∙ append_assoc (old ++ map id front) (map id back) (map id middle)
        ∙ append_assoc old (map id front) (map id back ++ map id middle)
        ∙ ap (λ l. old ++ l) (ap (λ l. map id front ++ l) (sym (map-append id back middle)) ∙ sym (map-append id front (back ++ middle))) in
        let swapped : Permuted (front ++ (back ++ middle)) (filter (is_in rect) (live_of part)) =
        subst (λ l. Permuted (front ++ (back ++ middle)) l) (sym three)
        (Permuted-append_right front (composed (Permuted-append_comm back middle) (Permuted-append_left back same))) in
        sorted_ids-Permuted third ∙ ap sorted_ids pushed ∙ sorted_ids-append old (map id (front ++ (back ++ middle)))
        ∙ ap (sorted_union (sorted_ids old)) (sorted_ids-Permuted (Permuted-map id swapped))

-- one scan alone
pub joined_one : (part : Contents Point) (rect : Rect) (old new : List ℕ) (points : List Point) → new ≡ old ++ map (λ p. p.id) points
    → points ≡ filter (is_in rect) (live_of part)
    → sorted_ids new ≡ sorted_union (sorted_ids old) (sorted_ids (map (λ p. p.id) (filter (is_in rect) (live_of part))))
joined_one part rect old new points is all =
    ap sorted_ids is ∙ sorted_ids-append old (map (λ (p : Point). p.id) points) ∙ ap (λ l. sorted_union (sorted_ids old) (sorted_ids (map (λ (p : Point). p.id) l))) all

-- ---- whole blocks

pub AreWhole-found : (part : Contents Point) (all whole : Places) → all.to ≤ length part.items → whole.to ≤ all.to → whole.from < whole.to
    → (whole.from < whole.to → IsMultiple whole.from lowest) → (whole.from < whole.to → IsMultiple whole.to lowest) → AreWhole part whole
AreWhole-found part all whole within last some front back = record { from = front some; to = back some; within = omega arith }

-- where there is one, there are rows
pub tall : (part : Contents Point) (rows : RangeTree) (tree : IsTree part rows) (whole : Places) → AreWhole part whole → whole.from < whole.to → 9 ≤ rows.height
tall part rows tree whole are some = by (cases_lt rows.height 9)
  where
    by : (rows.height < 9) ⊎ (9 ≤ rows.height) → 9 ≤ rows.height
    by (inr high) = high
    by (inl low) =
        let eight : rows.height ≤ 8 = omega arith in
        let less : 2 ^ rows.height ≤ 2 ^ 8 = pow_mono eight in
        let apart : whole.from + 2 ^ lowest ≤ whole.to = blocks_apart are.from are.to some in
        absurd (omega (arith, apart, less, are.within, height-above part rows tree))

-- at most both ends are inside one block
one_inside : (start len p : ℕ) → is_inside start len p ≤ 1
one_inside start len p = by (nat_lt start p && nat_lt p (start + len))
  where
    by : (b : Bool) → cond b 1 0 ≤ 1
    by true = omega arith
    by false = omega arith

pub ends_few : (height : ℕ) (places : Places) (span : Span) → ends_inside height places span ≤ 2
ends_few height places span =
    omega (arith, one_inside span.start (2 ^ (height - span.row)) places.from, one_inside span.start (2 ^ (height - span.row)) places.to)
