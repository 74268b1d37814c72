-- The live points of a rectangle at whole blocks are those of the span of its y.
use Rattle.std.proofs.Common.{◌≡◌, ℕ, zero, suc, ◌+◌, ◌-◌, ◌<◌, ◌≤◌, ◌&&◌, ◌⊎◌, inl, inr, Bool, true, false, cond, nat_le, nat_lt, List, [], ◌∷◌, ◌++◌, length, length-take, length-drop, take, drop, get_or, Option, Some, None, All, slice_get, slice_range, slice_index_or, take-append-drop, append-nil, append_assoc, refl, sym, ap, ap₂, ◌∙◌, subst, arith}
use Rattle.std.specs.List.{filter, flat_map, range_with_len}
use Rattle.std.specs.Option.{option_to_list}
use Rattle.std.proofs.lemmas.Bool.{cond-true, cond-false}
use Rattle.std.proofs.lemmas.Bool.Decides.{nat_tests}
use Rattle.std.proofs.lemmas.Option.{slice_get-get_or, same_Some}
use Rattle.std.proofs.lemmas.List.{get_or-take, get_or-drop}
use Rattle.std.proofs.lemmas.List.Concat.{flat_map-append}
use Rattle.std.proofs.lemmas.List.Elements.{All-head, All-tail, All-from_get_or, filter-append}
use Rattle.query_laws.specs.Permuted.{Permuted}
use Rattle.query_laws.proofs.Permutations.{Permuted-flat_map}
use Rattle.builder_trait.specs.Parts.{Contents, IsPart}
use Rattle.builder_trait.proofs.Places.{slice_get-placed, length-placed}
use Rattle.row_blocks.specs.Partitions.{is_in_block, block_of}
use Rattle.row_blocks.proofs.Lists.{take-split, get_or-slice_range, length-slice_range, filter_all}
use Rattle.row_blocks.proofs.Partitioning.{in_block}
use Rattle.map_shapes.specs.declared.point.Point.{Point}
use Rattle.map_shapes.specs.declared.rect.Rect.{Rect}
use Rattle.map_shapes.specs.Questions.{is_in}
use Rattle.range_tree.specs.declared.rows.RangeTree.{RangeTree}
use Rattle.range_tree.specs.declared.scanning.Places.{Places}
use Rattle.range_tree.specs.declared.descending.Span.{Span}
use Rattle.range_tree.specs.Tree.{before, IsTree}
use Rattle.range_tree.specs.Queries.{live_at, live_in_places, live_in_span, is_at, AreWithinX, AreWithinY}
use Rattle.range_tree.proofs.Between.{none_at}
use Rattle.range_tree.proofs.SpanLemmas.{many_places, places_below, height-above}

-- ---- lists

filter-flat_map : {A B : Type 0} (test : B → Bool) (f : A → List B) (xs : List A) → filter test (flat_map f xs) ≡ flat_map (λ x. filter test (f x)) xs
filter-flat_map test f [] = refl
filter-flat_map test f (x ∷ xs) = filter-append test (f x) (flat_map f xs) ∙ ap (λ l. filter test (f x) ++ l) (filter-flat_map test f xs)

-- what a test keeps, piece by piece
flat_map-filter : {B : Type 0} (test : ℕ → Bool) (f : ℕ → List B) (xs : List ℕ) → flat_map f (filter test xs) ≡ flat_map (λ x. cond (test x) (f x) []) xs
flat_map-filter test f [] = refl
flat_map-filter test f (x ∷ xs) = by (test x) (flat_map-filter test f xs)
  where
    by : (b : Bool) → flat_map f (filter test xs) ≡ flat_map (λ y. cond (test y) (f y) []) xs
        → flat_map f (cond b (x ∷ filter test xs) (filter test xs)) ≡ cond b (f x) [] ++ flat_map (λ y. cond (test y) (f y) []) xs
    by true rest = ap (λ l. f x ++ l) rest
    by false rest = rest

flat_map-none : {B : Type 0} (f : ℕ → List B) (xs : List ℕ) → All (λ x. f x ≡ []) xs → flat_map f xs ≡ []
flat_map-none f [] all = refl
flat_map-none f (x ∷ xs) all =
    ap₂ (λ u v. u ++ v) (All-head (λ y. f y ≡ []) x xs all) (flat_map-none f xs (All-tail (λ y. f y ≡ []) x xs all))

flat_map-same : {B : Type 0} (f g : ℕ → List B) (xs : List ℕ) → All (λ x. f x ≡ g x) xs → flat_map f xs ≡ flat_map g xs
flat_map-same f g [] all = refl
flat_map-same f g (x ∷ xs) all =
    ap₂ (λ u v. u ++ v) (All-head (λ y. f y ≡ g y) x xs all) (flat_map-same f g xs (All-tail (λ y. f y ≡ g y) x xs all))

range_same : {B : Type 0} (f g : ℕ → List B) (a n : ℕ) → ((k : ℕ) → a ≤ k → k < a + n → f k ≡ g k) → flat_map f (range_with_len a n) ≡ flat_map g (range_with_len a n)
range_same f g a zero same = refl
range_same f g a (suc n) same =
    ap₂ (λ u v. u ++ v) (same a (omega arith) (omega arith)) (range_same f g (a + 1) n (λ k from to. same k (omega arith) (omega arith)))

range_none : {B : Type 0} (f : ℕ → List B) (a n : ℕ) → ((k : ℕ) → a ≤ k → k < a + n → f k ≡ []) → flat_map f (range_with_len a n) ≡ []
range_none f a zero none = refl
range_none f a (suc n) none =
    ap₂ (λ u v. u ++ v) (none a (omega arith) (omega arith)) (range_none f (a + 1) n (λ k from to. none k (omega arith) (omega arith)))

range_split : {B : Type 0} (f : ℕ → List B) (a m n : ℕ) → flat_map f (range_with_len a (m + n)) ≡ flat_map f (range_with_len a m) ++ flat_map f (range_with_len (a + m) n)
range_split f a zero n = ap₂ (λ b k. flat_map f (range_with_len b k)) (omega arith) (omega arith)
range_split f a (suc m) n =
    let longer : suc m + n ≡ suc (m + n) = omega arith in
    let moved : a + 1 + m ≡ a + suc m = omega arith in
    ap (λ k. flat_map f (range_with_len a k)) longer
    ∙ ap (λ l. f a ++ l) (range_split f (a + 1) m n ∙ ap (λ b. flat_map f (range_with_len (a + 1) m) ++ flat_map f (range_with_len b n)) moved)
    ∙ sym (append_assoc (f a) (flat_map f (range_with_len (a + 1) m)) (flat_map f (range_with_len (a + suc m) n)))

-- ---- points of a rectangle

-- all of a place's points pass, where each that may stand there does
all_pass : {A : Type 0} (test : A → Bool) (b : Bool) (o : Option A) → ((x : A) → o ≡ Some x → test x ≡ true)
    → filter test (cond b (option_to_list o) []) ≡ cond b (option_to_list o) []
all_pass test false o passes = refl
all_pass test true None passes = refl
all_pass test true (Some x) passes = cond-true (test x) (x ∷ []) [] (passes x refl)

inside_rect : (rect : Rect) (p : Point) → rect.x1 ≤ p.x → p.x ≤ rect.x2 → rect.y1 ≤ p.y → p.y ≤ rect.y2 → is_in rect p ≡ true
inside_rect rect p a b c d = grind (arith, nat_tests)

below_rect : (rect : Rect) (p : Point) → p.y < rect.y1 → is_in rect p ≡ false
below_rect rect p less = grind (arith, nat_tests)

above_rect : (rect : Rect) (p : Point) → rect.y2 < p.y → is_in rect p ≡ false
above_rect rect p more = grind (arith, nat_tests)

at_places : (places : Places) (p : ℕ) → is_at places p ≡ true → (places.from ≤ p) × (p < places.to)
at_places places p is = (low places.from p places.to is, high places.from p places.to is)
  where
    low : (a p b : ℕ) → (nat_le a p && nat_lt p b) ≡ true → a ≤ p
    low a p b is = grind (arith, nat_tests)

    high : (a p b : ℕ) → (nat_le a p && nat_lt p b) ≡ true → p < b
    high a p b is = grind (arith, nat_tests)

is_at-true : (places : Places) (p : ℕ) → places.from ≤ p → p < places.to → is_at places p ≡ true
is_at-true places p from to = by places.from p places.to from to
  where
    by : (a p b : ℕ) → a ≤ p → p < b → (nat_le a p && nat_lt p b) ≡ true
    by a p b from to = grind (arith, nat_tests)

is_at-false : (places : Places) (p : ℕ) → (p < places.from) ⊎ (places.to ≤ p) → is_at places p ≡ false
is_at-false places p outside = by places.from p places.to outside
  where
    by : (a p b : ℕ) → (p < a) ⊎ (b ≤ p) → (nat_le a p && nat_lt p b) ≡ false
    by a p b (inl less) = grind (arith, nat_tests)
    by a p b (inr more) = grind (arith, nat_tests)

module _ (part : Contents Point) (valid : IsPart before part) (rect : Rect) (low high : ℕ) (ys : AreWithinY part low high rect)
    (all whole : Places) (xs : AreWithinX part all rect) (first : all.from ≤ whole.from) (ordered : whole.from ≤ whole.to) (last : whole.to ≤ all.to) where
  -- what a place has in the rectangle, where it is one of these
  abbrev here : ℕ → List Point
  here q = cond (is_at whole q) (filter (is_in rect) (live_at part q)) []

  abbrev live : ℕ → List Point
  live q = cond (is_at whole q) (live_at part q) []

  many : length part.places ≡ length part.items
  many = many_places part valid.each_place

  long : length part.places ≡ length part.reordered
  long = length-placed part.items part.reordered part.places valid.placed

  -- the point of the second order at a place
  placed : (k : ℕ) (p : Point) → k < length part.places → slice_get part.items (get_or part.places k 0) ≡ Some p → slice_get part.reordered k ≡ Some p
  placed k p inside at =
      let found = point_of k p (omega (arith, inside, long)) in
      found ∙ ap Some (same_Some (get_or part.reordered k p) p (sym (slice_get-placed part.items part.reordered part.places valid.placed k (get_or part.reordered k p) found) ∙ at))
    where
      point_of : (k : ℕ) (p : Point) → k < length part.reordered → slice_get part.reordered k ≡ Some (get_or part.reordered k p)
      point_of k p inside = slice_get-get_or part.reordered k p inside

  -- outside of the span is nothing of the rectangle
  out_none : (k : ℕ) → k < length part.places → (k < low) ⊎ (high ≤ k) → here (get_or part.places k 0) ≡ []
  out_none k inside outside = by (is_at whole (get_or part.places k 0))
    where
      fails : (p : Point) → slice_get part.items (get_or part.places k 0) ≡ Some p → is_in rect p ≡ false
      fails p at = elim outside [
        | inl less ↦ below_rect rect p (ys.before k p less (placed k p inside at))
        | inr from ↦ above_rect rect p (ys.behind k p from (placed k p inside at))
      ]

      by : (b : Bool) → cond b (filter (is_in rect) (live_at part (get_or part.places k 0))) [] ≡ []
      by true = none_at (is_in rect) (slice_index_or part.flags (get_or part.places k 0) false) (slice_get part.items (get_or part.places k 0)) fails
      by false = refl

  -- in the span all is in the rectangle
  in_all : (k : ℕ) → k < length part.places → low ≤ k → k < high → live (get_or part.places k 0) ≡ here (get_or part.places k 0)
  in_all k inside from to = by (is_at whole (get_or part.places k 0)) refl
    where
      by : (b : Bool) → is_at whole (get_or part.places k 0) ≡ b
          → cond b (live_at part (get_or part.places k 0)) [] ≡ cond b (filter (is_in rect) (live_at part (get_or part.places k 0))) []
      by false is = refl
      by true is =
          let ends = at_places whole (get_or part.places k 0) is in
          sym (all_pass (is_in rect) (slice_index_or part.flags (get_or part.places k 0) false) (slice_get part.items (get_or part.places k 0))
          (λ p at.
          let x = xs.inside (get_or part.places k 0) p (omega (arith, first, ends.0)) (omega (arith, last, ends.1)) at in
          let y = ys.inside k p from to (placed k p inside at) in
          inside_rect rect p x.0 x.1 y.0 y.1))

  in_span : flat_map live (slice_range part.places low high) ≡ flat_map here (slice_range part.places low high)
  in_span =
      flat_map-same live here (slice_range part.places low high)
      (All-from_get_or (λ q. live q ≡ here q) (slice_range part.places low high) 0
      (λ i inside.
      let size = length-slice_range part.places low high ys.ordered (omega (arith, ys.within, long)) in
      let read = get_or-slice_range part.places low high i 0 (omega (arith, inside, size)) in
      subst (λ q. live q ≡ here q) (sym read)
      (in_all (low + i) (omega (arith, inside, size, ys.within, long)) (omega arith) (omega (arith, inside, size)))))

  before_none : flat_map here (take low part.places) ≡ []
  before_none =
      flat_map-none here (take low part.places)
      (All-from_get_or (λ q. here q ≡ []) (take low part.places) 0
      (λ i inside.
      let short : i < low = omega (arith, inside, length-take low part.places) in
      subst (λ q. here q ≡ []) (sym (get_or-take low part.places i 0 short))
      (out_none i (omega (arith, inside, length-take low part.places)) (inl short))))

  behind_none : flat_map here (drop high part.places) ≡ []
  behind_none =
      flat_map-none here (drop high part.places)
      (All-from_get_or (λ q. here q ≡ []) (drop high part.places) 0
      (λ i inside.
      subst (λ q. here q ≡ []) (sym (get_or-drop high part.places i 0))
      (out_none (high + i) (omega (arith, inside, length-drop high part.places)) (inr (let le : high ≤ high + i = omega arith in le)))))

  -- so the span has what all places have
  all_places : flat_map here part.places ≡ flat_map live (slice_range part.places low high)
  all_places =
      ap (flat_map here) (sym (take-append-drop high part.places)) ∙ flat_map-append here (take high part.places) (drop high part.places)
      ∙ ap₂ (λ u v. u ++ v)
      (ap (flat_map here) (take-split part.places low high ys.ordered) ∙ flat_map-append here (take low part.places) (slice_range part.places low high)
      ∙ ap (λ u. u ++ flat_map here (slice_range part.places low high)) before_none)
      behind_none
      ∙ append-nil (flat_map here (slice_range part.places low high)) ∙ sym in_span

  -- and so what these places have
  in_range : flat_map here (range_with_len 0 (length part.items)) ≡ live_in_places part rect whole
  in_range =
      let n = length part.items in
      let a = whole.from in
      let m = whole.to - whole.from in
      let parted : n ≡ a + (m + (n - whole.to)) = omega (arith, ordered, last, xs.within) in
      let end : a + m ≡ whole.to = omega (arith, ordered) in
      ap (λ k. flat_map here (range_with_len 0 k)) parted ∙ range_split here 0 a (m + (n - whole.to))
      ∙ ap₂ (λ u v. u ++ v)
      (range_none here 0 a (λ k from to. cond-false (is_at whole k) (filter (is_in rect) (live_at part k)) [] (is_at-false whole k (inl (let less : k < whole.from = omega arith in less)))))
      (range_split here (0 + a) m (n - whole.to)
      ∙ ap₂ (λ u v. u ++ v)
      (let zero_a : 0 + a ≡ a = omega arith in
      ap (λ s. flat_map here (range_with_len s m)) zero_a
      ∙ range_same here (λ q. filter (is_in rect) (live_at part q)) a m
      (λ k from to. cond-true (is_at whole k) (filter (is_in rect) (live_at part k)) [] (is_at-true whole k from (omega (arith, end))))
      ∙ sym (filter-flat_map (is_in rect) (live_at part) (range_with_len a m)))
      (range_none here (0 + a + m) (n - whole.to)
      (λ k from to. cond-false (is_at whole k) (filter (is_in rect) (live_at part k)) [] (is_at-false whole k (inr (let le : whole.to ≤ k = omega (arith, end) in le)))))
      ∙ append-nil (live_in_places part rect whole))

  module _ (rows : RangeTree) (tree : IsTree part rows) (span : Span) (row : span.row ≡ 0) (start : span.start ≡ 0) where
    top_block : live_in_span part rows low high whole span ≡ flat_map live (slice_range part.places low high)
    top_block =
        let slice = slice_range part.places low high in
        let height : rows.height - span.row ≡ rows.height = omega (arith, row) in
        let whole_block : block_of (λ p. p) (rows.height - span.row) span.start slice ≡ slice =
        ap₂ (λ h s. block_of (λ p. p) h s slice) height start
        ∙ filter_all (is_in_block (λ p. p) rows.height 0) slice
        (λ k d inside.
        let size = length-slice_range part.places low high ys.ordered (omega (arith, ys.within, long)) in
        let read = get_or-slice_range part.places low high k d (omega (arith, inside, size)) in
        in_block (λ p. p) rows.height 0 (get_or slice k d) (omega arith)
        (omega (
          arith,
          read,
          places_below part valid.each_place (low + k) d (omega (arith, inside, size, ys.within, long)),
          height-above part rows tree,
        ))) in
        ap (λ l. flat_map (live_at part) (filter (is_at whole) l)) whole_block ∙ flat_map-filter (is_at whole) (live_at part) slice

    pub middle : Permuted (live_in_span part rows low high whole span) (live_in_places part rect whole)
    middle =
        subst (λ l. Permuted l (live_in_places part rect whole)) (sym (top_block ∙ sym all_places))
        (subst (λ l. Permuted (flat_map here part.places) l) in_range (Permuted-flat_map here valid.each_place))
