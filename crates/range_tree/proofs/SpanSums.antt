-- What the live points of a span count for, whole and by halves.
use Rattle.std.proofs.Common.{◌≡◌, ℕ, ◌+◌, ◌*◌, ◌^◌, ◌<◌, ◌≤◌, ◌&&◌, ◌⊎◌, inl, inr, Bool, true, false, cond, nat_le, nat_lt, List, [], ◌∷◌, length, map, Option, Some, None, All, sum, slice_get, slice_index_or, refl, sym, ap, ◌∙◌, arith, length-append}
use Rattle.std.specs.List.{filter, flat_map, sum_by, count_by}
use Rattle.std.specs.Option.{option_map, option_to_list, unwrap_or}
use Rattle.std.proofs.lemmas.Bool.{cond-true, cond-false}
use Rattle.std.proofs.lemmas.Bool.Decides.{nat_tests}
use Rattle.std.proofs.lemmas.List.Elements.{All-head, All-tail}
use Rattle.std.proofs.lemmas.List.Sums.{sum_by-cons, sum_by-append, sum-map}
use Rattle.builder_trait.specs.Parts.{Contents}
use Rattle.row_blocks.specs.Partitions.{block_of, is_in_block}
use Rattle.row_blocks.proofs.Blocks.{pow_next}
use Rattle.map_shapes.specs.declared.point.Point.{Point}
use Rattle.range_tree.specs.declared.measure.Measure.{Measure}
use Rattle.range_tree.specs.declared.measure.Measure.TheVariants.{Count, Weight}
use Rattle.range_tree.specs.declared.scanning.Places.{Places}
use Rattle.range_tree.specs.Measures.{measure_of}
use Rattle.range_tree.specs.Tree.{is_live_at, weight_of}
use Rattle.range_tree.specs.Queries.{live_at, is_at}
use Rattle.range_tree.proofs.Hits.{point_at}

-- a sum of ones is a number
pub sum_by-one : {A : Type 0} (xs : List A) → sum_by (λ x. 1) xs ≡ length xs
sum_by-one [] = refl
sum_by-one (x ∷ xs) = omega (arith, sum_by-cons (λ y. 1) x xs, sum_by-one xs)

module _ (part : Contents Point) where
  -- what is live at some places
  abbrev pub live_of_places : List ℕ → List Point
  live_of_places xs = flat_map (live_at part) xs

  count_here : (p : ℕ) → p < length part.items → length (live_at part p) ≡ cond (is_live_at part.flags p) 1 0
  count_here p inside =
      let found = point_at part.items p inside in
      by (slice_index_or part.flags p false) (slice_get part.items p) found.0 found.1
    where
      by : (b : Bool) (o : Option Point) (x : Point) → o ≡ Some x → length (cond b (option_to_list o) []) ≡ cond b 1 0
      by false o x is = refl
      by true o x is = ap (λ m. length (option_to_list m)) is

  pub count_live : (xs : List ℕ) → All (λ p. p < length part.items) xs → length (live_of_places xs) ≡ count_by (is_live_at part.flags) xs
  count_live [] all = refl
  count_live (x ∷ xs) all =
      omega (
        arith,
        length-append (live_at part x) (live_of_places xs),
        count_here x (All-head (λ p. p < length part.items) x xs all),
        count_live xs (All-tail (λ p. p < length part.items) x xs all),
        sum_by-cons (λ p. cond (is_live_at part.flags p) 1 0) x xs,
      )

  -- the weight that a row keeps of a place
  abbrev pub weight_here : ℕ → ℕ
  weight_here p = cond (is_live_at part.flags p) (weight_of part.items p) 0

  weigh_here : (p : ℕ) → sum_by (λ q. q.w) (live_at part p) ≡ weight_here p
  weigh_here p = by (slice_index_or part.flags p false) (slice_get part.items p)
    where
      by : (b : Bool) (o : Option Point) → sum_by (λ (q : Point). q.w) (cond b (option_to_list o) []) ≡ cond b (unwrap_or (option_map (λ (q : Point). q.w) o) 0) 0
      by false o = refl
      by true None = refl
      by true (Some q) = omega (arith, sum_by-cons (λ (r : Point). r.w) q [])

  weigh_each : (xs : List ℕ) → sum_by (λ q. q.w) (live_of_places xs) ≡ sum_by weight_here xs
  weigh_each [] = refl
  weigh_each (x ∷ xs) =
      omega (arith, sum_by-append (λ (q : Point). q.w) (live_at part x) (live_of_places xs), weigh_here x, weigh_each xs, sum_by-cons weight_here x xs)

  pub weigh_live : (xs : List ℕ) → sum_by (λ q. q.w) (live_of_places xs) ≡ sum (map weight_here xs)
  weigh_live xs = weigh_each xs ∙ sym (sum-map weight_here xs)

  -- at some places of a block, of which the test knows all
  pub all_at : (places : Places) (h start : ℕ) (xs : List ℕ) → All (λ p. p < length part.items) xs
      → ((p : ℕ) → start ≤ p → p < start + 2 ^ h → p < length part.items → (places.from ≤ p) × (p < places.to))
      → filter (is_at places) (block_of (λ p. p) h start xs) ≡ block_of (λ p. p) h start xs
  all_at places h start [] all whole = refl
  all_at places h start (x ∷ xs) all whole =
      by (all_at places h start xs (All-tail (λ p. p < length part.items) x xs all) whole) (is_in_block (λ p. p) h start x) refl
    where
      low_end : (a p b : ℕ) → (nat_le a p && nat_lt p b) ≡ true → a ≤ p
      low_end a p b is = grind (arith, nat_tests)

      high_end : (a p b : ℕ) → (nat_le a p && nat_lt p b) ≡ true → p < b
      high_end a p b is = grind (arith, nat_tests)

      both_ends : (a p b : ℕ) → a ≤ p → p < b → (nat_le a p && nat_lt p b) ≡ true
      both_ends a p b low high = grind (arith, nat_tests)

      by : filter (is_at places) (block_of (λ p. p) h start xs) ≡ block_of (λ p. p) h start xs → (inside : Bool) → is_in_block (λ p. p) h start x ≡ inside
          → filter (is_at places) (cond inside (x ∷ block_of (λ p. p) h start xs) (block_of (λ p. p) h start xs))
          ≡ cond inside (x ∷ block_of (λ p. p) h start xs) (block_of (λ p. p) h start xs)
      by rest true is =
          let ends = whole x (low_end start x (start + 2 ^ h) is) (high_end start x (start + 2 ^ h) is) (All-head (λ p. p < length part.items) x xs all) in
          cond-true (is_at places x) (x ∷ filter (is_at places) (block_of (λ p. p) h start xs)) (filter (is_at places) (block_of (λ p. p) h start xs)) (both_ends places.from x places.to ends.0 ends.1)
          ∙ ap (λ ys. x ∷ ys) rest
      by rest false is = rest

  -- or none
  pub none_at : (places : Places) (h start : ℕ) (xs : List ℕ) → All (λ p. p < length part.items) xs
      → ((p : ℕ) → start ≤ p → p < start + 2 ^ h → p < length part.items → (p < places.from) ⊎ (places.to ≤ p))
      → filter (is_at places) (block_of (λ p. p) h start xs) ≡ []
  none_at places h start [] all none = refl
  none_at places h start (x ∷ xs) all none =
      by (none_at places h start xs (All-tail (λ p. p < length part.items) x xs all) none) (is_in_block (λ p. p) h start x) refl
    where
      low_end : (a p b : ℕ) → (nat_le a p && nat_lt p b) ≡ true → a ≤ p
      low_end a p b is = grind (arith, nat_tests)

      high_end : (a p b : ℕ) → (nat_le a p && nat_lt p b) ≡ true → p < b
      high_end a p b is = grind (arith, nat_tests)

      neither : (a p b : ℕ) → (p < a) ⊎ (b ≤ p) → (nat_le a p && nat_lt p b) ≡ false
      neither a p b (inl low) = grind (arith, nat_tests)
      neither a p b (inr high) = grind (arith, nat_tests)

      by : filter (is_at places) (block_of (λ p. p) h start xs) ≡ [] → (inside : Bool) → is_in_block (λ p. p) h start x ≡ inside
          → filter (is_at places) (cond inside (x ∷ block_of (λ p. p) h start xs) (block_of (λ p. p) h start xs)) ≡ []
      by rest true is =
          cond-false (is_at places x) (x ∷ filter (is_at places) (block_of (λ p. p) h start xs)) (filter (is_at places) (block_of (λ p. p) h start xs))
          (neither places.from x places.to (none x (low_end start x (start + 2 ^ h) is) (high_end start x (start + 2 ^ h) is) (All-head (λ p. p < length part.items) x xs all)))
          ∙ rest
      by rest false is = rest

  module _ (f : Point → ℕ) (at : ℕ → Bool) where
    -- what the places that pass two tests count for
    abbrev pub counted_by : (ℕ → Bool) → List ℕ → ℕ
    counted_by test xs = sum_by f (live_of_places (filter at (filter test xs)))

    abbrev counted_here : (ℕ → Bool) → ℕ → ℕ
    counted_here test x = cond (test x) (cond (at x) (sum_by f (live_at part x)) 0) 0

    counted_by-cons : (test : ℕ → Bool) (x : ℕ) (xs : List ℕ) → counted_by test (x ∷ xs) ≡ counted_here test x + counted_by test xs
    counted_by-cons test x xs = outer (test x)
      where
        inner : (b : Bool) → sum_by f (live_of_places (cond b (x ∷ filter at (filter test xs)) (filter at (filter test xs)))) ≡ cond b (sum_by f (live_at part x)) 0 + counted_by test xs
        inner true = sum_by-append f (live_at part x) (live_of_places (filter at (filter test xs)))
        inner false = omega arith

        outer : (b : Bool) → sum_by f (live_of_places (filter at (cond b (x ∷ filter test xs) (filter test xs)))) ≡ cond b (cond (at x) (sum_by f (live_at part x)) 0) 0 + counted_by test xs
        outer true = inner (at x)
        outer false = omega arith

    one_half : (a p half long v : ℕ) → long ≡ half + half → cond (nat_le a p && nat_lt p (a + long)) v 0
        ≡ cond (nat_le a p && nat_lt p (a + half)) v 0 + cond (nat_le (a + half) p && nat_lt p (a + half + half)) v 0
    one_half a p half long v twice = grind (arith, nat_tests)

    -- by halves
    pub counted_halves : (k start : ℕ) (xs : List ℕ) → counted_by (is_in_block (λ p. p) (k + 1) start) xs
        ≡ counted_by (is_in_block (λ p. p) k start) xs + counted_by (is_in_block (λ p. p) k (start + 2 ^ k)) xs
    counted_halves k start [] = refl
    counted_halves k start (x ∷ xs) =
        omega (
          arith,
          counted_by-cons (is_in_block (λ p. p) (k + 1) start) x xs,
          counted_by-cons (is_in_block (λ p. p) k start) x xs,
          counted_by-cons (is_in_block (λ p. p) k (start + 2 ^ k)) x xs,
          one_half start x (2 ^ k) (2 ^ (k + 1)) (cond (at x) (sum_by f (live_at part x)) 0) (pow_next k),
          counted_halves k start xs,
        )

    few_here : (most : ℕ) → ((p : Point) → f p ≤ most) → (x : ℕ) → sum_by f (live_at part x) ≤ most
    few_here most few x = by (slice_index_or part.flags x false) (slice_get part.items x)
      where
        by : (b : Bool) (o : Option Point) → sum_by f (cond b (option_to_list o) []) ≤ most
        by false o = omega arith
        by true None = omega arith
        by true (Some p) = omega (arith, sum_by-cons f p [], few p)

    few_counted : (v : ℕ) (a b : Bool) → cond a (cond b v 0) 0 ≤ v
    few_counted v true true = omega arith
    few_counted v true false = omega arith
    few_counted v false b = omega arith

    pub counted_by-few : (most : ℕ) → ((p : Point) → f p ≤ most) → (test : ℕ → Bool) (xs : List ℕ) → counted_by test xs ≤ length xs * most
    counted_by-few most few test [] = omega arith
    counted_by-few most few test (x ∷ xs) =
        omega (
          arith,
          counted_by-cons test x xs,
          few_counted (sum_by f (live_at part x)) (test x) (at x),
          few_here most few x,
          counted_by-few most few test xs,
        )

-- one point counts for little
pub measure-few : (measure : Measure) (p : Point) → measure_of measure p ≤ 2 ^ 31
measure-few Count p = omega arith
measure-few Weight p = omega (arith, p.w_in_range)
