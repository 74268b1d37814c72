-- The live segments that go on at a place, one after another in the first order.
use Rattle.std.proofs.Common.{◌≡◌, ℕ, zero, suc, ◌+◌, ◌-◌, ◌<◌, ◌≤◌, ◌&&◌, Bool, true, false, cond, nat_le, take, List, [], ◌∷◌, ◌++◌, length, get_or, refl, sym, ap, ap₂, ◌∙◌, arith, append-nil, Option, Some, None, slice_get, slice_range, ⊎_elim}
use Rattle.std.specs.Option.{IfSome, IsNone}
use Rattle.std.specs.List.{zip, position_from, filter, items_where_true}
use Rattle.std.proofs.lemmas.Bool.{cond-true, cond-false}
use Rattle.std.proofs.lemmas.Option.{slice_get_within, slice_get-get_or, get_or_from_slice_get, slice_get_cases}
use Rattle.std.proofs.lemmas.List.{get_or-map, length-map, length-append}
use Rattle.std.proofs.lemmas.List.Elements.{filter-append}
use Rattle.std.proofs.lemmas.Slice.Zip.{get_or-zip, length-zip}
use Rattle.weak_delete.specs.declared.place.Place.{Place}
use Rattle.weak_delete.specs.Places.{is_live_at_least, place_at, no_place}
use Rattle.weak_delete.proofs.Winners.{next_found}
use Rattle.row_blocks.proofs.Lists.{get_or-slice_range, length-slice_range}
use Rattle.builder_trait.specs.Parts.{Contents, live_of}
use Rattle.builder_trait.specs.Rebuilding.{live_before}
use Rattle.builder_trait.proofs.Kept.{kept-more_live, kept-more_dead}
use Rattle.map_shapes.specs.declared.segment.Segment.{Segment}
use Rattle.interval_tree.specs.Rows.{end_place, ends_of}
use Rattle.interval_tree.specs.Queries.{goes_on, has_begun, hits, hits_before, IsCut}

-- where no place of a list is found, each fails the test
none_passes : {X : Type 0} (p : X → Bool) (i : ℕ) (xs : List X) (d : X) → None ≡ position_from p i xs → (j : ℕ) → j < length xs → p (get_or xs j d) ≡ false
none_passes p i [] d none j within = absurd (omega arith)
none_passes p i (x ∷ xs) d none j within = by (p x) refl (none_passes p (i + 1) xs d) j within
  where
    by : (b : Bool) → p x ≡ b → (None ≡ position_from p (i + 1) xs → (j : ℕ) → j < length xs → p (get_or xs j d) ≡ false)
        → (j : ℕ) → j < length (x ∷ xs) → p (get_or (x ∷ xs) j d) ≡ false
    by true test later j within = absurd (let no : None ≡ Some i = none ∙ cond-true (p x) (Some i) (position_from p (i + 1) xs) test in cc)
    by false test later zero within = test
    by false test later (suc j) within = later (none ∙ cond-false (p x) (Some i) (position_from p (i + 1) xs) test) j (omega arith)

-- in the places before an index, where none of a range was found
pub none_from : (p : Place → Bool) (places : List Place) (from to : ℕ) → to ≤ length places → None ≡ position_from p from (slice_range places from to)
    → (i : ℕ) → from ≤ i → i < to → p (place_at places i) ≡ false
none_from p places from to within none i after before =
    let is : from + (i - from) ≡ i = omega arith in
    let inside : i - from < to - from = omega arith in
    ap (λ k. p (place_at places k)) (sym is) ∙ ap p (sym (get_or-slice_range places from to (i - from) no_place inside))
    ∙ none_passes p from (slice_range places from to) no_place none (i - from) (omega (arith, length-slice_range places from to (omega arith) within))

module _ (x : ℕ) (part : Contents Segment) (flagged : length part.flags ≡ length part.items) where
  pub length-ends_of : length (ends_of part) ≡ length part.items
  length-ends_of = length-map (zip part.items part.flags) end_place ∙ length-zip part.items part.flags ∙ omega arith

  -- the place of a segment
  place_at-end : (k : ℕ) (s : Segment) (flag : Bool) → slice_get part.items k ≡ Some s → slice_get part.flags k ≡ Some flag
      → place_at (ends_of part) k ≡ end_place (s, flag)
  place_at-end k s flag at flag_at =
      let within : k < length (zip part.items part.flags) =
      omega (arith, slice_get_within part.items k s at, length-zip part.items part.flags) in
      get_or-map end_place (zip part.items part.flags) k (s, flag) no_place within
      ∙ ap end_place (get_or-zip part.items part.flags k (s, flag) (slice_get_within part.items k s at) (slice_get_within part.flags k flag flag_at)
      ∙ ap₂ (λ a b. (a, b)) (get_or_from_slice_get part.items k s s at) (get_or_from_slice_get part.flags k flag flag flag_at))

  -- one more place: its segment is one more, where it is live and goes on
  hits-more : (k : ℕ) (s : Segment) (flag : Bool) → slice_get part.items k ≡ Some s → slice_get part.flags k ≡ Some flag
      → hits_before x part (k + 1) ≡ cond (flag && nat_le x s.hi) (hits_before x part k ++ s ∷ []) (hits_before x part k)
  hits-more k s true at flag_at =
      ap (filter (goes_on x)) (kept-more_live part.flags part.items k s flag_at at)
      ∙ filter-append (goes_on x) (live_before k part) (s ∷ [])
      ∙ by (nat_le x s.hi)
    where
      by : (b : Bool) → hits_before x part k ++ cond b (s ∷ []) [] ≡ cond b (hits_before x part k ++ s ∷ []) (hits_before x part k)
      by true = refl
      by false = append-nil (hits_before x part k)
  hits-more k s false at flag_at = ap (filter (goes_on x)) (kept-more_dead part.flags part.items k flag_at)

  -- the flag of a place
  flag_at : (k : ℕ) → k < length part.items → slice_get part.flags k ≡ Some (get_or part.flags k false)
  flag_at k within = slice_get-get_or part.flags k false (omega arith)

  pub hits-one : (k : ℕ) (s : Segment) → slice_get part.items k ≡ Some s → is_live_at_least x (place_at (ends_of part) k) ≡ true
      → hits_before x part (k + 1) ≡ hits_before x part k ++ s ∷ []
  hits-one k s at test =
      let flag = get_or part.flags k false in
      let stands = flag_at k (slice_get_within part.items k s at) in
      hits-more k s flag at stands
      ∙ cond-true (flag && nat_le x s.hi) (hits_before x part k ++ s ∷ []) (hits_before x part k)
      (sym (ap (is_live_at_least x) (place_at-end k s flag at stands)) ∙ test)

  hits-same : (k : ℕ) → k < length part.items → is_live_at_least x (place_at (ends_of part) k) ≡ false
      → hits_before x part (k + 1) ≡ hits_before x part k
  hits-same k within test =
      ⊎_elim
      (λ (s, inside, at, read).
      let flag = get_or part.flags k false in
      let stands = flag_at k within in
      hits-more k s flag at stands
      ∙ cond-false (flag && nat_le x s.hi) (hits_before x part k ++ s ∷ []) (hits_before x part k)
      (sym (ap (is_live_at_least x) (place_at-end k s flag at stands)) ∙ test))
      (λ (past, none). absurd (omega arith))
      (slice_get_cases part.items k).1

  hits-skipped : (from d : ℕ) → from + d ≤ length part.items
      → ((i : ℕ) → from ≤ i → i < from + d → is_live_at_least x (place_at (ends_of part) i) ≡ false)
      → hits_before x part (from + d) ≡ hits_before x part from
  hits-skipped from zero within fails = let e : from + 0 ≡ from = omega arith in ap (hits_before x part) e
  hits-skipped from (suc d) within fails =
      let e : from + suc d ≡ from + d + 1 = omega arith in
      ap (hits_before x part) e ∙ hits-same (from + d) (omega arith) (fails (from + d) (omega arith) (omega arith))
      ∙ hits-skipped from d (omega arith) (λ i after before. fails i after (omega arith))

  -- where no place between two is live and goes on, there are none more
  pub hits-between : (from to : ℕ) → from ≤ to → to ≤ length part.items
      → ((i : ℕ) → from ≤ i → i < to → is_live_at_least x (place_at (ends_of part) i) ≡ false)
      → hits_before x part to ≡ hits_before x part from
  hits-between from to ordered within fails =
      let e : from + (to - from) ≡ to = omega arith in
      ap (hits_before x part) (sym e) ∙ hits-skipped from (to - from) (omega arith) (λ i after before. fails i after (omega arith))

  one_step : (k : ℕ) → k < length part.items → length (hits_before x part k) ≤ length (hits_before x part (k + 1))
  one_step k within =
      ⊎_elim
      (λ (s, inside, at, read).
      let flag = get_or part.flags k false in
      omega (arith, ap length (hits-more k s flag at (flag_at k within)), grown (flag && nat_le x s.hi) s))
      (λ (past, none). absurd (omega arith))
      (slice_get_cases part.items k).1
    where
      grown : (b : Bool) (s : Segment) → length (hits_before x part k) ≤ length (cond b (hits_before x part k ++ s ∷ []) (hits_before x part k))
      grown true s = omega (arith, length-append (hits_before x part k) (s ∷ []))
      grown false s = omega arith

  many_steps : (from d : ℕ) → from + d ≤ length part.items → length (hits_before x part from) ≤ length (hits_before x part (from + d))
  many_steps from zero within = let e : from + 0 ≡ from = omega arith in omega (arith, ap (λ k. length (hits_before x part k)) e)
  many_steps from (suc d) within =
      let e : from + suc d ≡ from + d + 1 = omega arith in
      omega (arith, ap (λ k. length (hits_before x part k)) e, one_step (from + d) (omega arith), many_steps from d (omega arith))

  -- more places don't have fewer
  pub length-hits_before-le : (from to : ℕ) → from ≤ to → to ≤ length part.items → length (hits_before x part from) ≤ length (hits_before x part to)
  length-hits_before-le from to ordered within =
      let e : from + (to - from) ≡ to = omega arith in
      omega (arith, ap (λ k. length (hits_before x part k)) e, many_steps from (to - from) (omega arith))

module _ (x : ℕ) (part : Contents Segment) (flagged : length part.flags ≡ length part.items) (places : List Place) (are : places ≡ ends_of part)
    (from to : ℕ) (ordered : from ≤ to) (within : to ≤ length part.items) where
  places_within : to ≤ length places
  places_within = omega (arith, ap length are, length-ends_of x part flagged)

  test_at : (i : ℕ) → is_live_at_least x (place_at (ends_of part) i) ≡ is_live_at_least x (place_at places i)
  test_at i = ap (λ ps. is_live_at_least x (place_at ps i)) (sym are)

  -- a search with a bound that is x
  searched : {bound : ℕ} (o : Option ℕ) → o ≡ position_from (is_live_at_least bound) from (slice_range places from to) → bound ≡ x
      → o ≡ position_from (is_live_at_least x) from (slice_range places from to)
  searched o found same = found ∙ ap (λ b. position_from (is_live_at_least b) from (slice_range places from to)) same

  -- where no place is found, no segment is left
  pub hits-none : {bound : ℕ} (o : Option ℕ) → o ≡ position_from (is_live_at_least bound) from (slice_range places from to) → bound ≡ x → IsNone o
      → hits_before x part to ≡ hits_before x part from
  hits-none (Some k) found same none = absurd cc
  hits-none None found same none =
      hits-between x part flagged from to ordered within
      (λ i after before. test_at i ∙ none_from (is_live_at_least x) places from to places_within (searched None found same) i after before)

  -- where one is found, its segment comes next
  abbrev pub IsNextHit : ℕ → Type 0
  IsNextHit k = (from ≤ k) × (k < to) × ((s : Segment) → slice_get part.items k ≡ Some s → hits_before x part (k + 1) ≡ hits_before x part from ++ s ∷ [])

  hits-next : {bound : ℕ} (k : ℕ) → Some k ≡ position_from (is_live_at_least bound) from (slice_range places from to) → bound ≡ x → IsNextHit k
  hits-next k found same =
      let first = next_found places from to x ordered places_within k (searched (Some k) found same) in (
        first.0,
        first.1,
        λ s at.
            hits-one x part flagged k s at (test_at k ∙ first.2)
            ∙ ap (λ l. l ++ s ∷ []) (hits-between x part flagged from k first.0 (omega (arith, first.1)) (λ i after before. test_at i ∙ first.3 i after before)),
      )

  pub hits-some : {bound : ℕ} (o : Option ℕ) → o ≡ position_from (is_live_at_least bound) from (slice_range places from to) → bound ≡ x
      → IfSome o IsNextHit
  hits-some None found same = tt
  hits-some (Some k) found same = hits-next k found same

-- a cut of a list without its first item
cut_front : (test : Segment → Bool) (x : Segment) (xs : List Segment) → IsCut test (x ∷ xs) 0 → IsCut test xs 0
cut_front test x xs cut = record {
  within = omega arith;
  passed = λ i d below. absurd (omega arith);
  failed = λ i d from inside. cut.failed (suc i) d (omega arith) (omega arith);
}

cut_tail : (test : Segment → Bool) (x : Segment) (xs : List Segment) (k : ℕ) → IsCut test (x ∷ xs) (suc k) → IsCut test xs k
cut_tail test x xs k cut = record {
  within = omega (arith, cut.within);
  passed = λ i d below. cut.passed (suc i) d (omega arith);
  failed = λ i d from inside. cut.failed (suc i) d (omega arith) (omega arith);
}

-- what is kept of a front that ends where a test does
pub kept-cut : (test : Segment → Bool) (flags : List Bool) (xs : List Segment) (k : ℕ) → length flags ≡ length xs → IsCut test xs k
    → items_where_true (take k flags) (take k xs) ≡ filter test (items_where_true flags xs)
kept-cut test [] [] zero e cut = refl
kept-cut test [] [] (suc k) e cut = refl
kept-cut test [] (x ∷ xs) k e cut = absurd (omega arith)
kept-cut test (flag ∷ flags) [] k e cut = absurd (omega arith)
kept-cut test (true ∷ flags) (x ∷ xs) zero e cut =
    kept-cut test flags xs 0 (omega arith) (cut_front test x xs cut)
    ∙ sym (cond-false (test x) (x ∷ filter test (items_where_true flags xs)) (filter test (items_where_true flags xs)) (cut.failed 0 x (omega arith) (omega arith)))
kept-cut test (false ∷ flags) (x ∷ xs) zero e cut = kept-cut test flags xs 0 (omega arith) (cut_front test x xs cut)
kept-cut test (true ∷ flags) (x ∷ xs) (suc k) e cut =
    ap (λ l. x ∷ l) (kept-cut test flags xs k (omega arith) (cut_tail test x xs k cut))
    ∙ sym (cond-true (test x) (x ∷ filter test (items_where_true flags xs)) (filter test (items_where_true flags xs)) (cut.passed 0 x (omega arith)))
kept-cut test (false ∷ flags) (x ∷ xs) (suc k) e cut = kept-cut test flags xs k (omega arith) (cut_tail test x xs k cut)

-- one test after another
filter-both : (p q : Segment → Bool) (xs : List Segment) → filter p (filter q xs) ≡ filter (λ x. q x && p x) xs
filter-both p q [] = refl
filter-both p q (x ∷ xs) = by (q x) (p x) refl (filter-both p q xs)
  where
    by : (b c : Bool) → p x ≡ c → filter p (filter q xs) ≡ filter (λ y. q y && p y) xs
        → filter p (cond b (x ∷ filter q xs) (filter q xs)) ≡ cond (b && c) (x ∷ filter (λ y. q y && p y) xs) (filter (λ y. q y && p y) xs)
    by true true test rest = cond-true (p x) (x ∷ filter p (filter q xs)) (filter p (filter q xs)) test ∙ ap (λ l. x ∷ l) rest
    by true false test rest = cond-false (p x) (x ∷ filter p (filter q xs)) (filter p (filter q xs)) test ∙ rest
    by false c test rest = rest

-- all segments over x are among those that have begun
pub hits_before-all : (x : ℕ) (part : Contents Segment) (k : ℕ) → length part.flags ≡ length part.items → IsCut (has_begun x) part.items k
    → hits_before x part k ≡ hits x part
hits_before-all x part k flagged cut =
    ap (filter (goes_on x)) (kept-cut (has_begun x) part.flags part.items k flagged cut)
    ∙ filter-both (goes_on x) (has_begun x) (live_of part)
