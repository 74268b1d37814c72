-- Live points between places: cut in two, all of a part, and none outside the x of a rectangle.
use Rattle.std.proofs.Common.{◌≡◌, ℕ, zero, suc, ◌+◌, ◌-◌, ◌<◌, ◌≤◌, Bool, true, false, cond, List, [], ◌∷◌, ◌++◌, length, get_or, Option, Some, None, slice_get, refl, sym, ap, ap₂, ◌∙◌, arith, add-one, append-nil}
use Rattle.std.specs.List.{flat_map, range_with_len, items_where_true, filter}
use Rattle.std.specs.Option.{option_to_list}
use Rattle.std.proofs.lemmas.Bool.{cond-false}
use Rattle.std.proofs.lemmas.Bool.Decides.{nat_tests}
use Rattle.std.proofs.lemmas.List.Concat.{flat_map-append}
use Rattle.std.proofs.lemmas.List.Elements.{filter-append}
use Rattle.builder_trait.specs.Parts.{Contents, live_of}
use Rattle.map_shapes.specs.declared.point.Point.{Point}
use Rattle.map_shapes.specs.declared.rect.Rect.{Rect}
use Rattle.map_shapes.specs.Questions.{is_in}
use Rattle.range_tree.specs.Queries.{live_at, live_between}

-- the points at places below `place` have x below `x`, or those from there on have x above it
abbrev pub XBelow : List Point → ℕ → ℕ → Type 0
XBelow points place x = (k : ℕ) (p : Point) → k < place → slice_get points k ≡ Some p → p.x < x

abbrev pub XAbove : List Point → ℕ → ℕ → Type 0
XAbove points place x = (k : ℕ) (p : Point) → place ≤ k → slice_get points k ≡ Some p → x < p.x

-- the numbers from a on, cut in two
range-split : (a m n : ℕ) → range_with_len a (m + n) ≡ range_with_len a m ++ range_with_len (a + m) n
range-split a zero n = ap₂ range_with_len (omega arith) (omega arith)
range-split a (suc m) n =
    let longer : suc m + n ≡ suc (m + n) = omega arith in
    let moved : a + 1 + m ≡ a + suc m = omega arith in
    ap (range_with_len a) longer ∙ ap (λ l. a ∷ l) (range-split (a + 1) m n ∙ ap (λ b. range_with_len (a + 1) m ++ range_with_len b n) moved)

-- live points between two places are those up to a place between, and those from there on
pub live_between-split : (part : Contents Point) (a b c : ℕ) → a ≤ b → b ≤ c
    → live_between part a c ≡ live_between part a b ++ live_between part b c
live_between-split part a b c first second =
    let parted : c - a ≡ (b - a) + (c - b) = omega arith in
    let there : a + (b - a) ≡ b = omega arith in
    ap (λ n. flat_map (live_at part) (range_with_len a n)) parted
    ∙ ap (flat_map (live_at part)) (range-split a (b - a) (c - b))
    ∙ flat_map-append (live_at part) (range_with_len a (b - a)) (range_with_len (a + (b - a)) (c - b))
    ∙ ap (λ s. live_between part a b ++ flat_map (live_at part) (range_with_len s (c - b))) there

-- and so those in a rectangle
pub live_in-split : (part : Contents Point) (rect : Rect) (a b c : ℕ) → a ≤ b → b ≤ c
    → filter (is_in rect) (live_between part a c) ≡ filter (is_in rect) (live_between part a b) ++ filter (is_in rect) (live_between part b c)
live_in-split part rect a b c first second =
    ap (filter (is_in rect)) (live_between-split part a b c first second)
    ∙ filter-append (is_in rect) (live_between part a b) (live_between part b c)

-- between a place and itself are none
pub live_between-none : (part : Contents Point) (a b : ℕ) → b ≤ a → live_between part a b ≡ []
live_between-none part a b le =
    let none : b - a ≡ 0 = omega arith in
    ap (λ n. flat_map (live_at part) (range_with_len a n)) none

-- at one place is what is live there
pub live_between-one : (part : Contents Point) (k : ℕ) → live_between part k (k + 1) ≡ live_at part k
live_between-one part k =
    let one : k + 1 - k ≡ 1 = omega arith in
    ap (λ n. flat_map (live_at part) (range_with_len k n)) one ∙ append-nil (live_at part k)

-- so one place more adds what is live there
pub live_in-more : (part : Contents Point) (rect : Rect) (from k : ℕ) → from ≤ k
    → filter (is_in rect) (live_between part from (k + 1)) ≡ filter (is_in rect) (live_between part from k) ++ filter (is_in rect) (live_at part k)
live_in-more part rect from k le =
    live_in-split part rect from k (k + 1) le (omega arith)
    ∙ ap (λ l. filter (is_in rect) (live_between part from k) ++ filter (is_in rect) l) (live_between-one part k)

module _ {A : Type 0} where
  -- what stands at a place, if its flag stands
  abbrev kept_at : List Bool → List A → ℕ → List A
  kept_at flags xs place = cond (get_or flags place false) (option_to_list (slice_get xs place)) []

  -- places read one further on
  flat_map-shifted : (f : ℕ → List A) (a n : ℕ) → flat_map f (range_with_len (a + 1) n) ≡ flat_map (λ k. f (suc k)) (range_with_len a n)
  flat_map-shifted f a zero = refl
  flat_map-shifted f a (suc n) = ap₂ (λ k l. f k ++ l) (add-one a) (flat_map-shifted f (a + 1) n)

  -- all kept items, place by place
  all_kept : (flags : List Bool) (xs : List A) → length flags ≡ length xs
      → flat_map (kept_at flags xs) (range_with_len 0 (length xs)) ≡ items_where_true flags xs
  all_kept [] [] e = refl
  all_kept [] (x ∷ xs) e = absurd (omega arith)
  all_kept (b ∷ flags) [] e = refl
  all_kept (true ∷ flags) (x ∷ xs) e =
      ap (λ l. x ∷ l) (flat_map-shifted (kept_at (true ∷ flags) (x ∷ xs)) 0 (length xs) ∙ all_kept flags xs (omega arith))
  all_kept (false ∷ flags) (x ∷ xs) e =
      flat_map-shifted (kept_at (false ∷ flags) (x ∷ xs)) 0 (length xs) ∙ all_kept flags xs (omega arith)

  -- of an item that fails a test nothing is kept
  pub none_at : (test : A → Bool) (b : Bool) (o : Option A) → ((x : A) → o ≡ Some x → test x ≡ false)
      → filter test (cond b (option_to_list o) []) ≡ []
  none_at test false o fails = refl
  none_at test true None fails = refl
  none_at test true (Some x) fails = cond-false (test x) (x ∷ []) [] (fails x refl)

  -- nor of several
  none_between : (test : A → Bool) (flags : List Bool) (xs : List A) (a n : ℕ)
      → ((k : ℕ) (x : A) → a ≤ k → k < a + n → slice_get xs k ≡ Some x → test x ≡ false)
      → filter test (flat_map (kept_at flags xs) (range_with_len a n)) ≡ []
  none_between test flags xs a zero fails = refl
  none_between test flags xs a (suc n) fails =
      filter-append test (kept_at flags xs a) (flat_map (kept_at flags xs) (range_with_len (a + 1) n))
      ∙ ap₂ (λ l m. l ++ m)
      (none_at test (get_or flags a false) (slice_get xs a) (λ x at. fails a x (omega arith) (omega arith) at))
      (none_between test flags xs (a + 1) n (λ k x from to at. fails k x (omega arith) (omega arith) at))

-- all live points are between the first place and the end
pub live_between-all : (part : Contents Point) → length part.flags ≡ length part.items
    → live_between part 0 (length part.items) ≡ live_of part
live_between-all part flagged =
    let whole : length part.items - 0 ≡ length part.items = omega arith in
    ap (λ n. flat_map (live_at part) (range_with_len 0 n)) whole ∙ all_kept part.flags part.items flagged

-- a point with an x below the rectangle's is not in it, nor is one with an x above
is_in-below : (rect : Rect) (p : Point) → p.x < rect.x1 → is_in rect p ≡ false
is_in-below rect p below = grind (arith, nat_tests)

is_in-above : (rect : Rect) (p : Point) → rect.x2 < p.x → is_in rect p ≡ false
is_in-above rect p above = grind (arith, nat_tests)

-- so the rectangle has none of the places before those of its x
pub none_before : (part : Contents Point) (rect : Rect) (from : ℕ) → XBelow part.items from rect.x1
    → filter (is_in rect) (live_between part 0 from) ≡ []
none_before part rect from below =
    none_between (is_in rect) part.flags part.items 0 (from - 0) (λ k p low high at. is_in-below rect p (below k p (omega arith) at))

-- and none behind them
pub none_behind : (part : Contents Point) (rect : Rect) (to end : ℕ) → XAbove part.items to rect.x2
    → filter (is_in rect) (live_between part to end) ≡ []
none_behind part rect to end above =
    none_between (is_in rect) part.flags part.items to (end - to) (λ k p low high at. is_in-above rect p (above k p low at))

-- so all live points of the rectangle are between two places
pub live_in-all : (part : Contents Point) (rect : Rect) (from to : ℕ) → length part.flags ≡ length part.items
    → from ≤ to → to ≤ length part.items → XBelow part.items from rect.x1 → XAbove part.items to rect.x2
    → filter (is_in rect) (live_between part from to) ≡ filter (is_in rect) (live_of part)
live_in-all part rect from to flagged ordered within below above =
    let whole : filter (is_in rect) (live_between part 0 (length part.items)) ≡ filter (is_in rect) (live_of part) =
    ap (filter (is_in rect)) (live_between-all part flagged) in
    let inside : List Point = filter (is_in rect) (live_between part from to) in
    let rest : List Point = filter (is_in rect) (live_between part from (length part.items)) in
    let behind : filter (is_in rect) (live_between part to (length part.items)) ≡ [] = none_behind part rect to (length part.items) above in
    sym (append-nil inside) ∙ ap (λ l. inside ++ l) (sym behind) ∙ sym (live_in-split part rect from to (length part.items) ordered within)
    ∙ ap (λ l. l ++ rest) (sym (none_before part rect from below))
    ∙ sym (live_in-split part rect 0 from (length part.items) (omega arith) (omega arith)) ∙ whole
