-- Lists of places: different ones below n are at most n, and n of them are all places.
use Rattle.std.proofs.Common.{◌≡◌, ◌≢◌, ℕ, zero, suc, ◌+◌, ◌<◌, ◌≤◌, ◌==◌, Bool, true, false, not, cond, IsTrue, List, [], ◌∷◌, ◌++◌, length, map, get_or, refl, sym, ap, ◌∙◌, arith, subst, Some, slice_get, slice_index, All, AllPairs, ◌⊎◌, inl, inr, ⊎_elim, unwrap_or, Option, zero-add}
use Rattle.std.specs.List.{filter, range_with_len}
use Rattle.std.specs.Option.{option_map}
use Rattle.std.proofs.lemmas.Bool.{cond-true, cond-false, eqb-true}
use Rattle.std.proofs.lemmas.Bool.Decides.{nat_tests}
use Rattle.std.proofs.lemmas.Option.{slice_get-get_or, slice_get-map, slice_get_within, slice_get_cases, same_Some}
use Rattle.std.proofs.lemmas.List.{length-map, same_lists, get_or-map, get_or_default, map-id}
use Rattle.std.proofs.lemmas.List.Elements.{All-filter, All-head, All-tail, All-from_get_or, filter_passes}
use Rattle.std.proofs.lemmas.List.Kept.{AllPairs-filter}
use Rattle.std.proofs.lemmas.List.FromFn.{length-range_with_len, map-range_with_len_more, get_or-range_with_len}
use Rattle.query_laws.specs.Orders.{IsStrictTotalOrder}
use Rattle.query_laws.specs.Permuted.{Permuted, nothing, same_head, composed}
use Rattle.query_laws.proofs.Permutations.{Permuted-map, Permuted-length, Permuted-partition, Permuted-sym, Permuted-append_comm}
use Rattle.query_laws.specs.declared.item.Order.{Order}
use Rattle.query_laws.specs.declared.item.Order.TheVariants.{First, Second}
use Rattle.builder_trait.specs.Parts.{Contents, IsPart, IsRising}

-- no two are equal
abbrev pub AllApart : List ℕ → Type 0
AllApart ps = AllPairs (λ p q. p ≢ q) ps

-- the numbers from 0 on, with one more at the end
range-more : (n : ℕ) → range_with_len 0 (n + 1) ≡ range_with_len 0 n ++ n ∷ []
range-more n =
    sym (map-id (range_with_len 0 (n + 1))) ∙ map-range_with_len_more (λ k. k) 0 n n (omega arith)
    ∙ ap (λ l. l ++ n ∷ []) (map-id (range_with_len 0 n))

-- none of numbers that differ from one equals it
none_equal : (m : ℕ) (qs : List ℕ) → All (λ q. q ≢ m) qs → filter (λ q. q == m) qs ≡ []
none_equal m [] h = refl
none_equal m (q ∷ qs) h =
    let differs : q ≢ m = All-head (λ r. r ≢ m) q qs h in
    let test : (q == m) ≡ false = grind (arith, nat_tests) in
    cond-false (q == m) (q ∷ filter (λ r. r == m) qs) (filter (λ r. r == m) qs) test ∙ none_equal m qs (All-tail (λ r. r ≢ m) q qs h)

-- of numbers that are apart, those equal to one are none, or that one alone
filter-equal : (m : ℕ) (ps : List ℕ) → AllApart ps
    → (filter (λ p. p == m) ps ≡ []) ⊎ (filter (λ p. p == m) ps ≡ m ∷ [])
filter-equal m [] apart = inl refl
filter-equal m (p ∷ ps) apart =
    let tail : AllApart ps = λ i j d below within. apart (suc i) (suc j) d (omega arith) (omega arith) in
    by (p == m) refl (filter-equal m ps tail)
  where
    by : (b : Bool) → (p == m) ≡ b → (filter (λ p. p == m) ps ≡ []) ⊎ (filter (λ p. p == m) ps ≡ m ∷ [])
        → (cond (p == m) (p ∷ filter (λ q. q == m) ps) (filter (λ q. q == m) ps) ≡ [])
        ⊎ (cond (p == m) (p ∷ filter (λ q. q == m) ps) (filter (λ q. q == m) ps) ≡ m ∷ [])
    by true test later =
        let same : p ≡ m = eqb-true p m test in
        let apart_from : All (λ q. q ≢ m) ps = λ k d within e. apart 0 (suc k) d (omega arith) (omega arith) (same ∙ sym e) in
        inr (cond-true (p == m) (p ∷ filter (λ r. r == m) ps) (filter (λ r. r == m) ps) test
        ∙ ap (λ l. p ∷ l) (none_equal m ps apart_from) ∙ ap (λ q. q ∷ []) same)
    by false test later =
        let step : filter (λ q. q == m) (p ∷ ps) ≡ filter (λ q. q == m) ps =
        cond-false (p == m) (p ∷ filter (λ r. r == m) ps) (filter (λ r. r == m) ps) test in
        ⊎_elim (λ none. inl (step ∙ none)) (λ one. inr (step ∙ one)) later

-- the others of a list, where a number is taken out
abbrev others : ℕ → List ℕ → List ℕ
others n ps = filter (λ p. not (p == n)) ps

-- one more number, where it is there or not
one_more : (n : ℕ) (ps : List ℕ) → AllApart ps → length (others n ps) ≤ n
    → (length (others n ps) ≡ n → Permuted (others n ps) (range_with_len 0 n))
    → (length ps ≤ suc n) × (length ps ≡ suc n → Permuted ps (range_with_len 0 (suc n)))
one_more n ps apart few all = ⊎_elim without with_it (filter-equal n ps apart)
  where
    parted : Permuted (filter (λ p. p == n) ps ++ filter (λ p. not (p == n)) ps) ps
    parted = Permuted-partition (λ p. p == n) ps

    without : filter (λ p. p == n) ps ≡ [] → (length ps ≤ suc n) × (length ps ≡ suc n → Permuted ps (range_with_len 0 (suc n)))
    without none =
        let counted : length (others n ps) ≡ length ps =
        ap (λ l. length (l ++ others n ps)) (sym none) ∙ Permuted-length parted in
        (omega arith, λ e. absurd (omega arith))

    with_it : filter (λ p. p == n) ps ≡ n ∷ [] → (length ps ≤ suc n) × (length ps ≡ suc n → Permuted ps (range_with_len 0 (suc n)))
    with_it one =
        let counted : suc (length (others n ps)) ≡ length ps =
        ap (λ l. length (l ++ others n ps)) (sym one) ∙ Permuted-length parted in
        let split : Permuted ((n ∷ []) ++ others n ps) ps = subst (λ l. Permuted (l ++ others n ps) ps) one parted in (
          omega arith,
          λ e. let low : Permuted (others n ps) (range_with_len 0 n) = all (omega arith) in
              let next : suc n ≡ n + 1 = omega arith in
              let more : range_with_len 0 (suc n) ≡ range_with_len 0 n ++ n ∷ [] = ap (range_with_len 0) next ∙ range-more n in
              subst (λ l. Permuted ps l) (sym more)
              (composed (Permuted-sym split) (composed (same_head n low) (Permuted-append_comm (n ∷ []) (range_with_len 0 n)))),
        )

-- the others are below it
All-others : (n : ℕ) (ps : List ℕ) → All (λ p. p < suc n) ps → All (λ p. p < n) (others n ps)
All-others n ps below k d within =
    let small : get_or (others n ps) k d < suc n = All-filter (λ p. not (p == n)) (λ p. p < suc n) ps below k d within in
    let other : not (get_or (others n ps) k d == n) ≡ true = filter_passes (λ p. not (p == n)) ps k d within in
    lower (get_or (others n ps) k d) small other
  where
    lower : (p : ℕ) → p < suc n → not (p == n) ≡ true → p < n
    lower p small other = grind (arith, nat_tests)

-- numbers below n that are apart are at most n; and if they are n, then they are all of them
pub all_places : (n : ℕ) (ps : List ℕ) → AllApart ps → All (λ p. p < n) ps
    → (length ps ≤ n) × (length ps ≡ n → Permuted ps (range_with_len 0 n))
all_places zero [] apart below = (omega arith, λ e. nothing)
all_places zero (p ∷ ps) apart below = let no : p < 0 = All-head (λ q. q < 0) p ps below in absurd (omega arith)
all_places (suc n) ps apart below =
    let rest = all_places n (others n ps) (AllPairs-filter (λ p q. p ≢ q) (λ p. not (p == n)) ps apart) (All-others n ps below) in
    one_more n ps apart rest.0 rest.1

module _ {Item : Type 0} (items reordered : List Item) (places : List ℕ) (placed : map (slice_get items) places ≡ map Some reordered) where
  pub length-placed : length places ≡ length reordered
  length-placed = sym (length-map places (slice_get items)) ∙ ap length placed ∙ length-map reordered Some

  -- the item at an index of the second order stands at its place in the first order
  pub slice_get-placed : (k : ℕ) (x : Item) → slice_get reordered k ≡ Some x → slice_get items (slice_index places k) ≡ Some x
  slice_get-placed k x at =
      let within : k < length places = omega (arith, slice_get_within reordered k x at, length-placed) in
      let here : slice_get places k ≡ Some (slice_index places k) = slice_get-get_or places k 0 within in
      same_Some (slice_get items (slice_index places k)) (Some x)
      (sym (slice_get-map (slice_get items) places k ∙ ap (option_map (slice_get items)) here)
      ∙ ap (λ l. slice_get l k) placed ∙ slice_get-map Some reordered k ∙ ap (option_map Some) at)

  -- places are those of the list
  pub All-placed : All (λ p. p < length items) places
  All-placed =
      All-from_get_or (λ p. p < length items) places 0
      (λ k within. ⊎_elim
      (λ (x, inside, at, _). slice_get_within items (slice_index places k) x (slice_get-placed k x at))
      (λ (past, _). absurd (omega (arith, length-placed)))
      (slice_get_cases reordered k).1)

  module _ {stamp : Item → ℕ} {before : Item → Item → Bool} (order : IsStrictTotalOrder stamp before) (rising : IsRising before reordered) where
    -- items that rise are at different places
    pub AllApart-placed : AllApart places
    AllApart-placed i j d below within same =
        ⊎_elim
        (λ (y, inside, at, read).
        let earlier : slice_get reordered i ≡ Some (get_or reordered i y) = slice_get-get_or reordered i y (omega arith) in
        let there : slice_get items (get_or places j d) ≡ Some y = place_at j y at in
        let here : slice_get items (get_or places i d) ≡ Some (get_or reordered i y) = place_at i (get_or reordered i y) earlier in
        let equal : get_or reordered i y ≡ y = same_Some (get_or reordered i y) y (sym here ∙ ap (slice_get items) same ∙ there) in
        let itself : IsTrue (before y y) =
        subst (λ z. IsTrue (before z y)) equal (subst (λ z. IsTrue (before (get_or reordered i y) z)) read (rising i j y below inside)) in
        absurd (let no : before y y ≡ false = order.irreflexive y in cc))
        (λ (past, _). absurd (omega (arith, length-placed)))
        (slice_get_cases reordered j).1
      where
        place_at : (k : ℕ) (x : Item) → slice_get reordered k ≡ Some x → slice_get items (get_or places k d) ≡ Some x
        place_at k x at =
            let within : k < length places = omega (arith, slice_get_within reordered k x at, length-placed) in
            subst (λ p. slice_get items p ≡ Some x) (get_or_default places k 0 d within) (slice_get-placed k x at)

    -- so there are no more than items, and if as many, then each place is there once
    pub length-reordered_le : length reordered ≤ length items
    length-reordered_le = omega (arith, (all_places (length items) places AllApart-placed All-placed).0, length-placed)

    pub Permuted-placed : length reordered ≡ length items → Permuted places (range_with_len 0 (length items))
    Permuted-placed e = (all_places (length items) places AllApart-placed All-placed).1 (length-placed ∙ e)

module _ {Item : Type 0} where
  map-slice_get : (xs : List Item) → map (slice_get xs) (range_with_len 0 (length xs)) ≡ map Some xs
  map-slice_get xs =
      same_lists (map (slice_get xs) (range_with_len 0 (length xs))) (map Some xs)
      (length-map (range_with_len 0 (length xs)) (slice_get xs) ∙ length-range_with_len 0 (length xs) ∙ sym (length-map xs Some))
      (λ k o within.
      let inside : k < length xs =
      omega (arith, length-map (range_with_len 0 (length xs)) (slice_get xs), length-range_with_len 0 (length xs)) in
      get_or-map (slice_get xs) (range_with_len 0 (length xs)) k 0 o (omega (arith, length-range_with_len 0 (length xs)))
      ∙ ap (slice_get xs) (get_or-range_with_len 0 (length xs) k 0 inside ∙ zero-add k)
      ∙ read k o inside)
    where
      read : (k : ℕ) (o : Option Item) → k < length xs → slice_get xs k ≡ get_or (map Some xs) k o
      read k o inside =
          ⊎_elim
          (λ (x, within, at, is). at ∙ ap Some (sym is) ∙ sym (get_or-map Some xs k x o within))
          (λ (past, _). absurd (omega arith))
          (slice_get_cases xs k).1

  -- lists of the same items, from lists of those that are there
  unwrapped : (d : Item) (xs : List Item) → map (λ o. unwrap_or o d) (map Some xs) ≡ xs
  unwrapped d [] = refl
  unwrapped d (x ∷ xs) = ap (λ l. x ∷ l) (unwrapped d xs)

  Permuted-unwrapped : (xs ys : List Item) → Permuted (map Some xs) (map Some ys) → Permuted xs ys
  Permuted-unwrapped [] [] p = nothing
  Permuted-unwrapped [] (y ∷ ys) p = absurd (omega (arith, Permuted-length p))
  Permuted-unwrapped (x ∷ xs) ys p =
      subst (λ l. Permuted l ys) (unwrapped x (x ∷ xs))
      (subst (λ l. Permuted (map (λ o. unwrap_or o x) (map Some (x ∷ xs))) l) (unwrapped x ys) (Permuted-map (λ o. unwrap_or o x) p))

  -- what a builder of any structure has kept makes a part
  pub IsPart-from_rising : {stamp : Item → ℕ} {before : Order → Item → Item → Bool} (part : Contents Item)
      → IsStrictTotalOrder stamp (before Second) → IsRising (before First) part.items → IsRising (before Second) part.reordered
      → map (slice_get part.items) part.places ≡ map Some part.reordered → length part.reordered ≡ length part.items
      → length part.flags ≡ length part.items → IsPart before part
  IsPart-from_rising part order rising rising_reordered placed as_many flagged =
      let each : Permuted part.places (range_with_len 0 (length part.items)) =
      Permuted-placed part.items part.reordered part.places placed order rising_reordered as_many in
      record {
        rising = rising;
        rising_reordered = rising_reordered;
        flagged = flagged;
        placed = placed;
        each_place = each;
        same_items = Permuted-unwrapped part.reordered part.items
            (subst (λ l. Permuted l (map Some part.items)) placed
            (subst (λ l. Permuted (map (slice_get part.items) part.places) l) (map-slice_get part.items) (Permuted-map (slice_get part.items) each)));
      }
