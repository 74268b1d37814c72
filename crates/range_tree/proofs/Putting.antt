-- Points that are put, in both orders.
use Rattle.std.proofs.Common.{◌≡◌, ◌≢◌, ℕ, ◌+◌, ◌/◌, ◌^◌, ◌<◌, ◌≤◌, ◌⊎◌, inl, inr, true, false, cond, IsTrue, List, [], ◌∷◌, ◌++◌, length, map, get_or, replicate, refl, sym, ap, ◌∙◌, arith, subst, Some, slice_get, pow_mono}
use Rattle.std.proofs.lemmas.Bool.{cases_eq, cases_lt}
use Rattle.std.proofs.lemmas.Option.{slice_get_within, slice_get-get_or, get_or_from_slice_get}
use Rattle.std.proofs.lemmas.List.{map_push, length_push, length-map, length-replicate, get_or_push, get_or_past, get_or_append_left, get_or-replicate}
use Rattle.std.proofs.lemmas.List.Quantifiers.{all_pairs_push}
use Rattle.query_laws.specs.StepLedger.{Entries}
use Rattle.query_laws.specs.OrderLaws.{IsStrictTotalOrder-before_in}
use Rattle.query_laws.specs.declared.item.Order.TheVariants.{First, Second}
use Rattle.builder_trait.specs.Parts.{IsRising}
use Rattle.builder_trait.specs.Builders.{Progress, IsUnderway, FitsFirst, FitsSecond, with_put}
use Rattle.builder_trait.proofs.Places.{length-reordered_le, length-placed}
use Rattle.map_shapes.specs.declared.point.Point.{Point}
use Rattle.range_tree.specs.declared.entry.Entry.{Entry}
use Rattle.range_tree.specs.declared.leaves.Leaf.{Leaf}
use Rattle.range_tree.specs.declared.rows.RangeTree.{RangeTree}
use Rattle.range_tree.specs.Heights.{rows_to}
use Rattle.range_tree.specs.Tree.{before, AreLeaves, y_at, live_bit}
use Rattle.range_tree.specs.Growing.{IsPutting, carried_of}

-- the leaves with one more point, which is live
pub leaves_pushed : (points : List Point) (item : Point) (old new : List Leaf) → AreLeaves points (replicate (length points) true) old
    → y_at new (length points) ≡ item.y → live_bit new (length points) ≡ 1
    → ((k : ℕ) → k ≢ length points → y_at new k ≡ y_at old k) → ((k : ℕ) → k ≢ length points → live_bit new k ≡ live_bit old k)
    → length new ≡ (length points + 16) / 16 → AreLeaves (points ++ item ∷ []) (replicate (length (points ++ item ∷ [])) true) new
leaves_pushed points item old new kept own set others bits many = record {
  many = omega (arith, many, length_push points item);
  ys = λ k p at. by k p at (cases_eq k (length points));
  live = λ k. is_live k (cases_eq k (length points)) (cases_lt k (length points));
}
  where
    live : (k : ℕ) → k < length (points ++ item ∷ []) → get_or (replicate (length (points ++ item ∷ [])) true) k false ≡ true
    live k inside = get_or-replicate (length (points ++ item ∷ [])) k true false inside

    dead : (n k : ℕ) → n ≤ k → get_or (replicate n true) k false ≡ false
    dead n k past = get_or_past (replicate n true) k false (omega (arith, past, length-replicate n true))

    is_live : (k : ℕ) → (k ≡ length points) ⊎ (k ≢ length points) → (k < length points) ⊎ (length points ≤ k)
        → live_bit new k ≡ cond (get_or (replicate (length (points ++ item ∷ [])) true) k false) 1 0
    is_live k (inl same) _ = ap (live_bit new) same ∙ set ∙ sym (ap (λ b. cond b 1 0) (live k (omega (arith, length_push points item))))
    is_live k (inr other) (inl within) =
        bits k other ∙ kept.live k
        ∙ ap (λ b. cond b 1 0) (get_or-replicate (length points) k true false within ∙ sym (live k (omega (arith, length_push points item))))
    is_live k (inr other) (inr past) =
        bits k other ∙ kept.live k
        ∙ ap (λ b. cond b 1 0) (dead (length points) k past ∙ sym (dead (length (points ++ item ∷ [])) k (omega (arith, other, length_push points item))))

    by : (k : ℕ) (p : Point) → slice_get (points ++ item ∷ []) k ≡ Some p → (k ≡ length points) ⊎ (k ≢ length points) → y_at new k ≡ p.y
    by k p at (inl same) =
        let is : p ≡ item = sym (get_or_from_slice_get (points ++ item ∷ []) k p p at) ∙ get_or_push points item p k (omega arith) in
        ap (y_at new) same ∙ own ∙ ap (λ (q : Point). q.y) (sym is)
    by k p at (inr other) =
        let inside : k < length (points ++ item ∷ []) = slice_get_within (points ++ item ∷ []) k p at in
        let within : k < length points = omega (arith, length_push points item, other) in
        let there : slice_get points k ≡ Some p =
        slice_get-get_or points k p within
        ∙ ap Some (sym (get_or_append_left points (item ∷ []) p k within) ∙ get_or_from_slice_get (points ++ item ∷ []) k p p at) in
        others k other ∙ kept.ys k p there

no_items : {A : Type 0} (xs : List A) → length xs ≡ 0 → xs ≡ []
no_items [] none = refl
no_items (x ∷ xs) none = absurd (omega arith)

-- one more point in the first order, before any is put in the second
module _ (b : Progress Point) (old : RangeTree) (item : Point) (place : ℕ) (putting : IsPutting b old) (underway : IsUnderway before b)
    (fits : FitsFirst (before First) b item place) where
  none_placed : b.places ≡ []
  none_placed = no_items b.places (omega (arith, length-placed b.items b.reordered b.places underway.placed, ap length fits.none_reordered))

  module _ (xs : Entries ℕ) (leaves : Entries Leaf) (pushed : xs ≡ record old.xs { items = old.xs.items ++ item.x ∷ [] })
      (own : y_at leaves.items place ≡ item.y) (live : live_bit leaves.items place ≡ 1)
      (others : (k : ℕ) → k ≢ place → y_at leaves.items k ≡ y_at old.leaves.items k)
      (bits : (k : ℕ) → k ≢ place → live_bit leaves.items k ≡ live_bit old.leaves.items k)
      (many : length leaves.items ≡ (place + 16) / 16) (same : leaves.capacity ≡ old.leaves.capacity) where
    pub IsPutting-first : IsPutting (with_put First item place b) (record old { xs = xs; leaves = leaves })
    IsPutting-first = record {
      room = record {
        small = putting.room.small;
        xs = omega (arith, putting.room.xs, ap (λ (r : Entries ℕ). r.capacity) pushed);
        leaves = omega (arith, putting.room.leaves, same);
        top = putting.room.top;
        source = putting.room.source;
        target = putting.room.target;
        ranks = putting.room.ranks;
        none = putting.room.none;
      };
      none_left = putting.none_left;
      xs = ap (λ (r : Entries ℕ). r.items) pushed ∙ ap (λ l. l ++ item.x ∷ []) putting.xs ∙ sym (map_push (λ (p : Point). p.x) b.items item);
      leaves = leaves_pushed b.items item old.leaves.items leaves.items putting.leaves (ap (y_at leaves.items) (sym fits.next_place) ∙ own)
          (ap (live_bit leaves.items) (sym fits.next_place) ∙ live) (λ k other. others k (λ is. other (is ∙ fits.next_place)))
          (λ k other. bits k (λ is. other (is ∙ fits.next_place))) (omega (arith, many, fits.next_place));
      top = λ some. record {
        places_are = (putting.top some).places_are;
        known = λ k d within. absurd (omega (
          arith,
          within,
          length-map old.top.items (λ (e : Entry). e.place),
          ap length (putting.top some).places_are,
          ap length none_placed,
        ));
      };
      source = λ some. putting.source some ∙ subst (λ ps. map (carried_of b.items) ps ≡ map (carried_of (b.items ++ item ∷ [])) ps) (sym none_placed) refl;
      target = λ some. putting.target some ∙ subst (λ ps. map (carried_of b.items) ps ≡ map (carried_of (b.items ++ item ∷ [])) ps) (sym none_placed) refl;
    }

-- one more point in the second order
module _ (b : Progress Point) (rows : RangeTree) (item : Point) (place : ℕ) (putting : IsPutting b rows) (underway : IsUnderway before b)
    (fits : FitsSecond (before Second) b item place) where
  pub small_place : place < 2 ^ 32
  small_place =
      let level : b.at_level ≤ 31 = omega (arith, underway.small) in
      let most : 2 ^ b.at_level ≤ 2 ^ 31 = pow_mono level in
      omega (arith, most, underway.few, slice_get_within b.items place item fits.at_place)

  placed : map (slice_get b.items) (b.places ++ place ∷ []) ≡ map Some (b.reordered ++ item ∷ [])
  placed =
      map_push (slice_get b.items) b.places place
      ∙ ap (λ l. l ++ slice_get b.items place ∷ []) underway.placed
      ∙ ap (λ o. map Some b.reordered ++ o ∷ []) fits.at_place
      ∙ sym (map_push Some b.reordered item)

  rising : IsRising (before Second) (b.reordered ++ item ∷ [])
  rising = all_pairs_push (λ x y. IsTrue (before Second x y)) b.reordered item underway.rising_reordered fits.after

  pub fewer : length b.places < 2 ^ b.at_level
  fewer =
      let one : length (b.reordered ++ item ∷ []) ≤ length b.items =
      length-reordered_le b.items (b.reordered ++ item ∷ []) (b.places ++ place ∷ []) placed
      (IsStrictTotalOrder-before_in (λ (p : Point). p.x) (λ p. p.y) (λ p. p.stamp) Second) rising in
      omega (arith, one, length_push b.reordered item, length-placed b.items b.reordered b.places underway.placed, underway.few)

  module _ (cap : 0 < rows.top.capacity) where
    some_rows : 0 < rows_to b.at_level
    some_rows = by (cases_lt 0 (rows_to b.at_level))
      where
        by : (0 < rows_to b.at_level) ⊎ (rows_to b.at_level ≤ 0) → 0 < rows_to b.at_level
        by (inl some) = some
        by (inr none) = absurd (omega (arith, cap, putting.room.none (omega (arith, none))))

    pub room-top : length rows.top.items < rows.top.capacity
    room-top =
        omega (
          arith,
          fewer,
          putting.room.top some_rows,
          length-map rows.top.items (λ (e : Entry). e.place),
          ap length (putting.top some_rows).places_are,
        )

    pub room-source : length rows.source.items < rows.source.capacity
    room-source = omega (arith, fewer, putting.room.source, putting.room.top some_rows, ap length (putting.source some_rows), length-map b.places (carried_of b.items))

    pub room-target : length rows.target.items < rows.target.capacity
    room-target = omega (arith, fewer, putting.room.target, putting.room.top some_rows, ap length (putting.target some_rows), length-map b.places (carried_of b.items))
