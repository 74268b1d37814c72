-- A point that dies is found in the first row.
use Rattle.std.proofs.Common.{◌≡◌, ℕ, suc, ◌<◌, ◌≤◌, Bool, true, false, cond, IsTrue, List, [], ◌∷◌, length, get_or, slice_get, refl, sym, ap, ap₂, ◌∙◌, arith}
use Rattle.std.specs.List.{filter}
use Rattle.std.specs.Option.{option_map}
use Rattle.std.proofs.lemmas.Option.{slice_get_within}
use Rattle.builder_trait.specs.Parts.{Contents}
use Rattle.row_blocks.specs.Partitions.{is_in_block}
use Rattle.row_blocks.proofs.Partitioning.{length-block_of, from_in_block}
use Rattle.map_shapes.specs.declared.point.Point.{Point}
use Rattle.range_tree.specs.declared.entry.Entry.{Entry}
use Rattle.range_tree.specs.declared.rows.RangeTree.{RangeTree}
use Rattle.range_tree.specs.Tree.{precedes}
use Rattle.range_tree.specs.Marks.{IsDying, IsFalling}
use Rattle.range_tree.proofs.TopOrder.{no_entry, entry_at, entry_each, place_at, rises, known_y, found_entry}
use Rattle.range_tree.proofs.SpanLemmas.{many_places, has_each}

-- what a test keeps something of has an entry that passes it
found_in : (test : ℕ → Bool) (xs : List ℕ) → 0 < length (filter test xs) → (j : ℕ) × (j < length xs) × (test (get_or xs j 0) ≡ true)
found_in test [] some = absurd (omega arith)
found_in test (x ∷ xs) some = by (test x) refl some (found_in test xs)
  where
    by : (b : Bool) → test x ≡ b → 0 < length (cond b (x ∷ filter test xs) (filter test xs))
        → (0 < length (filter test xs) → (j : ℕ) × (j < length xs) × (test (get_or xs j 0) ≡ true))
        → (j : ℕ) × (j < length (x ∷ xs)) × (test (get_or (x ∷ xs) j 0) ≡ true)
    by true is some rest = (0, omega arith, is)
    by false is some rest = let found = rest some in (suc found.0, omega (arith, found.1), found.2)

module _ (part : Contents Point) (place : ℕ) (item : Point) (rows : RangeTree) (dying : IsDying part place item rows) where
  inside : place < length part.items
  inside = slice_get_within part.items place item dying.there

  -- an index of the second order has the place
  placed : (j : ℕ) × (j < length part.places) × (get_or part.places j 0 ≡ place)
  placed =
      let many = many_places part dying.valid.each_place in
      let found = found_in (is_in_block (λ p. p) 0 place) part.places
      (omega (arith, inside, many, length-block_of (λ p. p) part.places 0 place (has_each part dying.valid.each_place))) in
      let both = from_in_block (λ p. p) 0 place (get_or part.places found.0 0) found.2 in
      (found.0, found.1, omega (arith, both.0, both.1))

  pub IsFalling-found : (k : ℕ)
      → ((i : ℕ) → i < k → IsTrue (precedes (entry_at rows.top.items i) (record { y = item.y; place = place })))
      → ((i : ℕ) → k ≤ i → i < length rows.top.items → precedes (entry_at rows.top.items i) (record { y = item.y; place = place }) ≡ false)
      → IsFalling part place rows.height item.w k rows.ranks rows.source.items
  IsFalling-found k earlier later =
      let top : List Entry = rows.top.items in
      let many = many_places part dying.valid.each_place in
      let long = entry_each part top dying.valid dying.top in
      let j : ℕ = placed.0 in
      let below : j < length top = omega (arith, placed.1, many, long) in
      let spot : (entry_at top j).place ≡ place = place_at part top dying.valid dying.top j below ∙ placed.2 in
      let ordinate : (entry_at top j).y ≡ item.y =
      known_y part.items (entry_at top j) item (dying.top.known j no_entry below) (ap (slice_get part.items) spot ∙ dying.there) in
      let key : entry_at top j ≡ record { y = item.y; place = place } = ap₂ (λ y p. record { y = y; place = p }) ordinate spot in
      let here : j ≡ k = found_entry top (rises part top dying.valid dying.top) (record { y = item.y; place = place }) k j below earlier later key in
      record {
        each = dying.valid.each_place;
        high = dying.high;
        rows_are = dying.rows_are;
        there = ap (option_map (λ (p : Point). p.w)) dying.there;
        live = dying.live;
        within = omega (arith, here, placed.1, many);
        at = ap (λ i. get_or part.places i 0) (sym here) ∙ placed.2;
      }
