-- The entries of the first row rise, and have the y of the second order.
use Rattle.std.proofs.Common.{◌≡◌, ℕ, ◌==◌, ◌<◌, ◌≤◌, ◌&&◌, ◌||◌, Bool, true, false, nat_lt, IsTrue, List, length, map, get_or, sym, ap, ◌∙◌, arith, subst, Some, slice_get, slice_index, slice_index_or, All, ⊎_elim}
use Rattle.std.specs.Option.{option_map}
use Rattle.std.proofs.lemmas.Bool.{cases_lt, both_ways}
use Rattle.std.proofs.lemmas.Bool.Decides.{nat_tests}
use Rattle.std.proofs.lemmas.Option.{slice_get_within, get_or_from_slice_get, slice_get-get_or, same_Some, slice_get_cases}
use Rattle.std.proofs.lemmas.List.{length-map, get_or-map, get_or_default}
use Rattle.query_laws.specs.Orders.{IsStrictTotalOrder}
use Rattle.query_laws.specs.OrderLaws.{IsStrictTotalOrder-before_in}
use Rattle.query_laws.specs.declared.item.Order.{Order}
use Rattle.query_laws.specs.declared.item.Order.TheVariants.{First, Second}
use Rattle.builder_trait.specs.Parts.{Contents, IsRising, IsPart}
use Rattle.builder_trait.specs.Search.{PassesUpTo}
use Rattle.builder_trait.proofs.Places.{slice_get-placed, length-placed}
use Rattle.query_laws.proofs.Permutations.{Permuted-length}
use Rattle.map_shapes.specs.declared.point.Point.{Point}
use Rattle.range_tree.specs.declared.entry.Entry.{Entry}
use Rattle.map_structures.specs.declared.reach.Reach.{Reach}
use Rattle.range_tree.specs.Tree.{before, precedes, IsEntryOf, IsTop}
use Rattle.map_structures.specs.Reach.{reaches}
use Rattle.map_structures.proofs.Reaching.{reaches-down}

-- what stands beyond the last entry
abbrev pub no_entry : Entry
no_entry = record { y = 0; place = 0 }

abbrev pub entry_at : List Entry → ℕ → Entry
entry_at entries k = slice_index_or entries k no_entry

order_of : (order : Order) → IsStrictTotalOrder (λ (p : Point). p.stamp) (before order)
order_of order = IsStrictTotalOrder-before_in (λ p. p.x) (λ p. p.y) (λ p. p.stamp) order

-- of two points of one y the one before the other in the second order is it in the first order
same_y : (p q : Point) → p.y ≡ q.y → IsTrue (before Second p q) → IsTrue (before First p q)
same_y p q same earlier = grind (arith, nat_tests)

-- none before another in the second order has a greater y
no_greater : (p q : Point) → IsTrue (before Second p q) → q.y ≤ p.y → p.y ≡ q.y
no_greater p q earlier from = grind (arith, nat_tests)

less_y : (a b : Entry) → a.y < b.y → IsTrue (precedes a b)
less_y a b less = grind (arith, nat_tests)

less_place : (a b : Entry) → a.y ≡ b.y → a.place < b.place → IsTrue (precedes a b)
less_place a b same less = grind (arith, nat_tests)

-- the y of a known entry
pub known_y : (points : List Point) (e : Entry) (p : Point) → IsEntryOf points e → slice_get points e.place ≡ Some p → e.y ≡ p.y
known_y points e p known at = sym (same_Some p.y e.y (sym (ap (option_map (λ (q : Point). q.y)) at) ∙ known))

module _ (points : List Point) (rising : IsRising (before First) points) where
  -- of two points at places, the first in the first order has the lower place
  lower_place : (k l : ℕ) (p q : Point) → slice_get points k ≡ Some p → slice_get points l ≡ Some q → IsTrue (before First p q) → k < l
  lower_place k l p q at there earlier = ⊎_elim (λ less. less) (λ from. absurd (not_from from)) (cases_lt k l)
    where
      not_from : l ≤ k → ⊥
      not_from from =
          ⊎_elim
          (λ less.
          let back : IsTrue (before First q p) = subst (λ y. IsTrue (before First q y)) (get_or_from_slice_get points k p p at)
          (subst (λ x. IsTrue (before First x (get_or points k p))) (get_or_from_slice_get points l q p there) (rising l k p less (slice_get_within points k p at))) in
          let itself : IsTrue (before First p p) = (order_of First).transitive p q p earlier back in
          let no : before First p p ≡ false = (order_of First).irreflexive p in cc)
          (λ up_to.
          let here : k ≡ l = omega arith in
          let is : p ≡ q = same_Some p q (sym at ∙ ap (slice_get points) here ∙ there) in
          let itself : IsTrue (before First p p) = subst (λ y. IsTrue (before First p y)) (sym is) earlier in
          let no : before First p p ≡ false = (order_of First).irreflexive p in cc)
          (cases_lt l k)

  -- entries of points that rise in the second order
  pub precedes-before : (a b : Entry) (p q : Point) → slice_get points a.place ≡ Some p → slice_get points b.place ≡ Some q
      → a.y ≡ p.y → b.y ≡ q.y → IsTrue (before Second p q) → IsTrue (precedes a b)
  precedes-before a b p q at there ya yb earlier =
      ⊎_elim
      (λ less. less_y a b (omega arith))
      (λ from.
      let same : p.y ≡ q.y = no_greater p q earlier from in
      less_place a b (ya ∙ same ∙ sym yb) (lower_place a.place b.place p q at there (same_y p q same earlier)))
      (cases_lt p.y q.y)

module _ (b : Contents Point) (entries : List Entry) (underway : IsPart before b) (top : IsTop b.items b.places entries) where
  places : map (λ e. e.place) entries ≡ b.places
  places = top.places_are

  known : All (IsEntryOf b.items) entries
  known = top.known

  pub entry_each : length entries ≡ length b.items
  entry_each =
      sym (length-map entries (λ (e : Entry). e.place)) ∙ ap length places ∙ length-placed b.items b.reordered b.places underway.placed ∙ Permuted-length underway.same_items

  pub place_at : (k : ℕ) → k < length entries → (entry_at entries k).place ≡ slice_index b.places k
  place_at k within = sym (get_or-map (λ (e : Entry). e.place) entries k no_entry 0 within) ∙ ap (λ l. slice_index l k) places

  -- the point of the second order at an index, which the entry there has
  pub point_at : (k : ℕ) → k < length entries → (d : Point) → slice_get b.items (entry_at entries k).place ≡ Some (get_or b.reordered k d)
  point_at k within d =
      ap (slice_get b.items) (place_at k within)
      ∙ slice_get-placed b.items b.reordered b.places underway.placed k (get_or b.reordered k d)
      (slice_get-get_or b.reordered k d (omega (arith, entry_each, Permuted-length underway.same_items)))

  pub rises : (k l : ℕ) → k < l → l < length entries → IsTrue (precedes (entry_at entries k) (entry_at entries l))
  rises k l less within =
      ⊎_elim
      (λ (x, inside, at, read).
      precedes-before b.items underway.rising (entry_at entries k) (entry_at entries l) (get_or b.reordered k x) (get_or b.reordered l x)
      (point_at k (omega arith) x) (point_at l within x)
      (known_y b.items (entry_at entries k) (get_or b.reordered k x) (known k no_entry (omega arith)) (point_at k (omega arith) x))
      (known_y b.items (entry_at entries l) (get_or b.reordered l x) (known l no_entry within) (point_at l within x))
      (underway.rising_reordered k l x less (omega (arith, entry_each, Permuted-length underway.same_items))))
      (λ (past, none). absurd (omega (arith, entry_each, Permuted-length underway.same_items)))
      (slice_get_cases b.reordered l).1

  -- the y of an entry
  pub y_is : (k : ℕ) (p : Point) → slice_get b.reordered k ≡ Some p → (k < length entries) × ((entry_at entries k).y ≡ p.y)
  y_is k p at =
      let inside : k < length entries =
      omega (arith, slice_get_within b.reordered k p at, entry_each, Permuted-length underway.same_items) in
      let same : get_or b.reordered k p ≡ p = get_or_from_slice_get b.reordered k p p at in (
        inside,
        known_y b.items (entry_at entries k) (get_or b.reordered k p) (known k no_entry inside) (point_at k inside p) ∙ ap (λ (q : Point). q.y) same,
      )

ordinate-from_precedes : (a b : Entry) → IsTrue (precedes a b) → a.y ≤ b.y
ordinate-from_precedes a b ahead = by a.y b.y a.place b.place ahead
  where
    by : (x y p q : ℕ) → (nat_lt x y || ((x == y) && nat_lt p q)) ≡ true → x ≤ y
    by x y p q ahead = grind (arith, nat_tests)

precedes-transitive : (a b c : Entry) → IsTrue (precedes a b) → IsTrue (precedes b c) → IsTrue (precedes a c)
precedes-transitive a b c first second = by a.y b.y c.y a.place b.place c.place first second
  where
    by : (x y z p q r : ℕ) → (nat_lt x y || ((x == y) && nat_lt p q)) ≡ true → (nat_lt y z || ((y == z) && nat_lt q r)) ≡ true
        → (nat_lt x z || ((x == z) && nat_lt p r)) ≡ true
    by x y z p q r first second = grind (arith, nat_tests)

precedes-irreflexive : (a : Entry) → precedes a a ≡ false
precedes-irreflexive a = by a.y a.place
  where
    by : (y p : ℕ) → (nat_lt y y || ((y == y) && nat_lt p p)) ≡ false
    by y p = grind (arith, nat_tests)

module _ (entries : List Entry) (rising : (k l : ℕ) → k < l → l < length entries → IsTrue (precedes (entry_at entries k) (entry_at entries l))) where
  -- where entries rise, a test that passes all before an entry that it passes does so in the row
  pub PassesUpTo-entries : (passes : Entry → Bool) (low high : ℕ) → high ≤ length entries
      → ((a b : Entry) → IsTrue (precedes a b) → IsTrue (passes b) → IsTrue (passes a)) → PassesUpTo passes entries low high
  PassesUpTo-entries passes low high within down k l d above less below passed =
      subst (λ e. IsTrue (passes e)) (get_or_default entries k no_entry d (omega arith))
      (down (entry_at entries k) (entry_at entries l) (rising k l less (omega arith))
      (subst (λ e. IsTrue (passes e)) (get_or_default entries l d no_entry (omega arith)) passed))

  pub PassesUpTo-ys : (reach : Reach) (low high : ℕ) → high ≤ length entries → PassesUpTo (λ e. reaches reach e.y) entries low high
  PassesUpTo-ys reach low high within =
      PassesUpTo-entries (λ e. reaches reach e.y) low high within (λ a b ahead. reaches-down reach a.y b.y (ordinate-from_precedes a b ahead))

  pub PassesUpTo-preceding : (key : Entry) (low high : ℕ) → high ≤ length entries → PassesUpTo (λ e. precedes e key) entries low high
  PassesUpTo-preceding key low high within =
      PassesUpTo-entries (λ e. precedes e key) low high within (λ a b ahead passed. precedes-transitive a b key ahead passed)

  -- where an entry of the row is searched for, the search ends at it
  pub found_entry : (key : Entry) (k j : ℕ) → j < length entries
      → ((i : ℕ) → i < k → IsTrue (precedes (entry_at entries i) key))
      → ((i : ℕ) → k ≤ i → i < length entries → precedes (entry_at entries i) key ≡ false)
      → entry_at entries j ≡ key → j ≡ k
  found_entry key k j to_j before_k after_k is =
      ⊎_elim
      (λ less. let itself : IsTrue (precedes key key) = subst (λ z. IsTrue (precedes z key)) is (before_k j less) in
      absurd (both_ways (precedes key key) (precedes-irreflexive key) itself))
      (λ from. ⊎_elim
      (λ more.
      let ahead : IsTrue (precedes (entry_at entries k) key) =
      subst (λ z. IsTrue (precedes (entry_at entries k) z)) is (rising k j more to_j) in
      absurd (both_ways (precedes (entry_at entries k) key) (after_k k (omega arith) (omega arith)) ahead))
      (λ up_to. omega arith)
      (cases_lt k j))
      (cases_lt j k)
