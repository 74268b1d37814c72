-- What the flat structure keeps over a put and over the last turn.
use Rattle.std.proofs.Common.{◌≡◌, ℕ, ◌<◌, ◌≤◌, ◌^◌, Bool, true, false, IsTrue, List, [], ◌∷◌, ◌++◌, length, map, replicate, get_or, refl, sym, ap, ◌∙◌, arith, subst, Some, slice_get, slice_index, pow_mono, ⊎_elim}
use Rattle.std.specs.List.{items_where_true}
use Rattle.std.specs.Option.{option_to_list}
use Rattle.std.proofs.lemmas.List.Concat.{flat_map-append}
use Rattle.std.proofs.lemmas.Option.{slice_get_within, slice_get_cases}
use Rattle.std.proofs.lemmas.List.{map_push, length_push, nil_from_length}
use Rattle.std.proofs.lemmas.List.Quantifiers.{all_pairs_push}
use Rattle.query_laws.specs.Orders.{IsStrictTotalOrder}
use Rattle.query_laws.specs.StepLedger.{Entries}
use Rattle.query_laws.specs.declared.item.Order.{Order}
use Rattle.query_laws.specs.declared.item.Order.TheVariants.{First, Second}
use Rattle.builder_trait.specs.Parts.{Contents, IsPart, IsRising}
use Rattle.builder_trait.specs.Builders.{Progress, IsUnderway, FitsFirst, FitsSecond}
use Rattle.builder_trait.specs.Flat.{items_at, IsFlatBuilding, IsFlagging}
use Rattle.builder_trait.proofs.RebuildingLemmas.{length-reordered, placed-at}
use Rattle.builder_trait.proofs.Places.{length-reordered_le, length-placed, IsPart-from_rising}

module _ {Item : Type 0} (items : List Item) (places : List ℕ) where
  -- one more place
  items_at-push : (at : ℕ) (item : Item) → slice_get items at ≡ Some item → items_at items (places ++ at ∷ []) ≡ items_at items places ++ item ∷ []
  items_at-push at item there =
      flat_map-append (λ (p : ℕ). option_to_list (slice_get items p)) places (at ∷ [])
      ∙ ap (λ o. items_at items places ++ (option_to_list o ++ [])) there

module _ {Item : Type 0} {stamp : Item → ℕ} {before : Order → Item → Item → Bool} (order : IsStrictTotalOrder stamp (before Second))
    {items : Entries Item} {places : Entries ℕ} {flags : Entries Bool} {n : ℕ} (kept : IsFlatBuilding before items places flags n)
    {b : Progress Item} {item : Item} {at : ℕ} (fits : FitsSecond (before Second) b item at)
    (same_items : b.items ≡ items.items) (same_reordered : b.reordered ≡ items_at items.items places.items) where
  there : slice_get items.items at ≡ Some item
  there = subst (λ l. slice_get l at ≡ Some item) same_items fits.at_place

  -- a place fits four bytes
  pub small-put : at < 2 ^ 32
  small-put =
      let low : n ≤ 31 = omega (arith, kept.wide.level_small) in
      let bound : 2 ^ n ≤ 2 ^ 31 = pow_mono low in
      omega (arith, slice_get_within items.items at item there, kept.few, bound)

  -- the item at it is put in the second order
  reordered-put : items_at items.items (places.items ++ at ∷ []) ≡ items_at items.items places.items ++ item ∷ []
  reordered-put = items_at-push items.items places.items at item there

  placed-put : map (slice_get items.items) (places.items ++ at ∷ []) ≡ map Some (items_at items.items (places.items ++ at ∷ []))
  placed-put =
      map_push (slice_get items.items) places.items at
      ∙ ap (λ l. l ++ slice_get items.items at ∷ []) kept.placed
      ∙ ap (λ o. map Some (items_at items.items places.items) ++ o ∷ []) there
      ∙ sym (map_push Some (items_at items.items places.items) item)
      ∙ ap (map Some) (sym reordered-put)

  rising-put : IsRising (before Second) (items_at items.items (places.items ++ at ∷ []))
  rising-put =
      subst (IsRising (before Second)) (sym reordered-put)
      (all_pairs_push (λ x y. IsTrue (before Second x y)) (items_at items.items places.items) item kept.rising_reordered
      (subst (λ l. (k : ℕ) (d : Item) → k < length l → IsTrue (before Second (get_or l k d) item)) same_reordered fits.after))

  -- there is room for one more in the second order
  pub room-put : length places.items < 2 ^ n
  room-put =
      let more = places.items ++ at ∷ [] in
      omega (
        arith,
        kept.few,
        length_push places.items at,
        length-placed items.items (items_at items.items more) more placed-put,
        length-reordered_le items.items (items_at items.items more) more placed-put order rising-put,
      )

  pub IsFlatBuilding-put : {places' : Entries ℕ} → places' ≡ record places { items = places.items ++ at ∷ [] }
      → IsFlatBuilding before items places' flags n
  IsFlatBuilding-put pushed =
      subst (λ p. IsFlatBuilding before items p flags n) (sym pushed)
      (record {
        wide = record {
          level_small = kept.wide.level_small;
          room = kept.wide.room;
          room_places = kept.wide.room_places;
          room_flags = kept.wide.room_flags;
        };
        few = kept.few;
        rising = kept.rising;
        rising_reordered = rising-put;
        placed = placed-put;
      })

module _ {Item : Type 0} {before : Order → Item → Item → Bool} {items : Entries Item} {places : Entries ℕ} {flags : Entries Bool} {n : ℕ}
    (kept : IsFlatBuilding before items places flags n)
    {b : Progress Item} {item : Item} {at : ℕ} (fits : FitsFirst (before First) b item at)
    (same_items : b.items ≡ items.items) (same_reordered : b.reordered ≡ items_at items.items places.items) (same_level : b.at_level ≡ n) where
  -- an item is put in the first order before any in the second order
  no_places : places.items ≡ []
  no_places =
      nil_from_length places.items
      (omega (arith, length-placed items.items (items_at items.items places.items) places.items kept.placed, ap length (sym same_reordered ∙ fits.none_reordered)))

  pub IsFlatBuilding-first : {items' : Entries Item} → items' ≡ record items { items = items.items ++ item ∷ [] } → IsFlatBuilding before items' places flags n
  IsFlatBuilding-first pushed =
      subst (λ r. IsFlatBuilding before r places flags n) (sym pushed)
      (record {
        wide = record {
          level_small = kept.wide.level_small;
          room = kept.wide.room;
          room_places = kept.wide.room_places;
          room_flags = kept.wide.room_flags;
        };
        few = omega (arith, fits.room, ap length same_items, ap (λ i. 2 ^ i) same_level, length_push items.items item);
        rising = all_pairs_push (λ x y. IsTrue (before First x y)) items.items item kept.rising
            (subst (λ l. (k : ℕ) (d : Item) → k < length l → IsTrue (before First (get_or l k d) item)) same_items fits.after);
        rising_reordered = subst (λ (ps : List ℕ). IsRising (before Second) (items_at (items.items ++ item ∷ []) ps)) (sym no_places)
            (λ i j d below within. absurd (omega arith));
        placed = subst (λ (ps : List ℕ). map (slice_get (items.items ++ item ∷ [])) ps ≡ map Some (items_at (items.items ++ item ∷ []) ps)) (sym no_places) refl;
      })

module _ {Item : Type 0} where
  -- the rows are those of a builder that is underway
  pub IsUnderway-building : {before : Order → Item → Item → Bool} {items : Entries Item} {places : Entries ℕ} {flags : Entries Bool}
      {n left : ℕ} {is_sealed : Bool} → IsFlatBuilding before items places flags n
      → IsFlagging items.items (items_at items.items places.items) flags.items is_sealed left
      → IsUnderway before (record {
        items = items.items;
        reordered = items_at items.items places.items;
        places = places.items;
        at_level = n;
        is_sealed = is_sealed;
        left = left;
      })
  IsUnderway-building kept flagging = record {
    small = kept.wide.level_small;
    few = kept.few;
    rising = kept.rising;
    rising_reordered = kept.rising_reordered;
    placed = kept.placed;
    complete = flagging.complete;
  }

  -- before the seal flags say nothing of items
  pub IsFlagging-put : {items items' reordered reordered' : List Item} {flags : List Bool} {is_sealed : Bool} {left : ℕ} → is_sealed ≡ false
      → IsFlagging items reordered flags is_sealed left → IsFlagging items' reordered' flags is_sealed left
  IsFlagging-put open_still flagging = record {
    all_true = flagging.all_true;
    none_yet = flagging.none_yet;
    to_go = λ closed. absurd cc;
    complete = λ closed. absurd cc;
  }

  -- with a flag for each item, all are live
  pub items-all_true : (xs : List Item) → items_where_true (replicate (length xs) true) xs ≡ xs
  items-all_true [] = refl
  items-all_true (x ∷ xs) = ap (λ l. x ∷ l) (items-all_true xs)

  pub flags-ended : {items reordered : List Item} {flags : List Bool} {is_sealed : Bool} {left : ℕ}
      → IsFlagging items reordered flags is_sealed left → is_sealed ≡ true → left ≡ 0 → flags ≡ replicate (length items) true
  flags-ended flagging closed ended =
      flagging.all_true ∙ ap (λ k. replicate k true) (omega (arith, flagging.to_go closed))

  pub items-ended : {items reordered : List Item} {flags : List Bool} {is_sealed : Bool} {left : ℕ}
      → IsFlagging items reordered flags is_sealed left → is_sealed ≡ true → left ≡ 0 → items_where_true flags items ≡ items
  items-ended {items} flagging closed ended =
      ap (λ l. items_where_true l items) (flags-ended flagging closed ended) ∙ items-all_true items

  pub IsPart-ended : {stamp : Item → ℕ} {before : Order → Item → Item → Bool} {items : Entries Item} {places : Entries ℕ} {flags : Entries Bool}
      {n : ℕ} {is_sealed : Bool} {left : ℕ} → IsStrictTotalOrder stamp (before Second) → IsFlatBuilding before items places flags n
      → IsFlagging items.items (items_at items.items places.items) flags.items is_sealed left → is_sealed ≡ true → left ≡ 0
      → IsPart before (record { items = items.items; flags = flags.items; reordered = items_at items.items places.items; places = places.items; at_level = n })
  IsPart-ended order kept flagging closed ended =
      IsPart-from_rising _ order kept.rising kept.rising_reordered kept.placed (flagging.complete closed)
      (omega (arith, flagging.to_go closed))

  -- the item at a place is that of its index in the second order
  pub item_at_place : {before : Order → Item → Item → Bool} {part : Contents Item} → IsPart before part → (k : ℕ) (x : Item) → k < length part.items
      → slice_get part.items (slice_index part.places k) ≡ Some x → slice_get part.reordered k ≡ Some x
  item_at_place {part = part} valid k x below there =
      ⊎_elim
      (λ (y, inside, at, _). at ∙ sym (placed-at valid k y at) ∙ there)
      (λ (past, _). absurd (omega (arith, length-reordered valid)))
      (slice_get_cases part.reordered k).1
