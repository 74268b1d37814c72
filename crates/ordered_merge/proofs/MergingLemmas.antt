-- A merge, kept by each turn.
use Rattle.std.proofs.Common.{◌≡◌, ℕ, zero, suc, ◌+◌, ◌-◌, ◌*◌, ◌<◌, ◌≤◌, Bool, true, false, if◌then◌else◌, Option, Some, None, List, [], ◌∷◌, ◌++◌, length, map, refl, sym, ap, ◌∙◌, arith, subst, slice_get, slice_index, length-append}
use Rattle.std.specs.List.{slice_index_or}
use Rattle.std.specs.Option.{is_some, option_map}
use Rattle.std.proofs.lemmas.Option.{slice_get_within, slice_get-map, slice_get-get_or}
use Rattle.std.proofs.lemmas.List.{length_push, map-append, nil_from_length}
use Rattle.query_laws.specs.Orders.{IsStrictTotalOrder}
use Rattle.query_laws.specs.Permuted.{nothing}
use Rattle.query_laws.proofs.Permutations.{Permuted-length}
use Rattle.query_laws.specs.declared.item.Order.TheVariants.{First, Second}
use Rattle.builder_trait.specs.Parts.{Contents, IsPart, marked}
use Rattle.builder_trait.specs.Builders.{PartProfile, Progress, begun, FitsFirst, FitsSecond, with_put}
use Rattle.builder_trait.specs.Rebuilding.{live_before, live_reordered_before, flags_reordered}
use Rattle.builder_trait.proofs.RebuildingLemmas.{placed-at, place_within, live_reordered-more, live_reordered-same, length-reordered, live_before-all, live_reordered_before-all, length-live_reordered_before}
use Rattle.builder_trait.proofs.Kept.{length-kept_le}
use Rattle.builder_trait.proofs.Places.{length-placed}
use Rattle.ordered_merge.specs.Merging.{Merging, Merges, AreSources, HasTaken, HasRetaken, HasRead, IsFront, IsNext, IsMerged, IsWhole, StampsDiffer, PassedBelow, HasNewPlaces, chosen, new_place, unbegun, taken_of, taken_reordered}
use Rattle.ordered_merge.proofs.Fronts.{IsFront-more, IsFront-swap, PassedBelow-read, PassedBelow-other, IsAfter-merged, IsMerged-more, IsMerged-swap}
use Rattle.ordered_merge.proofs.Tables.{live_before-taken, live_before-skipped, HasNewPlaces-longer, HasNewPlaces-skipped, HasNewPlaces-taken, reread_none, IsPart-chosen, TakesLive-none, TakesLive-more}

-- one more entry of a
abbrev pub read_a : {Item : Type 0} → Bool → Item → Merging Item → Merging Item
read_a live x m = record m {
  a = record { table = m.a.table ++ new_place live m.taken ∷ []; reread = m.a.reread };
  taken = if live then m.taken + 1 else m.taken;
  reached = Some x;
  left = m.left - 1;
}

-- one item more of a in the second order
abbrev pub reread_a : {Item : Type 0} → Merging Item → Merging Item
reread_a m = record m { a = record { table = m.a.table; reread = m.a.reread + 1 }; left = m.left - 1 }

-- the parts in the other order
abbrev pub swapped : {Item : Type 0} → Merging Item → Merging Item
swapped m = record m { a = m.b; b = m.a }

-- one more entry of a, as the fields are written
abbrev pub written_a : {Item : Type 0} → ℕ → List (Option ℕ) → ℕ → Item → Merging Item → Merging Item
written_a room table n x m = record m {
  capacity = room;
  a = record { table = table; reread = m.a.reread };
  taken = n;
  reached = Some x;
  left = m.left - 1;
}

-- how much is read, as the fields are
module _ {Item : Type 0} {m seen : Merging Item} (is : m ≡ seen) where
  pub all_read : {n : ℕ} → length seen.a.table + length seen.b.table ≡ n → length m.a.table + length m.b.table ≡ n
  all_read read = ap (λ r. length r.a.table + length r.b.table) is ∙ read

  pub all_read_swapped : (n k : ℕ) → length seen.a.table + length seen.b.table ≡ n + k → length m.b.table + length m.a.table ≡ k + n
  all_read_swapped n k read = omega (arith, read, all_read refl)

  pub HasRead-of : {n : ℕ} {new : Merging Item} {part other : Contents Item} {b fresh : Progress Item} → HasRead n m new part other b fresh
      → HasRead n seen new part other b fresh
  HasRead-of {n} {new} {part} {other} {b} {fresh} h = subst (λ r. HasRead n r new part other b fresh) is h

pub HasRead-none : {Item : Type 0} (m : Merging Item) {part other : Contents Item} (b : Progress Item) → HasRead 0 m m part other b b
HasRead-none m b = record {
  left = omega arith;
  capacity = refl;
  taken = TakesLive-none m.a.table;
  other_taken = TakesLive-none m.b.table;
  level = refl;
}

-- reading on
pub HasRead-more : {Item : Type 0} {n k : ℕ} {m new last : Merging Item} {part other : Contents Item} {b fresh final : Progress Item}
    → HasRead n m new part other b fresh → HasRead k new last part other fresh final → HasRead (n + k) m last part other b final
HasRead-more h more = record {
  left = omega (arith, h.left, more.left);
  capacity = more.capacity ∙ h.capacity;
  taken = TakesLive-more h.taken more.taken;
  other_taken = TakesLive-more h.other_taken more.other_taken;
  level = more.level ∙ h.level;
}

pub HasRead-swap : {Item : Type 0} {n : ℕ} {m new : Merging Item} {part other : Contents Item} {b fresh : Progress Item}
    → HasRead n m new part other b fresh → HasRead n (swapped m) (swapped new) other part b fresh
HasRead-swap h = record { left = h.left; capacity = h.capacity; taken = h.other_taken; other_taken = h.taken; level = h.level }

-- nothing is taken in the second order
pub HasRead-reread : {Item : Type 0} {n capacity left : ℕ} (m : Merging Item) {reread other_reread : ℕ} {part other : Contents Item} {b fresh : Progress Item}
    → capacity ≡ m.capacity → left + n ≡ m.left → fresh.at_level ≡ b.at_level
    → HasRead n m (record m {
      capacity = capacity;
      a = record { table = m.a.table; reread = reread };
      b = record { table = m.b.table; reread = other_reread };
      left = left;
    }) part other b fresh
HasRead-reread m as_wide left level = record {
  left = left;
  capacity = as_wide;
  taken = TakesLive-none m.a.table;
  other_taken = TakesLive-none m.b.table;
  level = level;
}

module _ {Item : Type 0} {profile : PartProfile Item} where
  -- what contracts see of it, as the fields are
  pub Merges-of : {m seen : Merging Item} {part other : Contents Item} {b : Progress Item} → m ≡ seen → Merges profile seen part other b
      → Merges profile m part other b
  Merges-of {part = part} {other = other} {b = b} is h = subst (λ r. Merges profile r part other b) (sym is) h

  -- nothing is read
  pub Merges-begun : (part other : Contents Item) (n level : ℕ) → AreSources profile.stamp n level part.items other.items
      → Merges profile (record (unbegun n) { left = 2 * (length part.items + length other.items) }) part other (begun level)
  Merges-begun part other n level sources = record {
    sources = sources;
    unsealed = refl;
    to_go = omega arith;
    taking = record {
      front = none_read (profile.before First) part.items other.items;
      put = none_put (profile.before First);
      new_places = λ k n at. absurd cc;
      other_new_places = λ k n at. absurd cc;
      counted = refl;
      passed = λ k x at. (λ below. absurd (omega arith), λ from. refl);
      other_passed = λ k x at. (λ below. absurd (omega arith), λ from. refl);
    };
    retaking = record {
      front = none_read (profile.before Second) part.reordered other.reordered;
      in_turn = λ some. absurd (omega arith);
      put = none_put (profile.before Second);
      placed = refl;
    };
  }
    where
      none_read : (order : Item → Item → Bool) (xs ys : List Item) → IsFront order 0 xs 0 ys
      none_read order xs ys = record {
        within = omega arith;
        within_other = omega arith;
        ahead = λ k l x y below from at_x at_y. absurd (omega arith);
        other_ahead = λ k l x y below from at_x at_y. absurd (omega arith);
      }

      none_put : (order : Item → Item → Bool) → IsMerged order [] [] []
      none_put order = record { rising = λ i j d below within. absurd (omega arith); same_items = nothing }

  module _ {m : Merging Item} {part other : Contents Item} {b : Progress Item} (h : Merges profile m part other b) where
    pub Merges-swap : Merges profile (swapped m) other part b
    Merges-swap = record {
      sources = record {
        fits = h.sources.other_fits;
        other_fits = h.sources.fits;
        room = omega (arith, h.sources.room);
        stamps_differ = λ k l x y at_x at_y same. h.sources.stamps_differ l k y x at_y at_x (sym same);
      };
      unsealed = h.unsealed;
      to_go = omega (arith, h.to_go);
      taking = record {
        front = IsFront-swap h.taking.front;
        put = IsMerged-swap h.taking.put;
        new_places = h.taking.other_new_places;
        other_new_places = h.taking.new_places;
        counted = h.taking.counted;
        passed = h.taking.other_passed;
        other_passed = h.taking.passed;
      };
      retaking = record {
        front = IsFront-swap h.retaking.front;
        in_turn = λ some. let before_swap = h.retaking.in_turn (omega arith) in omega arith;
        put = IsMerged-swap h.retaking.put;
        placed = h.retaking.placed;
      };
    }

    -- items that die leave it as it is: it speaks of no flag
    pub Merges-flags : (flags other_flags : List Bool)
        → Merges profile m (record part { flags = flags }) (record other { flags = other_flags }) b
    Merges-flags flags other_flags = record {
      sources = h.sources;
      unsealed = h.unsealed;
      to_go = h.to_go;
      taking = h.taking;
      retaking = record {
        front = h.retaking.front;
        in_turn = h.retaking.in_turn;
        put = h.retaking.put;
        placed = h.retaking.placed;
      };
    }

    pub Merges-marked : (dead : ℕ) → Merges profile m (marked profile.stamp dead part) other b
    Merges-marked dead = Merges-flags (marked profile.stamp dead part).flags other.flags

    pub Merges-marked_other : (dead : ℕ) → Merges profile m part (marked profile.stamp dead other) b
    Merges-marked_other dead = Merges-flags part.flags (marked profile.stamp dead other).flags

    pub taken_le : m.taken ≤ length m.a.table + length m.b.table
    taken_le =
        omega (
          arith,
          h.taking.counted,
          Permuted-length h.taking.put.same_items,
          length-append (live_before (length m.a.table) (chosen m.a.table part)) (live_before (length m.b.table) (chosen m.b.table other)),
          length-kept_le (length m.a.table) (map is_some m.a.table) part.items,
          length-kept_le (length m.b.table) (map is_some m.b.table) other.items,
        )

  module _ {m : Merging Item} {part other : Contents Item} {b : Progress Item} (h : Merges profile m part other b)
      (order : IsStrictTotalOrder profile.stamp (profile.before First)) (valid : IsPart profile.before part) (other_valid : IsPart profile.before other)
      (x : Item) (next : IsNext (profile.before First) (length m.a.table) part.items (length m.b.table) other.items x) where
    unfinished : m.a.reread + m.b.reread ≡ 0
    unfinished = by (m.a.reread + m.b.reread) refl
      where
        by : (n : ℕ) → m.a.reread + m.b.reread ≡ n → m.a.reread + m.b.reread ≡ 0
        by zero e = e
        by (suc n) e =
            let full : length m.a.table + length m.b.table ≡ length part.items + length other.items = h.retaking.in_turn (omega arith) in
            let inside : length m.a.table < length part.items = slice_get_within part.items (length m.a.table) x next.here in
            let within : length m.b.table ≤ length other.items = h.taking.front.within_other in
            absurd (omega arith)

    none_reordered : b.reordered ≡ []
    none_reordered =
        let none : m.a.reread ≡ 0 = omega (arith, unfinished) in
        let none_other : m.b.reread ≡ 0 = omega (arith, unfinished) in
        nil_from_length b.reordered
        (omega (
          arith,
          Permuted-length h.retaking.put.same_items,
          length-append (live_reordered_before m.a.reread (chosen m.a.table part)) (live_reordered_before m.b.reread (chosen m.b.table other)),
          length-kept_le m.a.reread (flags_reordered (chosen m.a.table part)) part.reordered,
          length-kept_le m.b.reread (flags_reordered (chosen m.b.table other)) other.reordered,
        ))

    none_placed : b.places ≡ []
    none_placed = nil_from_length b.places (length-placed b.items b.reordered b.places h.retaking.placed ∙ ap length none_reordered)

    -- the next item of the first order may be put
    pub FitsFirst-next : FitsFirst (profile.before First) b x m.taken
    FitsFirst-next = record {
      room = omega (
        arith,
        taken_le h,
        h.taking.counted,
        h.sources.room,
        slice_get_within part.items (length m.a.table) x next.here,
        h.taking.front.within_other,
      );
      none_reordered = none_reordered;
      next_place = h.taking.counted;
      after = IsAfter-merged order valid.rising other_valid.rising h.taking.front next (map is_some m.a.table) (map is_some m.b.table) b.items h.taking.put;
    }

    -- what does not depend on whether it is live
    front_more : (e : Option ℕ) → IsFront (profile.before First) (length (m.a.table ++ e ∷ [])) part.items (length m.b.table) other.items
    front_more e =
        subst (λ n. IsFront (profile.before First) n part.items (length m.b.table) other.items) (sym (length_push m.a.table e))
        (IsFront-more order valid.rising other_valid.rising h.taking.front next)

    passed_more : (e : Option ℕ) → PassedBelow (profile.before First) (Some x) (length (m.a.table ++ e ∷ [])) part.items
    passed_more e =
        subst (λ n. PassedBelow (profile.before First) (Some x) n part.items) (sym (length_push m.a.table e))
        (PassedBelow-read order valid.rising other_valid.rising h.taking.front next)

    to_go_more : (e : Option ℕ) → m.left - 1 + (length (m.a.table ++ e ∷ []) + length m.b.table + (m.a.reread + m.b.reread))
        ≡ 2 * (length part.items + length other.items)
    to_go_more e =
        omega (arith, h.to_go, unfinished, length_push m.a.table e, slice_get_within part.items (length m.a.table) x next.here, h.taking.front.within_other)

    retaking_same : (e : Option ℕ) (items : List Item) → map (slice_get items) b.places ≡ map Some b.reordered
        → HasRetaken (profile.before Second) (record { table = m.a.table ++ e ∷ []; reread = m.a.reread }) m.b part other (record b { items = items })
    retaking_same e items placed = record {
      front = h.retaking.front;
      in_turn = λ some. absurd (omega (arith, unfinished));
      put = subst (λ l. IsMerged (profile.before Second) b.reordered l (live_reordered_before m.b.reread (chosen m.b.table other)))
          (reread_none m.a.reread (chosen m.a.table part) (chosen (m.a.table ++ e ∷ []) part) (omega (arith, unfinished)))
          h.retaking.put;
      placed = placed;
    }

    -- the item is put, and has its new place
    Merges-taken : Merges profile (read_a true x m) part other (with_put First x m.taken b)
    Merges-taken = record {
      sources = h.sources;
      unsealed = h.unsealed;
      to_go = to_go_more (Some m.taken);
      taking = record {
        front = front_more (Some m.taken);
        put = subst (λ l. IsMerged (profile.before First) (b.items ++ x ∷ []) l (live_before (length m.b.table) (chosen m.b.table other)))
            (sym (live_before-taken m.a.table (Some m.taken) part x refl next.here))
            (IsMerged-more h.taking.put x FitsFirst-next.after);
        new_places = subst (λ n. HasNewPlaces (m.a.table ++ Some n ∷ []) part.items (b.items ++ x ∷ [])) (sym h.taking.counted)
            (HasNewPlaces-taken m.a.table part.items b.items h.taking.front.within h.taking.new_places x next.here);
        other_new_places = HasNewPlaces-longer m.b.table other.items b.items h.taking.front.within_other h.taking.other_new_places x;
        counted = ap (λ n. n + 1) h.taking.counted ∙ sym (length_push b.items x);
        passed = passed_more (Some m.taken);
        other_passed = PassedBelow-other order valid.rising other_valid.rising h.taking.front next;
      };
      retaking = retaking_same (Some m.taken) (b.items ++ x ∷ [])
          (ap (map (slice_get (b.items ++ x ∷ []))) none_placed ∙ sym (ap (map Some) none_reordered));
    }

    -- it is skipped
    Merges-skipped : Merges profile (read_a false x m) part other b
    Merges-skipped = record {
      sources = h.sources;
      unsealed = h.unsealed;
      to_go = to_go_more None;
      taking = record {
        front = front_more None;
        put = subst (λ l. IsMerged (profile.before First) b.items l (live_before (length m.b.table) (chosen m.b.table other)))
            (sym (live_before-skipped m.a.table None part refl)) h.taking.put;
        new_places = HasNewPlaces-skipped m.a.table part.items b.items h.taking.front.within h.taking.new_places;
        other_new_places = h.taking.other_new_places;
        counted = h.taking.counted;
        passed = passed_more None;
        other_passed = PassedBelow-other order valid.rising other_valid.rising h.taking.front next;
      };
      retaking = retaking_same None b.items h.retaking.placed;
    }

    -- a turn in the first order, at an item of a
    pub Merges-read : (live : Bool) → Merges profile (read_a live x m) part other (if live then with_put First x m.taken b else b)
    Merges-read true = Merges-taken
    Merges-read false = Merges-skipped

    -- the same, as the fields are written
    pub Merges-written : (live : Bool) (room : ℕ) (table : List (Option ℕ)) (n : ℕ) (fresh : Progress Item)
        → room ≡ m.capacity → table ≡ m.a.table ++ new_place live m.taken ∷ [] → n ≡ (if live then m.taken + 1 else m.taken)
        → fresh ≡ (if live then with_put First x m.taken b else b) → Merges profile (written_a room table n x m) part other fresh
    Merges-written live room table n fresh as_wide noted counted put =
        subst (λ p. Merges profile (written_a room table n x m) part other p) (sym put)
        (Merges-of
        (ap (λ r. written_a r table n x m) as_wide ∙ ap (λ l. written_a m.capacity l n x m) noted
        ∙ ap (λ k. written_a m.capacity (m.a.table ++ new_place live m.taken ∷ []) k x m) counted)
        (Merges-read live))

  module _ {m : Merging Item} {part other : Contents Item} {b : Progress Item} (h : Merges profile m part other b)
      (order : IsStrictTotalOrder profile.stamp (profile.before Second)) (valid : IsPart profile.before part) (other_valid : IsPart profile.before other)
      (full : length m.a.table + length m.b.table ≡ length part.items + length other.items)
      (x : Item) (next : IsNext (profile.before Second) m.a.reread part.reordered m.b.reread other.reordered x) where
    -- where the first order has read all, the table speaks of the item's place
    full_a : length m.a.table ≡ length part.items
    full_a = omega (arith, full, h.taking.front.within, h.taking.front.within_other)

    pub reread_below : m.a.reread < length part.items
    reread_below = omega (arith, slice_get_within part.reordered m.a.reread x next.here, length-reordered valid)

    pub place_noted : slice_index part.places m.a.reread < length m.a.table
    place_noted = omega (arith, place_within valid m.a.reread reread_below, full_a)

    chosen_at : (e : Option ℕ) → slice_get m.a.table (slice_index part.places m.a.reread) ≡ Some e
        → slice_get (map is_some m.a.table) (slice_index part.places m.a.reread) ≡ Some (is_some e)
    chosen_at e at = slice_get-map is_some m.a.table (slice_index part.places m.a.reread) ∙ ap (option_map is_some) at

    -- the item that the first order took may be put, with its new place
    pub FitsSecond-next : (n : ℕ) → slice_get m.a.table (slice_index part.places m.a.reread) ≡ Some (Some n) → FitsSecond (profile.before Second) b x n
    FitsSecond-next n at = record {
      at_place = h.taking.new_places (slice_index part.places m.a.reread) n at ∙ placed-at valid m.a.reread x next.here;
      after = IsAfter-merged order valid.rising_reordered other_valid.rising_reordered h.retaking.front next
          (flags_reordered (chosen m.a.table part)) (flags_reordered (chosen m.b.table other)) b.reordered h.retaking.put;
    }

    Merges-reread_to : (fresh : Progress Item) → fresh.items ≡ b.items → fresh.at_level ≡ b.at_level → fresh.is_sealed ≡ b.is_sealed
        → IsMerged (profile.before Second) fresh.reordered (live_reordered_before (m.a.reread + 1) (chosen m.a.table part))
        (live_reordered_before m.b.reread (chosen m.b.table other))
        → map (slice_get fresh.items) fresh.places ≡ map Some fresh.reordered
        → Merges profile (reread_a m) part other fresh
    Merges-reread_to fresh items level sealed put placed = record {
      sources = subst (λ n. AreSources profile.stamp m.capacity n part.items other.items) (sym level) h.sources;
      unsealed = sealed ∙ h.unsealed;
      to_go = omega (arith, h.to_go, full, reread_below, h.retaking.front.within_other, length-reordered other_valid);
      taking = subst (λ l. HasTaken (profile.before First) m.a.table m.b.table m.taken m.reached part.items other.items l) (sym items) h.taking;
      retaking = record {
        front = IsFront-more order valid.rising_reordered other_valid.rising_reordered h.retaking.front next;
        in_turn = λ some. full;
        put = put;
        placed = placed;
      };
    }

    Merges-retaken : (n : ℕ) → slice_get m.a.table (slice_index part.places m.a.reread) ≡ Some (Some n)
        → Merges profile (reread_a m) part other (with_put Second x n b)
    Merges-retaken n at =
        Merges-reread_to (with_put Second x n b) refl refl refl
        (subst (λ l. IsMerged (profile.before Second) (b.reordered ++ x ∷ []) l (live_reordered_before m.b.reread (chosen m.b.table other)))
        (sym (live_reordered-more (IsPart-chosen m.a.table valid full_a) m.a.reread x reread_below (chosen_at (Some n) at) next.here))
        (IsMerged-more h.retaking.put x (FitsSecond-next n at).after))
        (map-append (slice_get b.items) b.places (n ∷ []) ∙ ap (λ l. l ++ slice_get b.items n ∷ []) h.retaking.placed
        ∙ ap (λ o. map Some b.reordered ++ o ∷ []) (FitsSecond-next n at).at_place ∙ sym (map-append Some b.reordered (x ∷ [])))

    Merges-reskipped : slice_get m.a.table (slice_index part.places m.a.reread) ≡ Some None → Merges profile (reread_a m) part other b
    Merges-reskipped at =
        Merges-reread_to b refl refl refl
        (subst (λ l. IsMerged (profile.before Second) b.reordered l (live_reordered_before m.b.reread (chosen m.b.table other)))
        (sym (live_reordered-same (IsPart-chosen m.a.table valid full_a) m.a.reread reread_below (chosen_at None at)))
        h.retaking.put)
        h.retaking.placed

    -- a turn in the second order, at an item of a: put as the table says
    module _ (fresh : Progress Item)
        (put : (n : ℕ) → slice_get m.a.table (slice_index part.places m.a.reread) ≡ Some (Some n) → fresh ≡ with_put Second x n b)
        (skipped : slice_get m.a.table (slice_index part.places m.a.reread) ≡ Some None → fresh ≡ b) where
      reread_at : (o : Option ℕ) → slice_get m.a.table (slice_index part.places m.a.reread) ≡ Some o
          → Merges profile (reread_a m) part other fresh × (fresh.at_level ≡ b.at_level)
      reread_at (Some n) at = (
        subst (λ p. Merges profile (reread_a m) part other p) (sym (put n at)) (Merges-retaken n at),
        ap (λ p. p.at_level) (put n at),
      )
      reread_at None at = (
        subst (λ p. Merges profile (reread_a m) part other p) (sym (skipped at)) (Merges-reskipped at),
        ap (λ p. p.at_level) (skipped at),
      )

      pub Merges-reread : Merges profile (reread_a m) part other fresh × (fresh.at_level ≡ b.at_level)
      Merges-reread =
          reread_at (slice_index_or m.a.table (slice_index part.places m.a.reread) None)
          (slice_get-get_or m.a.table (slice_index part.places m.a.reread) None place_noted)

  module _ {m : Merging Item} {part other : Contents Item} {b : Progress Item} (h : Merges profile m part other b)
      (valid : IsPart profile.before part) (other_valid : IsPart profile.before other) where
    pub StampsDiffer-reordered : StampsDiffer profile.stamp part.reordered other.reordered
    StampsDiffer-reordered k l x y at_x at_y =
        h.sources.stamps_differ (slice_index part.places k) (slice_index other.places l) x y (placed-at valid k x at_x) (placed-at other_valid l y at_y)

    -- a merge that is done
    module _ (ended : m.left ≡ 0) where
      pub read_whole : (length m.a.table ≡ length part.items) × (length m.b.table ≡ length other.items)
          × (m.a.reread ≡ length part.items) × (m.b.reread ≡ length other.items)
      read_whole =
          let go = h.to_go in
          let front = h.taking.front in
          let front_reordered = h.retaking.front in
          let same = length-reordered valid in
          let other_same = length-reordered other_valid in (omega arith, omega arith, omega arith, omega arith)

      reordered_all : live_reordered_before m.a.reread (chosen m.a.table part) ≡ taken_reordered m.a.table part
      reordered_all = ap (λ n. live_reordered_before n (chosen m.a.table part)) read_whole.2 ∙ live_reordered_before-all (IsPart-chosen m.a.table valid read_whole.0)

      reordered_all_other : live_reordered_before m.b.reread (chosen m.b.table other) ≡ taken_reordered m.b.table other
      reordered_all_other =
          ap (λ n. live_reordered_before n (chosen m.b.table other)) read_whole.3 ∙ live_reordered_before-all (IsPart-chosen m.b.table other_valid read_whole.1)

      items_all : IsMerged (profile.before First) b.items (taken_of m.a.table part) (taken_of m.b.table other)
      items_all =
          subst (λ l. IsMerged (profile.before First) b.items l (taken_of m.b.table other))
          (ap (λ n. live_before n (chosen m.a.table part)) read_whole.0 ∙ live_before-all (IsPart-chosen m.a.table valid read_whole.0))
          (subst (λ l. IsMerged (profile.before First) b.items (live_before (length m.a.table) (chosen m.a.table part)) l)
          (ap (λ n. live_before n (chosen m.b.table other)) read_whole.1 ∙ live_before-all (IsPart-chosen m.b.table other_valid read_whole.1))
          h.taking.put)

      -- the builder holds exactly what the tables took
      pub IsWhole-ended : IsWhole profile.before m part other b
      IsWhole-ended = record {
        read = read_whole.0;
        other_read = read_whole.1;
        items = items_all;
        reordered = subst (λ l. IsMerged (profile.before Second) b.reordered l (taken_reordered m.b.table other)) reordered_all
            (subst (λ l. IsMerged (profile.before Second) b.reordered (live_reordered_before m.a.reread (chosen m.a.table part)) l) reordered_all_other h.retaking.put);
        placed = h.retaking.placed;
        as_many = omega (
          arith,
          Permuted-length items_all.same_items,
          length-append (taken_of m.a.table part) (taken_of m.b.table other),
          Permuted-length h.retaking.put.same_items,
          length-append (live_reordered_before m.a.reread (chosen m.a.table part)) (live_reordered_before m.b.reread (chosen m.b.table other)),
          ap (λ n. length (live_reordered_before n (chosen m.a.table part))) read_whole.2,
          ap (λ n. length (live_reordered_before n (chosen m.b.table other))) read_whole.3,
          length-live_reordered_before (IsPart-chosen m.a.table valid read_whole.0),
          length-live_reordered_before (IsPart-chosen m.b.table other_valid read_whole.1),
        );
      }

-- the same item is next
pub IsNext-at : {Item : Type 0} {before : Item → Item → Bool} {i j k l : ℕ} {xs ys : List Item} {x : Item} → i ≡ k → j ≡ l
    → IsNext before i xs j ys x → IsNext before k xs l ys x
IsNext-at {Item} {before} {i} {j} {k} {l} {xs} {ys} {x} same also next =
    subst (λ n. IsNext before n xs l ys x) same (subst (λ n. IsNext before i xs n ys x) also next)
