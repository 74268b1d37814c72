-- A construction keeps up with its sources: over a note, over what is read, and over a mark; and what it then publishes.
use Rattle.std.proofs.Common.{◌≡◌, ◌≢◌, ℕ, ◌^◌, ◌<◌, ◌≤◌, ◌==◌, ◌&&◌, ◌||◌, Bool, true, false, not, Option, Some, None, List, [], ◌∷◌, ◌++◌, length, map, get_or, refl, sym, ap, ◌∙◌, arith, subst, slice_get, All, filter, ⊎_elim, inl, inr, ◌⊎◌, take}
use Rattle.std.specs.List.{items_where_true}
use Rattle.std.specs.Option.{is_some, option_map}
use Rattle.std.proofs.lemmas.Bool.{cases_lt}
use Rattle.std.proofs.lemmas.Bool.Decides.{nat_tests}
use Rattle.std.proofs.lemmas.Option.{slice_get_within, slice_get-get_or, slice_get-map, get_or_from_slice_get, same_Some}
use Rattle.std.proofs.lemmas.List.{take_all, length-map}
use Rattle.std.proofs.lemmas.List.Elements.{All-append, All-push, All-pop, All-take, All-weaker, filter-append}
use Rattle.std.proofs.lemmas.List.Folds.{list_any_none}
use Rattle.query_laws.specs.Orders.{IsStrictTotalOrder}
use Rattle.query_laws.specs.Permuted.{Permuted, composed}
use Rattle.query_laws.proofs.Permutations.{Permuted-sym, Permuted-filter, Permuted-append, Permuted-append_left}
use Rattle.query_laws.specs.declared.item.Order.{Order}
use Rattle.query_laws.specs.declared.item.Order.TheVariants.{First}
use Rattle.builder_trait.specs.Builders.{PartProfile}
use Rattle.builder_trait.specs.Parts.{Contents, IsPart, OwnsStamp, has_stamp, without, marked, live_of}
use Rattle.builder_trait.proofs.Kept.{All-kept}
use Rattle.builder_trait.proofs.FlatLemmas.{items-all_true}
use Rattle.builder_trait.proofs.Marking.{StandsOnlyAt-rising, has_stamp_at}
use Rattle.ordered_merge.specs.Merging.{Merging, Merges, HasRead, taken_among}
use Rattle.ordered_merge.proofs.Fronts.{All-permuted}
use Rattle.ordered_merge.proofs.MergingLemmas.{Merges-swap, Merges-marked, HasRead-swap, swapped, read_whole, taken_le}
use Rattle.partial_build.specs.NewPart.{put_of, IsAllLive}
use Rattle.partial_build.specs.Construction.{Construction, Builds, KeepsUp, IsUpToDate, IsTakenOf, IsPublished, stays, is_taken, skipped_of}
use Rattle.partial_build.proofs.Stamps.{AllPairs-front, AllStampsDiffer-push, AllStampsDiffer-last, same_place, has_stamp-at, has_stamp-push, has_stamp-without, slice_get-fallen, length-fallen, filter-flags, filter-taken, Permuted-skipped, Permuted-crossed}

noted_bit : (t h w e : Bool) → ((t && (h && not w)) && not e) ≡ (t && (h && not (w || e)))
noted_bit false h w e = refl
noted_bit true false w e = refl
noted_bit true true true e = refl
noted_bit true true false e = refl

marked_bit : (h w e : Bool) → (h && not (w || e)) ≡ ((h && not e) && not w)
marked_bit false w e = refl
marked_bit true true true = refl
marked_bit true true false = refl
marked_bit true false true = refl
marked_bit true false false = refl

both_true : (a b c : Bool) → true ≡ (a && (b && not c)) → (a ≡ true) × (b ≡ true) × (c ≡ false)
both_true true true false e = (refl, refl, refl)
both_true true true true e = absurd cc
both_true true false c e = absurd cc
both_true false b c e = absurd cc

and_true : (b : Bool) → (b && true) ≡ b
and_true true = refl
and_true false = refl

or_false : (b : Bool) → (b || false) ≡ b
or_false true = refl
or_false false = refl

test_other : (a b : ℕ) → a ≢ b → (a == b) ≡ false
test_other a b e = grind (arith, nat_tests)

test_swap : (a b : ℕ) → (a == b) ≡ (b == a)
test_swap a b = grind (arith, nat_tests)

pub live_of-fresh : {Item : Type 0} (part : Contents Item) → IsAllLive part → live_of part ≡ part.items
live_of-fresh part fresh = ap (λ l. items_where_true l part.items) fresh ∙ items-all_true part.items

module _ {A : Type 0} (P : A → Type 0) (xs : List A) (x : A) (h : All P (xs ++ x ∷ [])) where
  pub All-front : All P xs
  All-front = (All-pop P (xs ++ x ∷ []) xs (Some x) refl h).0

  pub All-last : P x
  All-last = (All-pop P (xs ++ x ∷ []) xs (Some x) refl h).1

-- an item that dies leaves a part
pub IsPart-marked : {Item : Type 0} (stamp : Item → ℕ) {before : Order → Item → Item → Bool} {part : Contents Item} (dead : ℕ) → IsPart before part
    → IsPart before (marked stamp dead part)
IsPart-marked stamp {part = part} dead valid = record {
  rising = valid.rising;
  rising_reordered = valid.rising_reordered;
  flagged = length-fallen stamp dead part.items part.flags valid.flagged;
  placed = valid.placed;
  each_place = valid.each_place;
  same_items = valid.same_items;
}

-- once all is read
taken_all : {Item : Type 0} (table : List (Option ℕ)) (xs : List Item) → length table ≡ length xs
    → taken_among table xs ≡ items_where_true (map is_some table) xs
taken_all table xs full =
    ap (λ l. items_where_true l (take (length table) xs)) (take_all (length table) (map is_some table) (omega (arith, length-map table is_some)))
    ∙ ap (items_where_true (map is_some table)) (take_all (length table) xs (omega arith))

-- what the table took is among the items
taken_there : {Item : Type 0} {profile : PartProfile Item} {m : Merging Item} {part a b : Contents Item}
    → Merges profile m a b (put_of part) → IsAllLive part
    → (l : ℕ) (y : Item) → l < length m.a.table → slice_get a.items l ≡ Some y → is_taken m.a.table l ≡ true
    → has_stamp profile.stamp (profile.stamp y) (live_of part) ≡ true
taken_there {profile = profile} {m = m} {part = part} {a = a} merges fresh l y below at taken =
    ap (has_stamp profile.stamp (profile.stamp y)) (live_of-fresh part fresh) ∙ by (get_or m.a.table l None) refl
  where
    by : (e : Option ℕ) → get_or m.a.table l None ≡ e → has_stamp profile.stamp (profile.stamp y) part.items ≡ true
    by None is = let off : is_taken m.a.table l ≡ false = ap is_some is in absurd cc
    by (Some n) is =
        has_stamp-at profile.stamp part.items n y (merges.taking.new_places l n (slice_get-get_or m.a.table l None below ∙ ap Some is) ∙ at)

module _ {Item : Type 0} {profile : PartProfile Item} where
  module _ {m : Merging Item} {part : Contents Item} {waiting : List Item} {a b : Contents Item} (h : KeepsUp profile m part waiting a b) where
    -- the sources in the other order
    pub KeepsUp-swap : KeepsUp profile (swapped m) part waiting b a
    KeepsUp-swap = record {
      merges = Merges-swap h.merges;
      valid = h.other_valid;
      other_valid = h.valid;
      apart = h.other_apart;
      other_apart = h.apart;
      up_to_date = h.other_up_to_date;
      other_up_to_date = h.up_to_date;
      waits = record {
        taken = All-weaker (λ x. IsTakenOf m.a.table a.items x ⊎ IsTakenOf m.b.table b.items x)
            (λ x. IsTakenOf m.b.table b.items x ⊎ IsTakenOf m.a.table a.items x) (λ x. ⊎_elim inr inl) waiting h.waits.taken;
        differ = h.waits.differ;
        live = h.waits.live;
      };
    }

    module _ (k : ℕ) (x : Item) (at : slice_get a.items k ≡ Some x) where
      -- at other places stand other stamps
      other_here : (l : ℕ) (y : Item) → slice_get a.items l ≡ Some y → l ≢ k → (profile.stamp y == profile.stamp x) ≡ false
      other_here l y at_y elsewhere =
          test_other (profile.stamp y) (profile.stamp x) (λ same. elsewhere (same_place profile.stamp a.items h.apart l k y x at_y at same))

      other_there : (l : ℕ) (y : Item) → slice_get b.items l ≡ Some y → (profile.stamp y == profile.stamp x) ≡ false
      other_there l y at_y = test_other (profile.stamp y) (profile.stamp x) (λ same. h.merges.sources.stamps_differ k l x y at at_y (sym same))

      waits_too : (y : Item) → stays profile.stamp part (waiting ++ x ∷ []) (profile.stamp y)
          ≡ (has_stamp profile.stamp (profile.stamp y) (live_of part) && not (has_stamp profile.stamp (profile.stamp y) waiting || (profile.stamp y == profile.stamp x)))
      waits_too y =
          ap (λ w. has_stamp profile.stamp (profile.stamp y) (live_of part) && not w)
          (has_stamp-push profile.stamp (profile.stamp y) waiting x ∙ ap (λ e. has_stamp profile.stamp (profile.stamp y) waiting || e) (test_swap (profile.stamp x) (profile.stamp y)))

      -- an item that was read dies in a, and waits
      pub KeepsUp-noted : k < length m.a.table → slice_get a.flags k ≡ Some true
          → KeepsUp profile m part (waiting ++ x ∷ []) (marked profile.stamp (profile.stamp x) a) b
      KeepsUp-noted read alive = record {
        merges = Merges-marked h.merges (profile.stamp x);
        valid = IsPart-marked profile.stamp (profile.stamp x) h.valid;
        other_valid = h.other_valid;
        apart = h.apart;
        other_apart = h.other_apart;
        up_to_date = λ l y below at_y.
            let s = profile.stamp y in
            slice_get-fallen profile.stamp (profile.stamp x) a.items a.flags l y (is_taken m.a.table l && stays profile.stamp part waiting s) at_y (h.up_to_date l y below at_y)
            ∙ ap Some (noted_bit (is_taken m.a.table l) (has_stamp profile.stamp s (live_of part)) (has_stamp profile.stamp s waiting) (s == profile.stamp x)
            ∙ ap (λ v. is_taken m.a.table l && v) (sym (waits_too y)));
        other_up_to_date = λ l y below at_y.
            let s = profile.stamp y in
            h.other_up_to_date l y below at_y
            ∙ ap (λ v. Some (is_taken m.b.table l && v))
            (ap (λ w. has_stamp profile.stamp s (live_of part) && not w)
            (sym (ap (λ e. has_stamp profile.stamp s waiting || e) (other_there l y at_y) ∙ or_false (has_stamp profile.stamp s waiting)))
            ∙ sym (waits_too y));
        waits =
            let s = profile.stamp x in
            let was : (is_taken m.a.table k ≡ true) × (has_stamp profile.stamp s (live_of part) ≡ true) × (has_stamp profile.stamp s waiting ≡ false) =
            both_true (is_taken m.a.table k) (has_stamp profile.stamp s (live_of part)) (has_stamp profile.stamp s waiting)
            (same_Some true (is_taken m.a.table k && stays profile.stamp part waiting s) (sym alive ∙ h.up_to_date k x read at)) in
            record {
              taken = All-push (λ y. IsTakenOf m.a.table a.items y ⊎ IsTakenOf m.b.table b.items y) waiting x h.waits.taken (inl (k, read, at, was.0));
              differ = AllStampsDiffer-push profile.stamp waiting x h.waits.differ was.2;
              live = All-push (λ y. has_stamp profile.stamp (profile.stamp y) (live_of part) ≡ true) waiting x h.waits.live was.1;
            };
      }

      -- an item that wasn't read dies in a
      pub KeepsUp-unread : length m.a.table ≤ k → KeepsUp profile m part waiting (marked profile.stamp (profile.stamp x) a) b
      KeepsUp-unread later = record {
        merges = Merges-marked h.merges (profile.stamp x);
        valid = IsPart-marked profile.stamp (profile.stamp x) h.valid;
        other_valid = h.other_valid;
        apart = h.apart;
        other_apart = h.other_apart;
        up_to_date = λ l y below at_y.
            let flag = is_taken m.a.table l && stays profile.stamp part waiting (profile.stamp y) in
            slice_get-fallen profile.stamp (profile.stamp x) a.items a.flags l y flag at_y (h.up_to_date l y below at_y)
            ∙ ap (λ e. Some (flag && not e)) (other_here l y at_y (λ same. absurd (omega arith)))
            ∙ ap Some (and_true flag);
        other_up_to_date = h.other_up_to_date;
        waits = record { taken = h.waits.taken; differ = h.waits.differ; live = h.waits.live };
      }

      -- an item of a has its stamp alone in the new part
      pub OwnsStamp-source : OwnsStamp profile.stamp x part.items
      OwnsStamp-source =
          let Owned : Item → Type 0 = λ y. profile.stamp y ≡ profile.stamp x → y ≡ x in
          let owned : All Owned a.items = λ l d within same.
          let y = get_or a.items l d in
          let at_y : slice_get a.items l ≡ Some y = slice_get-get_or a.items l d within in
          let place : l ≡ k = same_place profile.stamp a.items h.apart l k y x at_y at same in
          same_Some y x (sym at_y ∙ ap (slice_get a.items) place ∙ at) in
          let owned_other : All Owned b.items = λ l d within same.
          absurd (h.merges.sources.stamps_differ k l x (get_or b.items l d) at (slice_get-get_or b.items l d within) (sym same)) in
          All-permuted Owned (Permuted-sym h.merges.taking.put.same_items)
          (All-append Owned _ _
          (All-kept Owned (take (length m.a.table) (map is_some m.a.table)) (take (length m.a.table) a.items) (All-take Owned (length m.a.table) a.items owned))
          (All-kept Owned (take (length m.b.table) (map is_some m.b.table)) (take (length m.b.table) b.items) (All-take Owned (length m.b.table) b.items owned_other)))

  module _ {m : Merging Item} {part : Contents Item} {waiting : List Item} {a b : Contents Item} (h : KeepsUp profile m part waiting a b) where
    pub OwnsStamp-taken : (x : Item) → IsTakenOf m.a.table a.items x ⊎ IsTakenOf m.b.table b.items x → OwnsStamp profile.stamp x part.items
    OwnsStamp-taken x = ⊎_elim (λ read. OwnsStamp-source h read.0 x read.2) (λ read. OwnsStamp-source (KeepsUp-swap h) read.0 x read.2)

    -- what waits has another stamp than what wasn't read yet
    none_waits : (l : ℕ) (y : Item) → length m.a.table ≤ l → slice_get a.items l ≡ Some y → has_stamp profile.stamp (profile.stamp y) waiting ≡ false
    none_waits l y later at =
        list_any_none (λ x. profile.stamp x == profile.stamp y) waiting
        (All-weaker (λ x. IsTakenOf m.a.table a.items x ⊎ IsTakenOf m.b.table b.items x) (λ x. (profile.stamp x == profile.stamp y) ≡ false)
        (λ x. ⊎_elim
        (λ read. test_other (profile.stamp x) (profile.stamp y) (λ same.
        let place : read.0 ≡ l = same_place profile.stamp a.items h.apart read.0 l x y read.2 at same in
        let earlier : read.0 < length m.a.table = read.1 in absurd (omega arith)))
        (λ read. test_other (profile.stamp x) (profile.stamp y) (λ same. h.merges.sources.stamps_differ l read.0 y x at read.2 (sym same))))
        waiting h.waits.taken)

  module _ {m new : Merging Item} {part fresh : Contents Item} {waiting : List Item} {a b : Contents Item} {n : ℕ}
      (h : KeepsUp profile m part waiting a b) (merges : Merges profile new a b (put_of fresh))
      (read : HasRead n m new a b (put_of part) (put_of fresh)) (live : IsAllLive part) (still_live : IsAllLive fresh) where
    -- what was taken of a before is taken still
    still_taken : (l : ℕ) → l < length m.a.table → is_taken m.a.table l ≡ is_taken new.a.table l
    still_taken l below =
        ap is_some (same_Some (get_or m.a.table l None) (get_or new.a.table l None)
        (sym (slice_get-get_or m.a.table l None below) ∙ sym (read.taken.kept l below)
        ∙ slice_get-get_or new.a.table l None (omega (arith, read.taken.longer))))

    IsTakenOf-read : (x : Item) → IsTakenOf m.a.table a.items x → IsTakenOf new.a.table a.items x
    IsTakenOf-read x r = (r.0, omega (arith, r.1, read.taken.longer), r.2, sym (still_taken r.0 r.1) ∙ r.3)

    -- what was read of a before
    read_before : (l : ℕ) (y : Item) → l < length m.a.table → slice_get a.items l ≡ Some y
        → slice_get a.flags l ≡ Some (is_taken new.a.table l && stays profile.stamp fresh waiting (profile.stamp y))
    read_before l y below at = h.up_to_date l y below at ∙ ap Some (by (is_taken m.a.table l) refl (still_taken l below))
      where
        w : Bool
        w = has_stamp profile.stamp (profile.stamp y) waiting

        by : (t : Bool) → is_taken m.a.table l ≡ t → is_taken m.a.table l ≡ is_taken new.a.table l
            → (is_taken m.a.table l && stays profile.stamp part waiting (profile.stamp y)) ≡ (is_taken new.a.table l && stays profile.stamp fresh waiting (profile.stamp y))
        by false is same =
            ap (λ t. t && stays profile.stamp part waiting (profile.stamp y)) is ∙ sym (ap (λ t. t && stays profile.stamp fresh waiting (profile.stamp y)) (sym same ∙ is))
        by true is same =
            ap (λ t. t && stays profile.stamp part waiting (profile.stamp y)) is
            ∙ ap (λ v. v && not w) (taken_there h.merges live l y below at is
            ∙ sym (taken_there merges still_live l y (omega (arith, read.taken.longer)) at (sym same ∙ is)))
            ∙ sym (ap (λ t. t && stays profile.stamp fresh waiting (profile.stamp y)) (sym same ∙ is))

    -- what is read of it now
    read_now : (l : ℕ) (y : Item) → length m.a.table ≤ l → l < length new.a.table → slice_get a.items l ≡ Some y
        → slice_get a.flags l ≡ Some (is_taken new.a.table l && stays profile.stamp fresh waiting (profile.stamp y))
    read_now l y later below at =
        sym (read.taken.taken l later below) ∙ slice_get-map is_some new.a.table l
        ∙ ap (λ e. option_map is_some e) (slice_get-get_or new.a.table l None below)
        ∙ ap Some (by (is_taken new.a.table l) refl)
      where
        by : (t : Bool) → is_taken new.a.table l ≡ t → is_taken new.a.table l ≡ (is_taken new.a.table l && stays profile.stamp fresh waiting (profile.stamp y))
        by false is = is ∙ sym (ap (λ t. t && stays profile.stamp fresh waiting (profile.stamp y)) is)
        by true is =
            is ∙ sym (ap (λ t. t && stays profile.stamp fresh waiting (profile.stamp y)) is
            ∙ ap (λ v. v && not (has_stamp profile.stamp (profile.stamp y) waiting)) (taken_there merges still_live l y below at is)
            ∙ ap not (none_waits h l y later at))

    pub IsUpToDate-read : IsUpToDate profile.stamp fresh waiting new.a.table a
    IsUpToDate-read l y below at = ⊎_elim (λ less. read_before l y less at) (λ later. read_now l y later below at) (cases_lt l (length m.a.table))

  -- items are read
  pub KeepsUp-read : {m new : Merging Item} {part fresh : Contents Item} {waiting : List Item} {a b : Contents Item} {n : ℕ}
      → KeepsUp profile m part waiting a b → Merges profile new a b (put_of fresh) → HasRead n m new a b (put_of part) (put_of fresh)
      → IsAllLive part → IsAllLive fresh → KeepsUp profile new fresh waiting a b
  KeepsUp-read {m} {new} {part} {fresh} {waiting} {a} {b} h merges read live still_live = record {
    merges = merges;
    valid = h.valid;
    other_valid = h.other_valid;
    apart = h.apart;
    other_apart = h.other_apart;
    up_to_date = IsUpToDate-read h merges read live still_live;
    other_up_to_date = IsUpToDate-read (KeepsUp-swap h) (Merges-swap merges) (HasRead-swap read) live still_live;
    waits =
        let now : All (λ x. IsTakenOf new.a.table a.items x ⊎ IsTakenOf new.b.table b.items x) waiting =
        All-weaker (λ x. IsTakenOf m.a.table a.items x ⊎ IsTakenOf m.b.table b.items x)
        (λ x. IsTakenOf new.a.table a.items x ⊎ IsTakenOf new.b.table b.items x)
        (λ x. ⊎_elim
        (λ r. inl (IsTakenOf-read h merges read live still_live x r))
        (λ r. inr (IsTakenOf-read (KeepsUp-swap h) (Merges-swap merges) (HasRead-swap read) live still_live x r)))
        waiting h.waits.taken in
        record {
          taken = now;
          differ = h.waits.differ;
          live = All-weaker (λ x. IsTakenOf new.a.table a.items x ⊎ IsTakenOf new.b.table b.items x)
              (λ x. has_stamp profile.stamp (profile.stamp x) (live_of fresh) ≡ true)
              (λ x. ⊎_elim
              (λ r. taken_there merges still_live r.0 x r.1 r.2 r.3)
              (λ r. taken_there (Merges-swap merges) still_live r.0 x r.1 r.2 r.3))
              waiting now;
        };
  }

  -- an item that waits is marked in the new part
  module _ {m : Merging Item} {part : Contents Item} (waiting : List Item) (x : Item) {a b : Contents Item}
      (h : KeepsUp profile m part (waiting ++ x ∷ []) a b) where
    IsUpToDate-marked : (table : List (Option ℕ)) (source : Contents Item) → IsUpToDate profile.stamp part (waiting ++ x ∷ []) table source
        → live_of (marked profile.stamp (profile.stamp x) part) ≡ without profile.stamp (profile.stamp x) (live_of part)
        → IsUpToDate profile.stamp (marked profile.stamp (profile.stamp x) part) waiting table source
    IsUpToDate-marked table source up live l y below at =
        up l y below at
        ∙ ap (λ v. Some (is_taken table l && v))
        (ap (λ w. has_stamp profile.stamp (profile.stamp y) (live_of part) && not w)
        (has_stamp-push profile.stamp (profile.stamp y) waiting x ∙ ap (λ e. has_stamp profile.stamp (profile.stamp y) waiting || e) (test_swap (profile.stamp x) (profile.stamp y)))
        ∙ marked_bit (has_stamp profile.stamp (profile.stamp y) (live_of part)) (has_stamp profile.stamp (profile.stamp y) waiting) (profile.stamp y == profile.stamp x)
        ∙ ap (λ v. v && not (has_stamp profile.stamp (profile.stamp y) waiting))
        (sym (has_stamp-without profile.stamp (profile.stamp y) (profile.stamp x) (live_of part)) ∙ sym (ap (has_stamp profile.stamp (profile.stamp y)) live)))

    pub KeepsUp-marked : live_of (marked profile.stamp (profile.stamp x) part) ≡ without profile.stamp (profile.stamp x) (live_of part)
        → KeepsUp profile m (marked profile.stamp (profile.stamp x) part) waiting a b
    KeepsUp-marked live = record {
      merges = h.merges;
      valid = h.valid;
      other_valid = h.other_valid;
      apart = h.apart;
      other_apart = h.other_apart;
      up_to_date = IsUpToDate-marked m.a.table a h.up_to_date live;
      other_up_to_date = IsUpToDate-marked m.b.table b h.other_up_to_date live;
      waits = record {
        taken = All-front (λ y. IsTakenOf m.a.table a.items y ⊎ IsTakenOf m.b.table b.items y) waiting x h.waits.taken;
        differ = AllPairs-front (λ y z. profile.stamp y ≢ profile.stamp z) waiting (x ∷ []) h.waits.differ;
        live = λ l d within.
            let y = get_or waiting l d in
            let was = All-front (λ z. has_stamp profile.stamp (profile.stamp z) (live_of part) ≡ true) waiting x h.waits.live l d within in
            let other : (profile.stamp y == profile.stamp x) ≡ false =
            test_other (profile.stamp y) (profile.stamp x) (AllStampsDiffer-last profile.stamp waiting x h.waits.differ l d within) in
            ap (has_stamp profile.stamp (profile.stamp y)) live ∙ has_stamp-without profile.stamp (profile.stamp y) (profile.stamp x) (live_of part)
            ∙ ap (λ b. b && not (profile.stamp y == profile.stamp x)) was ∙ ap not other;
      };
    }

    -- and is the only one with its stamp there
    pub OwnsStamp-waiting : OwnsStamp profile.stamp x part.items
    OwnsStamp-waiting = OwnsStamp-taken h x (All-last (λ y. IsTakenOf m.a.table a.items y ⊎ IsTakenOf m.b.table b.items y) waiting x h.waits.taken)

  -- the new part has at most as many items as there is room for
  pub few_items : {m : Merging Item} {part : Contents Item} {waiting : List Item} {a b : Contents Item} {n : ℕ} → KeepsUp profile m part waiting a b
      → part.at_level ≡ n → length part.items ≤ 2 ^ n
  few_items {part = part} h level =
      subst (λ n. length part.items ≤ 2 ^ n) level
      (omega (arith, h.merges.taking.counted, taken_le h.merges, h.merges.sources.room, h.merges.taking.front.within, h.merges.taking.front.within_other))

  -- all is read, nothing waits, and the part is what it is
  module _ (c : Construction Item) (a b : Contents Item) (order : IsStrictTotalOrder profile.stamp (profile.before First)) (h : Builds profile c a b)
      (none : c.waiting ≡ []) (ended : c.merge.left ≡ 0) (flagged : length c.part.contents.flags ≡ length c.part.contents.items)
      (at_level : c.part.contents.at_level ≡ c.level) where
    -- whether an item lives in the new part
    abbrev lives : Item → Bool
    lives x = has_stamp profile.stamp (profile.stamp x) (live_of c.part.contents)

    stays_lives : (x : Item) → stays profile.stamp c.part.contents c.waiting (profile.stamp x) ≡ lives x
    stays_lives x = ap (λ l. lives x && not (has_stamp profile.stamp (profile.stamp x) l)) none ∙ and_true (lives x)

    live_of-source : (table : List (Option ℕ)) (source : Contents Item) → length table ≡ length source.items
        → IsUpToDate profile.stamp c.part.contents c.waiting table source
        → live_of source ≡ filter lives (items_where_true (map is_some table) source.items)
    live_of-source table source full up =
        filter-taken lives table source.flags source.items full
        (λ k x below at. up k x below at ∙ ap (λ v. Some (is_taken table k && v)) (stays_lives x))

    same_items : Permuted c.part.contents.items (items_where_true (map is_some c.merge.a.table) a.items ++ items_where_true (map is_some c.merge.b.table) b.items)
    same_items =
        subst (λ l. Permuted c.part.contents.items (l ++ items_where_true (map is_some c.merge.b.table) b.items))
        (taken_all c.merge.a.table a.items (read_whole h.merges h.valid h.other_valid ended).0)
        (subst (λ l. Permuted c.part.contents.items (taken_among c.merge.a.table a.items ++ l))
        (taken_all c.merge.b.table b.items (read_whole h.merges h.valid h.other_valid ended).1)
        h.merges.taking.put.same_items)

    -- each item has its stamp alone, so that its flag says whether it lives
    owned : All (λ x. OwnsStamp profile.stamp x c.part.contents.items) c.part.contents.items
    owned =
        let Owned : Item → Type 0 = λ x. OwnsStamp profile.stamp x c.part.contents.items in
        let of_a : All Owned a.items = λ k d within. OwnsStamp-source h k (get_or a.items k d) (slice_get-get_or a.items k d within) in
        let of_b : All Owned b.items = λ k d within. OwnsStamp-source (KeepsUp-swap h) k (get_or b.items k d) (slice_get-get_or b.items k d within) in
        All-permuted Owned (Permuted-sym same_items)
        (All-append Owned _ _ (All-kept Owned (map is_some c.merge.a.table) a.items of_a) (All-kept Owned (map is_some c.merge.b.table) b.items of_b))

    flag_lives : (k : ℕ) (x : Item) → slice_get c.part.contents.items k ≡ Some x → slice_get c.part.contents.flags k ≡ Some (lives x)
    flag_lives k x at =
        let items = c.part.contents.items in
        let flags = c.part.contents.flags in
        let within : k < length items = slice_get_within items k x at in
        let owns : OwnsStamp profile.stamp x items =
        subst (λ y. OwnsStamp profile.stamp y items) (get_or_from_slice_get items k x x at) (owned k x within) in
        let only = StandsOnlyAt-rising order items k x h.merges.taking.put.rising owns at in
        let here : slice_get flags k ≡ Some (get_or flags k false) = slice_get-get_or flags k false (omega (arith, flagged)) in
        here ∙ sym (ap Some (has_stamp_at profile.stamp (profile.stamp x) items flags k (get_or flags k false) here only))

    pub IsPublished-ended : IsPublished c a b c.part.contents
    IsPublished-ended = record {
      live = subst (λ l. Permuted l (live_of a ++ live_of b)) (sym (filter-flags lives c.part.contents.flags c.part.contents.items flagged flag_lives))
          (subst (λ l. Permuted (filter lives c.part.contents.items) l)
          (filter-append lives (items_where_true (map is_some c.merge.a.table) a.items) (items_where_true (map is_some c.merge.b.table) b.items)
          ∙ ap (λ l. l ++ filter lives (items_where_true (map is_some c.merge.b.table) b.items))
          (sym (live_of-source c.merge.a.table a (read_whole h.merges h.valid h.other_valid ended).0 h.up_to_date))
          ∙ ap (λ l. live_of a ++ l) (sym (live_of-source c.merge.b.table b (read_whole h.merges h.valid h.other_valid ended).1 h.other_up_to_date)))
          (Permuted-filter lives same_items));
      items = composed
          (Permuted-append_left (skipped_of c.merge.a.table a.items ++ skipped_of c.merge.b.table b.items) same_items)
          (composed
          (Permuted-crossed (items_where_true (map is_some c.merge.a.table) a.items) (items_where_true (map is_some c.merge.b.table) b.items)
          (skipped_of c.merge.a.table a.items) (skipped_of c.merge.b.table b.items))
          (Permuted-append (Permuted-skipped c.merge.a.table a.items (read_whole h.merges h.valid h.other_valid ended).0)
          (Permuted-skipped c.merge.b.table b.items (read_whole h.merges h.valid h.other_valid ended).1)));
      few = few_items h at_level;
      level = at_level;
    }

  -- what contracts see of a construction, and as its fields are
  module _ {c seen : Construction Item} (is : c ≡ seen) {a b : Contents Item} where
    pub Builds-of : Builds profile seen a b → Builds profile c a b
    Builds-of h = subst (λ v. Builds profile v a b) (sym is) h

    pub Builds-seen : Builds profile c a b → Builds profile seen a b
    Builds-seen h = subst (λ v. Builds profile v a b) is h

pub IsPublished-seen : {Item : Type 0} {c seen : Construction Item} {a b part fresh : Contents Item} → c ≡ seen → fresh ≡ part → IsPublished c a b part
    → IsPublished seen a b fresh
IsPublished-seen {c = c} {a = a} {b = b} {fresh = fresh} is same h =
    subst (λ v. IsPublished v a b fresh) is (subst (λ p. IsPublished c a b p) (sym same) h)
