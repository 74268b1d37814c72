-- For how many items an index waits after an update.
use Rattle.std.proofs.Common.{◌≡◌, ℕ, zero, suc, ◌+◌, ◌-◌, ◌==◌, ◌≤◌, ◌∙◌, ◌||◌, Bool, true, false, if◌then◌else◌, List, [], ◌∷◌, ◌++◌, Option, Some, None, length, drop, refl, sym, ap, subst, arith}
use Rattle.std.specs.Option.{is_some, option_map}
use Rattle.std.proofs.lemmas.Bool.Decides.{nat_tests}
use Rattle.std.proofs.lemmas.Grind.{common_steps}
use Rattle.std.proofs.lemmas.List.{map-append, drop-map}
use Rattle.id_chain.specs.Chain.{Entry, HandlesDiffer, is_linked, before, IsCursor, before_cursor}
use Rattle.id_chain.proofs.Entries.{Apart, Apart-parts, is_linked-append}
use Rattle.id_directory.specs.Directory.{handle_of, IdsDiffer}
use Rattle.map_model.specs.Index.{one_if}
use Rattle.map_model.specs.State.{Item, handed, is_live, wait_after}
use Rattle.layer_kinds.specs.Shares.{Waits, all_after}
use Rattle.layer_kinds.specs.Indexing.{wait_by}
use Rattle.layer_kinds.specs.Layered.{items_of}
use Rattle.layer_kinds.proofs.Items.{live_found, linked_found, as_many_items}

-- ---- all numbers of a list

pub all_after-append : (after : ℕ → ℕ) (first second : Waits) → all_after after (first ++ second) ≡ all_after after first ++ all_after after second
all_after-append after first second = map-append (λ wait. option_map after wait) first second

-- two lists of numbers, one after the other
pub waits_both : (after : ℕ → ℕ) (first first' second second' : Waits) → first' ≡ all_after after first → second' ≡ all_after after second
    → first' ++ second' ≡ all_after after (first ++ second)
waits_both after first first' second second' is is' = ap (λ ws. ws ++ second') is ∙ ap (λ ws. all_after after first ++ ws) is' ∙ sym (all_after-append after first second)

pub all_after-same : (after after' : ℕ → ℕ) → ((w : ℕ) → after w ≡ after' w) → (waits : Waits) → all_after after waits ≡ all_after after' waits
all_after-same after after' same [] = refl
all_after-same after after' same (None ∷ rest) = ap (λ ws. None ∷ ws) (all_after-same after after' same rest)
all_after-same after after' same (Some w ∷ rest) = ap (λ n. Some n ∷ all_after after rest) (same w) ∙ ap (λ ws. Some (after' w) ∷ ws) (all_after-same after after' same rest)

-- ---- the number of one index

-- what is left after the items that are handed over, where these aren't all
abbrev left_after : ℕ → Bool → Bool → ℕ
left_after left comes was = if left == 0 then 0 else (left - one_if was) + one_if comes

some_left : (left : ℕ) (comes was : Bool) → 1 ≤ left → left_after left comes was ≡ (left - one_if was) + one_if comes
some_left left comes was some = grind (arith, nat_tests, some)

pub none_left : {Item : Type 0} (comes : Bool) (handle : ℕ) (es : List (Entry Item)) (w : ℕ) → w - handed ≡ 0 → wait_by comes handle es w ≡ 0
none_left comes handle es w none = ap (λ n. left_after n comes (is_linked handle (drop (length es - (w - handed)) es))) none

module _ {Item : Type 0} where
  pub unlinked_drop : (handle n : ℕ) (es : List (Entry Item)) → is_linked handle es ≡ false → is_linked handle (drop n es) ≡ false
  unlinked_drop handle zero es none = none
  unlinked_drop handle (suc n) [] none = refl
  unlinked_drop handle (suc n) (e ∷ es) none = unlinked_drop handle n es (grind (arith, nat_tests, none))

  -- an item is appended
  pub appended_after : (handle : ℕ) (es : List (Entry Item)) (w : ℕ) → is_linked handle es ≡ false → 1 ≤ w - handed
      → wait_by true handle es w ≡ w - handed + 1
  appended_after handle es w none some =
      ap (left_after (w - handed) true) (unlinked_drop handle (length es - (w - handed)) es none) ∙ some_left (w - handed) true false some ∙ omega arith

  before_drop : (at : ℕ) (es : List (Entry Item)) → es ≡ before at es ++ drop (length (before at es)) es
  before_drop at [] = refl
  before_drop at (e ∷ es) = by (e.handle == at) (before_drop at es)
    where
      by : (b : Bool) → es ≡ before at es ++ drop (length (before at es)) es
          → e ∷ es ≡ (if b then [] else e ∷ before at es) ++ drop (length (if b then [] else e ∷ before at es)) (e ∷ es)
      by true rest = refl
      by false rest = ap (λ all. e ∷ all) rest

  -- an item is among those before a cursor, or among those from there on
  from_cursor : (handle at n : ℕ) (es : List (Entry Item)) → HandlesDiffer es → is_linked handle es ≡ true → length (before at es) ≡ n
      → is_linked handle (drop n es) ≡ (if is_linked handle (before at es) then false else true)
  from_cursor handle at n es differ linked long =
      subst (λ k. is_linked handle (drop k es) ≡ (if is_linked handle (before at es) then false else true)) long
      (by (is_linked handle (before at es)) refl (is_linked handle rest) refl)
    where
      rest : List (Entry Item)
      rest = drop (length (before at es)) es

      apart : Apart (before at es) rest
      apart = Apart-parts (before at es) rest (subst HandlesDiffer (before_drop at es) differ)

      both : (is_linked handle (before at es) || is_linked handle rest) ≡ true
      both = sym (is_linked-append handle (before at es) rest) ∙ ap (is_linked handle) (sym (before_drop at es)) ∙ linked

      by : (b : Bool) → is_linked handle (before at es) ≡ b → (d : Bool) → is_linked handle rest ≡ d
          → is_linked handle rest ≡ (if is_linked handle (before at es) then false else true)
      by true was d is = rw was (apart.front_only handle was)
      by false was true is = rw was is
      by false was false is = absurd (grind (arith, nat_tests, both, was, is))

  -- an item goes, or another one is put in its place
  pub gone_after : (comes : Bool) (handle : ℕ) (es : List (Entry Item)) (cursor : Option ℕ) (w : ℕ) → HandlesDiffer es → IsCursor cursor es
      → is_linked handle es ≡ true → length (before_cursor cursor es) + (w - handed) ≡ length es → 1 ≤ w - handed
      → wait_by comes handle es w ≡ (if is_linked handle (before_cursor cursor es) then w - handed else w - handed - 1) + one_if comes
  gone_after comes handle es None w differ at linked long some = absurd (omega (arith, long, some))
  gone_after comes handle es (Some at) w differ is linked long some =
      some_left (w - handed) comes (is_linked handle (drop (length es - (w - handed)) es)) some
      ∙ ap (λ b. (w - handed - one_if b) + one_if comes)
      (from_cursor handle at (length es - (w - handed)) es differ linked (omega (arith, long)))
      ∙ by (is_linked handle (before at es))
    where
      by : (b : Bool) → (w - handed - one_if (if b then false else true)) + one_if comes ≡ (if b then w - handed else w - handed - 1) + one_if comes
      by true = omega arith
      by false = omega arith

-- ---- the same by identifiers

pub none_found : (found : Option ℕ) → is_some found ≡ false → found ≡ None
none_found None none = refl
none_found (Some handle) none = absurd cc

module _ {I : Type 0} (id_of : I → ℕ) (item_of : I → Item) (same : (x : I) → (item_of x).id ≡ id_of x) where
  wait_same : (comes : Bool) (handle id : ℕ) (es : List (Entry I))
      → ((n : ℕ) → is_linked handle (drop n es) ≡ is_live id (items_of item_of (drop n es)))
      → (w : ℕ) → wait_by comes handle es w ≡ wait_after comes id (items_of item_of es) w
  wait_same comes handle id es alike w =
      ap (left_after (w - handed) comes) (
      alike (length es - (w - handed))
      ∙ ap (is_live id) (sym (drop-map (λ e. item_of e.item) (length es - (w - handed)) es))
      ∙ ap (λ n. is_live id (drop (n - (w - handed)) (items_of item_of es))) (sym (as_many_items item_of es))
      )

  dead_drop : (id n : ℕ) (es : List (Entry I)) → handle_of id_of id es ≡ None → is_live id (items_of item_of (drop n es)) ≡ false
  dead_drop id zero es none = live_found id_of item_of same id es ∙ ap is_some none
  dead_drop id (suc n) [] none = refl
  dead_drop id (suc n) (e ∷ es) none = dead_drop id n es (grind (arith, nat_tests, common_steps, none))

  found_drop : (id handle n : ℕ) (es : List (Entry I)) → HandlesDiffer es → IdsDiffer id_of es → handle_of id_of id es ≡ Some handle
      → is_linked handle (drop n es) ≡ is_live id (items_of item_of (drop n es))
  found_drop id handle zero es differ ids found = linked_found id_of id handle es found ∙ sym (live_found id_of item_of same id es ∙ ap is_some found)
  found_drop id handle (suc n) [] differ ids found = refl
  found_drop id handle (suc n) (e ∷ es) differ ids found = by (id_of e.item == id) refl (found_drop id handle n es differ.1 ids.1)
    where
      by : (b : Bool) → (id_of e.item == id) ≡ b
          → (handle_of id_of id es ≡ Some handle → is_linked handle (drop n es) ≡ is_live id (items_of item_of (drop n es)))
          → is_linked handle (drop n es) ≡ is_live id (items_of item_of (drop n es))
      by true is rest =
          let here : e.handle ≡ handle = grind (arith, nat_tests, common_steps, is, found) in
          let none : is_linked handle es ≡ false = subst (λ k. is_linked k es ≡ false) here differ.0 in
          let dead : handle_of id_of id es ≡ None = grind (arith, nat_tests, common_steps, is, ids.0) in
          unlinked_drop handle n es none ∙ sym (dead_drop id n es dead)
      by false is rest = rest (grind (arith, nat_tests, common_steps, is, found))

  -- an item that is found goes, or another one is put in its place
  pub waits_gone : (comes : Bool) (id handle : ℕ) (es : List (Entry I)) → HandlesDiffer es → IdsDiffer id_of es → handle_of id_of id es ≡ Some handle
      → (waits : Waits) → all_after (wait_by comes handle es) waits ≡ all_after (wait_after comes id (items_of item_of es)) waits
  waits_gone comes id handle es differ ids found waits =
      all_after-same (wait_by comes handle es) (wait_after comes id (items_of item_of es))
      (wait_same comes handle id es (λ n. found_drop id handle n es differ ids found)) waits

  -- an item comes whose identifier isn't found, under a handle that isn't linked
  pub waits_come : (id handle : ℕ) (es : List (Entry I)) → is_linked handle es ≡ false → handle_of id_of id es ≡ None
      → (waits : Waits) → all_after (wait_by true handle es) waits ≡ all_after (wait_after true id (items_of item_of es)) waits
  waits_come id handle es none dead waits =
      all_after-same (wait_by true handle es) (wait_after true id (items_of item_of es))
      (wait_same true handle id es (λ n. unlinked_drop handle n es none ∙ sym (dead_drop id n es dead))) waits
