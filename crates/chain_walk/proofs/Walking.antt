-- The walk along a chain, an item after another.
use Rattle.std.proofs.Common.{◌≡◌, ℕ, ◌+◌, ◌<◌, ◌≤◌, ◌∙◌, true, List, [], ◌∷◌, ◌++◌, Option, Some, None, All, map, sym, ap, subst, arith}
use Rattle.std.specs.Option.{option_map_or}
use Rattle.std.proofs.lemmas.Bool.Decides.{nat_tests}
use Rattle.id_chain.specs.Chain.{Entry, is_linked, item_at, before, IsCursor, before_cursor}
use Rattle.id_chain.specs.StampsRise.{StampsRise}
use Rattle.id_chain.proofs.Entries.{is_linked-append, item_at-linked}
use Rattle.id_chain.proofs.Stamps.{is_before-by_stamp}
use Rattle.std.proofs.lemmas.Grind.{common_steps}
use Rattle.std.proofs.lemmas.List.{map-append}
use Rattle.std.proofs.lemmas.List.Elements.{All-cons}
use Rattle.std.proofs.lemmas.List.Sorted.{All-permutation}
use Rattle.query_laws.specs.Permuted.{Permuted, same_head, composed}
use Rattle.query_laws.proofs.Permutations.{IsPermutation-from_Permuted, Permuted-append_comm, Permuted-sym}
use Rattle.builder_trait.specs.Parts.{Contents}
use Rattle.log_levels.specs.Slots.{IsPartOf}
use Rattle.log_levels.specs.Levels.{live_items, all_items}
use Rattle.log_levels.proofs.Marks.{All-first}
use Rattle.chain_walk.specs.Walk.{Walked, IsWalkOf, stamp_at}

abbrev pub item_of : {Item : Type 0} → Entry Item → Item
item_of e = e.item

-- what holds of all items holds of a part of them
pub All-part : {Item : Type 0} (Q : Item → Type 0) (xs ys : List Item) → IsPartOf xs ys → All Q ys → All Q xs
All-part Q xs ys part each =
    All-first Q xs part.0 (All-permutation Q ys (xs ++ part.0) (IsPermutation-from_Permuted (Permuted-sym part.1)) each)

-- an item more, that of the entry that comes next
pub Permuted-appended : {Item : Type 0} (front : List (Entry Item)) (e : Entry Item) {live live' : List Item} → Permuted live' (e.item ∷ live)
    → Permuted live (map item_of front) → Permuted live' (map item_of (front ++ e ∷ []))
Permuted-appended front e {live} {live'} more same =
    subst (Permuted live') (sym (map-append item_of front (e ∷ [])))
    (composed more (composed (same_head e.item same) (Permuted-append_comm (e.item ∷ []) (map item_of front))))

module _ {Item : Type 0} (stamp : Item → ℕ) where
  rise_within : (low : ℕ) (es : List (Entry Item)) (high : ℕ) → StampsRise stamp low es high → low ≤ high
  rise_within low [] high rise = rise
  rise_within low (e ∷ es) high rise = let rest = rise_within (stamp e.item + 1) es high rise.1 in omega (arith, rest, rise.0)

  -- the stamp of a linked item is below the number above all
  pub item_at-below : (handle low : ℕ) (item : Item) (es : List (Entry Item)) (high : ℕ) → StampsRise stamp low es high → item_at handle es ≡ Some item
      → stamp item < high
  item_at-below handle low item [] high rise is = absurd cc
  item_at-below handle low item (e ∷ es) high rise is =
      grind (arith, nat_tests, rise_within (stamp e.item + 1) es high rise.1, item_at-below handle (stamp e.item + 1) item es high rise.1)

  -- an item has a smaller stamp than the next one
  pub stamp_at-next : (handle stamps : ℕ) (item : Item) (es : List (Entry Item)) (next : Option ℕ) → StampsRise stamp 0 es stamps
      → item_at handle es ≡ Some item → IsCursor next es
      → before_cursor next es ≡ before handle es ++ record { handle = handle; item = item } ∷ [] → stamp item < stamp_at stamp next es stamps
  stamp_at-next handle stamps item es None rise is cursor walked = item_at-below handle 0 item es stamps rise is
  stamp_at-next handle stamps item es (Some next) rise is cursor walked =
      let later = item_at-linked next es cursor in
      let told = is_before-by_stamp stamp 0 stamps next handle later.0 item es rise later.1 is in
      let linked : is_linked handle (before next es) ≡ true =
      ap (is_linked handle) walked ∙ is_linked-append handle (before handle es) (record { handle = handle; item = item } ∷ []) ∙ grind (arith, nat_tests, common_steps) in
      subst (λ o. stamp item < option_map_or stamp o stamps) (sym later.1) (grind (arith, nat_tests, told, linked))

  -- the stamp of the item at a cursor
  pub stamp_at-item : (cursor : Option ℕ) (handle : ℕ) (item : Item) (es : List (Entry Item)) (stamps : ℕ) → cursor ≡ Some handle → item_at handle es ≡ Some item
      → stamp_at stamp cursor es stamps ≡ stamp item
  stamp_at-item cursor handle item es stamps at is = rw (at, is)

  -- one item more, with a stamp above those that were there
  pub below-appended : (xs ys : List Item) (item : Item) (low high : ℕ) → IsPartOf xs (item ∷ ys) → low ≤ stamp item → stamp item < high
      → All (λ x. stamp x < low) ys → All (λ x. stamp x < high) xs
  below-appended xs ys item low high part later less each =
      All-part (λ x. stamp x < high) xs (item ∷ ys) part
      (All-cons (λ x. stamp x < high) item ys less (λ k d within. let old = each k d within in omega (arith, old, later, less)))

module _ {P Item : Type 0} (contents : P → Contents Item) (stamp : Item → ℕ) where
  -- the stack takes the item at the cursor
  pub IsWalkOf-next : (r r' : Walked P Item) (es : List (Entry Item)) (stamps handle : ℕ) (item : Item) → StampsRise stamp 0 es stamps
      → IsWalkOf contents stamp r es stamps → r.cursor ≡ Some handle → item_at handle es ≡ Some item → IsCursor r'.cursor es
      → before_cursor r'.cursor es ≡ before handle es ++ record { handle = handle; item = item } ∷ []
      → Permuted (live_items contents r'.stack.levels) (item ∷ live_items contents r.stack.levels)
      → IsPartOf (all_items contents r'.stack.levels) (item ∷ all_items contents r.stack.levels) → IsWalkOf contents stamp r' es stamps
  IsWalkOf-next r r' es stamps handle item rise h at is cursor walked live items =
      let later = stamp_at-next stamp handle stamps item es r'.cursor rise is cursor walked in
      let here = stamp_at-item stamp r.cursor handle item es stamps at is in
      record {
        cursor = cursor;
        live = subst (λ l. Permuted (live_items contents r'.stack.levels) (map item_of l)) (sym walked)
            (Permuted-appended (before handle es) (record { handle = handle; item = item }) live
            (subst (λ c. Permuted (live_items contents r.stack.levels) (map item_of (before_cursor c es))) at h.live));
        below = below-appended stamp (all_items contents r'.stack.levels) (all_items contents r.stack.levels) item (stamp_at stamp r.cursor es stamps)
            (stamp_at stamp r'.cursor es stamps) items (omega (arith, here)) later h.below;
      }
