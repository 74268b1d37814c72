-- A walk along a chain from which an item is to be unlinked.
use Rattle.std.proofs.Common.{◌≡◌, ◌≢◌, ℕ, suc, ◌+◌, ◌<◌, ◌≤◌, ◌==◌, ◌∙◌, true, false, not, List, [], ◌∷◌, ◌++◌, Option, Some, None, All, Contains, inl, inr, length, map, refl, sym, ap, subst, arith}
use Rattle.std.specs.Option.{option_map_or}
use Rattle.std.proofs.lemmas.Bool.{cases_eq}
use Rattle.std.proofs.lemmas.Bool.Decides.{nat_tests}
use Rattle.std.proofs.lemmas.Grind.{common_steps}
use Rattle.std.proofs.lemmas.List.{length-map}
use Rattle.std.proofs.lemmas.List.Sorted.{Contains-permutation}
use Rattle.query_laws.specs.Permuted.{Permuted, composed}
use Rattle.query_laws.proofs.Permutations.{IsPermutation-from_Permuted, Permuted-filter, Permuted-length, Permuted-sym}
use Rattle.builder_trait.specs.Parts.{Contents, without}
use Rattle.id_chain.specs.Chain.{Entry, HandlesDiffer, is_linked, item_at, before, after, IsCursor, before_cursor, without_handle, first_handle}
use Rattle.id_chain.specs.StampsRise.{StampsRise}
use Rattle.id_chain.proofs.Entries.{item_at-linked, split_at}
use Rattle.id_chain.proofs.Cursors.{before-without, before_cursor_next, IsCursor_next, next-without, others-without, up_to_split, without_handle-other}
use Rattle.log_levels.specs.Slots.{IsPartOf}
use Rattle.log_levels.specs.Levels.{live_items, all_items}
use Rattle.log_method.specs.Stack.{Stacked}
use Rattle.chain_walk.specs.Walk.{Walked, IsWalkOf, live_in, stamp_at}
use Rattle.chain_walk.proofs.Walking.{item_of, All-part, stamp_at-item, stamp_at-next}

module _ {Item : Type 0} where
  not_before_itself : (handle : ℕ) (es : List (Entry Item)) → is_linked handle (before handle es) ≡ false
  not_before_itself handle [] = refl
  not_before_itself handle (e ∷ es) = let rest = not_before_itself handle es in grind (arith, nat_tests, common_steps, rest)

  Contains-item : (handle : ℕ) (item : Item) (es : List (Entry Item)) → item_at handle es ≡ Some item → Contains (map item_of es) item
  Contains-item handle item [] at = absurd cc
  Contains-item handle item (e ∷ es) at = elim (cases_eq e.handle handle) [
    | inl same ↦ let head : e.item ≡ item = grind (arith, nat_tests) in (0, omega arith, head)
    | inr apart ↦ let rest = Contains-item handle item es (grind (arith, nat_tests)) in (suc rest.0, omega (arith, rest.1), rest.2)
  ]

  -- an item of the chain is live where all of them are
  pub live_item : (handle : ℕ) (item : Item) (es : List (Entry Item)) {live : List Item} → Permuted live (map item_of es) → item_at handle es ≡ Some item
      → Contains live item
  live_item handle item es {live} same is =
      Contains-permutation (map item_of es) live item (IsPermutation-from_Permuted (Permuted-sym same)) (Contains-item handle item es is)

  item_at-before : (at handle : ℕ) (es : List (Entry Item)) → is_linked handle (before at es) ≡ true → item_at handle (before at es) ≡ item_at handle es
  item_at-before at handle [] linked = refl
  item_at-before at handle (e ∷ es) linked = grind (arith, nat_tests, common_steps, item_at-before at handle es)

  pub length-without_handle : (handle : ℕ) (es : List (Entry Item)) → is_linked handle es ≡ true → length (without_handle handle es) + 1 ≡ length es
  length-without_handle handle [] linked = absurd cc
  length-without_handle handle (e ∷ es) linked = grind (arith, nat_tests, common_steps, length-without_handle handle es)

  module _ (stamp : Item → ℕ) where
    rise_front : (low : ℕ) (xs ys : List (Entry Item)) (high : ℕ) → StampsRise stamp low (xs ++ ys) high → (mid : ℕ) × StampsRise stamp low xs mid
    rise_front low [] ys high rise = (low, omega arith)
    rise_front low (x ∷ xs) ys high rise = let rest = rise_front (stamp x.item + 1) xs ys high rise.1 in (rest.0, (rise.0, rest.1))

    none_with : (s low : ℕ) (es : List (Entry Item)) (high : ℕ) → s < low → StampsRise stamp low es high → without stamp s (map item_of es) ≡ map item_of es
    none_with s low [] high less rise = refl
    none_with s low (e ∷ es) high less rise =
        let rest = none_with s (stamp e.item + 1) es high (omega (arith, less, rise.0)) rise.1 in grind (arith, nat_tests, common_steps, rise.0, rest)

    item_at-above : (handle low : ℕ) (item : Item) (es : List (Entry Item)) (high : ℕ) → StampsRise stamp low es high → item_at handle es ≡ Some item → low ≤ stamp item
    item_at-above handle low item [] high rise is = absurd cc
    item_at-above handle low item (e ∷ es) high rise is = grind (arith, nat_tests, rise.0, item_at-above handle (stamp e.item + 1) item es high rise.1)

    -- without an entry there are the others' items
    pub items_without : (handle low : ℕ) (item : Item) (es : List (Entry Item)) (high : ℕ) → StampsRise stamp low es high → item_at handle es ≡ Some item
        → without stamp (stamp item) (map item_of es) ≡ map item_of (without_handle handle es)
    items_without handle low item [] high rise is = absurd cc
    items_without handle low item (e ∷ es) high rise is =
        grind (
          arith,
          nat_tests,
          common_steps,
          rise.0,
          none_with (stamp e.item) (stamp e.item + 1) es high (omega arith) rise.1,
          item_at-above handle (stamp e.item + 1) item es high rise.1,
          items_without handle (stamp e.item + 1) item es high rise.1,
        )

-- a cursor that isn't at the handle stays where it is
module _ {Item : Type 0} (handle : ℕ) (es : List (Entry Item)) where
  before_cursor-without : (cursor : Option ℕ) → cursor ≢ Some handle → before_cursor cursor (without_handle handle es) ≡ without_handle handle (before_cursor cursor es)
  before_cursor-without None other = refl
  before_cursor-without (Some at) other = before-without handle at es (λ same. other (ap Some same))

  IsCursor-without : (cursor : Option ℕ) → cursor ≢ Some handle → IsCursor cursor es → IsCursor cursor (without_handle handle es)
  IsCursor-without None other h = tt
  IsCursor-without (Some at) other h = (others-without handle at es (λ same. other (ap Some same))).0 ∙ h

  stamp_at-without : (stamp : Item → ℕ) (stamps : ℕ) (cursor : Option ℕ) → cursor ≢ Some handle
      → stamp_at stamp cursor (without_handle handle es) stamps ≡ stamp_at stamp cursor es stamps
  stamp_at-without stamp stamps None other = refl
  stamp_at-without stamp stamps (Some at) other = ap (λ o. option_map_or stamp o stamps) (others-without handle at es (λ same. other (ap Some same))).1

  not_at : (cursor : Option ℕ) → is_linked handle (before_cursor cursor es) ≡ true → cursor ≢ Some handle
  not_at cursor walked at =
      let here : is_linked handle (before handle es) ≡ true = subst (λ c. is_linked handle (before_cursor c es) ≡ true) at walked in
      let none = not_before_itself handle es in absurd cc

  item_at-walked : (cursor : Option ℕ) → is_linked handle (before_cursor cursor es) ≡ true → item_at handle (before_cursor cursor es) ≡ item_at handle es
  item_at-walked None walked = refl
  item_at-walked (Some at) walked = item_at-before at handle es walked

module _ {Item : Type 0} (stamp : Item → ℕ) where
  rise_walked : (es : List (Entry Item)) (stamps : ℕ) (cursor : Option ℕ) → StampsRise stamp 0 es stamps → IsCursor cursor es
      → (mid : ℕ) × StampsRise stamp 0 (before_cursor cursor es) mid
  rise_walked es stamps None rise h = (stamps, rise)
  rise_walked es stamps (Some at) rise h =
      let there = item_at-linked at es h in
      rise_front stamp 0 (before at es) (record { handle = at; item = there.0 } ∷ after at es) stamps
      (subst (λ l. StampsRise stamp 0 l stamps) (split_at at there.0 es there.1) rise)

module _ {P Item : Type 0} (contents : P → Contents Item) (stamp : Item → ℕ) (r : Walked P Item) (es : List (Entry Item)) (stamps handle : ℕ) (item : Item)
    (rise : StampsRise stamp 0 es stamps) (h : IsWalkOf contents stamp r es stamps) (is : item_at handle es ≡ Some item) where
  -- the live items of the stack without an item that was handed over
  without_walked : is_linked handle (before_cursor r.cursor es) ≡ true
      → without stamp (stamp item) (map item_of (before_cursor r.cursor es)) ≡ map item_of (without_handle handle (before_cursor r.cursor es))
  without_walked walked =
      let front = rise_walked stamp es stamps r.cursor rise h.cursor in
      items_without stamp handle 0 item (before_cursor r.cursor es) front.0 front.1 (item_at-walked handle es r.cursor walked ∙ is)

  pub IsWalkOf-deleted : (stack : Stacked P Item) → is_linked handle (before_cursor r.cursor es) ≡ true
      → Permuted (live_items contents stack.levels) (without stamp (stamp item) (live_items contents r.stack.levels))
      → IsPartOf (all_items contents stack.levels) (all_items contents r.stack.levels) → IsWalkOf contents stamp (record r { stack = stack }) (without_handle handle es) stamps
  IsWalkOf-deleted stack walked live items =
      let other = not_at handle es r.cursor walked in
      record {
        cursor = IsCursor-without handle es r.cursor other h.cursor;
        live = subst (λ l. Permuted (live_items contents stack.levels) l)
            (without_walked walked ∙ ap (map item_of) (sym (before_cursor-without handle es r.cursor other)))
            (composed live (Permuted-filter (λ x. not (stamp x == stamp item)) h.live));
        below = subst (λ n. All (λ x. stamp x < n) (all_items contents stack.levels)) (sym (stamp_at-without handle es stamp stamps r.cursor other))
            (All-part (λ x. stamp x < stamp_at stamp r.cursor es stamps) (all_items contents stack.levels) (all_items contents r.stack.levels) items h.below);
      }

  pub IsWalkOf-after : is_linked handle (before_cursor r.cursor es) ≡ false → r.cursor ≢ Some handle → IsWalkOf contents stamp r (without_handle handle es) stamps
  IsWalkOf-after later other = record {
    cursor = IsCursor-without handle es r.cursor other h.cursor;
    live = subst (λ l. Permuted (live_items contents r.stack.levels) (map item_of l))
        (sym (before_cursor-without handle es r.cursor other ∙ without_handle-other handle (before_cursor r.cursor es) later)) h.live;
    below = subst (λ n. All (λ x. stamp x < n) (all_items contents r.stack.levels)) (sym (stamp_at-without handle es stamp stamps r.cursor other)) h.below;
  }

  pub IsWalkOf-moved : HandlesDiffer es → r.cursor ≡ Some handle
      → IsWalkOf contents stamp (record r { cursor = first_handle (after handle es) }) (without_handle handle es) stamps
  IsWalkOf-moved differ at =
      let next = first_handle (after handle es) in
      let moved = next-without handle es differ in
      let later = stamp_at-next stamp handle stamps item es next rise is (IsCursor_next handle es next refl)
      (before_cursor_next handle es next differ refl ∙ up_to_split handle item es is) in
      let here = stamp_at-item stamp r.cursor handle item es stamps at is in
      let other : next ≢ Some handle = λ still.
      let same = stamp_at-item stamp next handle item es stamps still is in absurd (omega (arith, later, same)) in
      let there = stamp_at-without handle es stamp stamps next other in
      record {
        cursor = moved.0;
        live = subst (λ l. Permuted (live_items contents r.stack.levels) (map item_of l)) (sym moved.1)
            (subst (λ c. Permuted (live_items contents r.stack.levels) (map item_of (before_cursor c es))) at h.live);
        below = λ k d within. let low = h.below k d within in omega (arith, low, here, later, there);
      }

  -- it is live there, and then one fewer is
  pub walked_live : is_linked handle (before_cursor r.cursor es) ≡ true → Contains (live_items contents r.stack.levels) item
  walked_live walked = live_item handle item (before_cursor r.cursor es) h.live (item_at-walked handle es r.cursor walked ∙ is)

  pub one_fewer : (new : List Item) → is_linked handle (before_cursor r.cursor es) ≡ true
      → Permuted new (without stamp (stamp item) (live_items contents r.stack.levels)) → length new + 1 ≡ live_in contents r.stack
  one_fewer new walked live =
      let left = Permuted-length live ∙ Permuted-length (Permuted-filter (λ x. not (stamp x == stamp item)) h.live) ∙ ap length (without_walked walked) in
      omega (
        arith,
        left,
        length-map (without_handle handle (before_cursor r.cursor es)) item_of,
        length-without_handle handle (before_cursor r.cursor es) walked,
        length-map (before_cursor r.cursor es) item_of,
        Permuted-length h.live,
      )
