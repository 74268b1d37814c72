-- A late index beside a chain from which an item goes, or in which another one is put in its place.
use Rattle.std.proofs.Common.{◌≡◌, ◌≢◌, ℕ, ◌+◌, ◌-◌, ◌*◌, ◌^◌, ◌<◌, ◌≤◌, ◌∙◌, ◌⊎◌, Bool, true, false, List, [], ◌∷◌, Option, Some, None, inl, inr, length, refl, sym, ap, subst, arith}
use Rattle.std.proofs.lemmas.Bool.{cases_eq}
use Rattle.std.proofs.lemmas.List.{length-append}
use Rattle.builder_trait.specs.Parts.{Contents}
use Rattle.id_chain.specs.Chain.{Entry, is_linked, item_at, after, first_handle, first_or, before_cursor, without_handle}
use Rattle.id_chain.proofs.Entries.{item_at-linked}
use Rattle.id_chain.proofs.Stamps.{StampsRise-append}
use Rattle.part_store.specs.Store.{Stored}
use Rattle.log_levels.specs.Levels.{live_items, weight_of}
use Rattle.log_levels.specs.Trades.{Trades, IsStocked}
use Rattle.log_method.specs.Stack.{Stacked, Deletes, MayTick}
use Rattle.chain_walk.specs.Walk.{Walked, IsWalkOf, live_in, renewed}
use Rattle.chain_walk.proofs.Forgetting.{length-without_handle, IsWalkOf-deleted, IsWalkOf-moved, IsWalkOf-after, one_fewer}
use Rattle.chain_walk.proofs.Appending.{IsWalkOf-appended}
use Rattle.chain_walk.proofs.Stocking.{ticks_less}
use Rattle.chain_walk.proofs.Renewing.{HandlesDiffer-without, rise_without, renewed_differ, renewed_at}
use Rattle.late_index.specs.Late.{LateState, goal_of, OwnsMemory, IsPrepared, IsLateOf, LetsGo}
use Rattle.late_index.proofs.Catching.{lent, some_wait}

-- it has memory for a tick
pub ticks : {P Item : Type 0} {stack : Stacked P Item} {store : Stored} → OwnsMemory stack store → IsStocked stack.levels store 2
    → weight_of stack.levels < 2 ^ 31 → MayTick stack.levels store
ticks o stocked few = record { stocked = ticks_less _ _ stocked; lent = lent o; light = few }

-- what is lent after a tick
pub owns_ticked : {P Item : Type 0} {stack : Stacked P Item} {store : Stored} (stack' : Stacked P Item) (store' : Stored) → OwnsMemory stack store
    → Trades stack.levels store stack'.levels store' → OwnsMemory stack' store'
owns_ticked stack' store' o t = record {
  lends = record {
    builders = λ k. omega (arith, o.lends.builders k, t.builders k);
    tables = λ k. omega (arith, o.lends.tables k, t.tables k);
  };
  few = λ k. omega (arith, o.few k, t.builders k, t.keeps.builders k);
}

at_or_not : (cursor : Option ℕ) (handle : ℕ) → (cursor ≡ Some handle) ⊎ (cursor ≢ Some handle)
at_or_not None handle = inr (λ none. absurd cc)
at_or_not (Some at) handle = elim (cases_eq at handle) [ inl same ↦ inl (ap Some same) | inr apart ↦ inr (λ same. apart cc) ]

-- a walk lets go of an item that was handed over, of the one at the cursor, or of one after it
module _ {P Item : Type 0} {contents : P → Contents Item} {stamp : Item → ℕ} {handle : ℕ} {gone : Item} {next : Option ℕ} {es : List (Entry Item)}
    {r : Walked P Item} where
  pub lets_deleted : {r' : Walked P Item} → is_linked handle (before_cursor r.cursor es) ≡ true → r'.cursor ≡ r.cursor
      → Deletes contents stamp (stamp gone) r.stack.levels r'.stack.levels → LetsGo contents stamp handle gone next es true r r'
  lets_deleted walked same deletes = record {
    handed_over = sym walked;
    deleted = λ was_so. (same, deletes);
    at = λ was_not. absurd cc;
    elsewhere = λ was_not. absurd cc;
  }

  pub lets_at : {r' : Walked P Item} → is_linked handle (before_cursor r.cursor es) ≡ false → r.cursor ≡ Some handle → r' ≡ record r { cursor = next }
      → LetsGo contents stamp handle gone next es false r r'
  lets_at later at moved = record {
    handed_over = sym later;
    deleted = λ was_so. absurd cc;
    at = λ was_not here. moved;
    elsewhere = λ was_not other. absurd (other at);
  }

  pub lets_after : is_linked handle (before_cursor r.cursor es) ≡ false → r.cursor ≢ Some handle → LetsGo contents stamp handle gone next es false r r
  lets_after later apart = record {
    handed_over = sym later;
    deleted = λ was_so. absurd cc;
    at = λ was_not here. absurd (apart here);
    elsewhere = λ was_not other. refl;
  }

-- an item that wasn't handed over leaves the stack as it is
stays : {P Item : Type 0} {contents : P → Contents Item} {stamp : Item → ℕ} {handle : ℕ} {gone : Item} {next : Option ℕ} {es : List (Entry Item)} {was : Bool}
    {r r' : Walked P Item} → LetsGo contents stamp handle gone next es was r r' → was ≡ false → r'.stack ≡ r.stack
stays {handle = handle} {r = r} o was_not = elim (at_or_not r.cursor handle) [
  | inl at ↦ ap (λ x. x.stack) (o.at was_not at)
  | inr other ↦ ap (λ x. x.stack) (o.elsewhere was_not other)
]

-- a prepared late index that hasn't ended, and an item of its chain
record IsLeft {P Item : Type 0} (contents : P → Contents Item) (stamp : Item → ℕ) (l : LateState P Item) (es : List (Entry Item)) (stamps handle : ℕ)
    (gone : Item) : Type 0 where
  pub late : IsLateOf contents stamp l es stamps
  pub prepared : IsPrepared contents l es
  pub going : l.walk.cursor ≢ None
  pub linked : is_linked handle es ≡ true
  pub is : item_at handle es ≡ Some gone

module _ {P Item : Type 0} {contents : P → Contents Item} {stamp : Item → ℕ} {l : LateState P Item} {es : List (Entry Item)} {stamps handle : ℕ} {gone : Item}
    (f : IsLeft contents stamp l es stamps handle gone) where
  abbrev others : List (Entry Item)
  others = without_handle handle es

  fewer : length others + 1 ≡ length es
  fewer = length-without_handle handle es f.linked

  -- the late index of the others, with another walk and as many that wait
  others_of : (r' : Walked P Item) (store : Stored) (waiting : ℕ) → IsWalkOf contents stamp r' others stamps
      → live_in contents r'.stack + waiting ≡ length others
      → 3 * (weight_of r'.stack.levels - live_in contents r'.stack) + waiting ≤ length others
      → IsLateOf contents stamp (record { store = store; walk = r'; waiting = waiting }) others stamps
  others_of r' store waiting own short light = record {
    walk = own;
    at_most = omega (arith, short);
    at_least = omega (arith, short);
    light = light;
    rise = rise_without handle gone es f.is stamp stamps f.late.rise;
    differ = HandlesDiffer-without handle gone es f.is f.late.differ;
    few = omega (arith, fewer, f.late.few);
  }

  one_less : (r' : Walked P Item) → is_linked handle (before_cursor l.walk.cursor es) ≡ true
      → Deletes contents stamp (stamp gone) l.walk.stack.levels r'.stack.levels → live_in contents r'.stack + 1 ≡ live_in contents l.walk.stack
  one_less r' walked d =
      one_fewer contents stamp l.walk es stamps handle gone f.late.rise f.late.walk f.is (live_items contents r'.stack.levels) walked d.live

  walk_deleted : (r' : Walked P Item) → r'.cursor ≡ l.walk.cursor → is_linked handle (before_cursor l.walk.cursor es) ≡ true
      → Deletes contents stamp (stamp gone) l.walk.stack.levels r'.stack.levels → IsWalkOf contents stamp r' others stamps
  walk_deleted r' same walked d =
      subst (λ k. IsWalkOf contents stamp (record { stack = r'.stack; cursor = k }) others stamps) (sym same)
      (IsWalkOf-deleted contents stamp l.walk es stamps handle gone f.late.rise f.late.walk f.is r'.stack walked d.live d.items)

  -- how many are in the stack and wait then
  short_deleted : (r' : Walked P Item) → is_linked handle (before_cursor l.walk.cursor es) ≡ true
      → Deletes contents stamp (stamp gone) l.walk.stack.levels r'.stack.levels → live_in contents r'.stack + goal_of l ≡ length others
  short_deleted r' walked d = omega (arith, fewer, f.prepared.short, one_less r' walked d)

  short_left : live_in contents l.walk.stack + (goal_of l - 1) ≡ length others
  short_left = omega (arith, fewer, f.prepared.short, some_wait f.late f.prepared f.going)

  -- it is deleted from the stack
  deleted : (r' : Walked P Item) (store : Stored) → r'.cursor ≡ l.walk.cursor → is_linked handle (before_cursor l.walk.cursor es) ≡ true
      → Deletes contents stamp (stamp gone) l.walk.stack.levels r'.stack.levels
      → IsLateOf contents stamp (record { store = store; walk = r'; waiting = goal_of l }) others stamps
  deleted r' store same walked d =
      others_of r' store (goal_of l) (walk_deleted r' same walked d) (short_deleted r' walked d)
      (omega (arith, fewer, f.late.light, one_less r' walked d, d.weight, some_wait f.late f.prepared f.going))

  light_left : 3 * (weight_of l.walk.stack.levels - live_in contents l.walk.stack) + (goal_of l - 1) ≤ length others
  light_left = omega (arith, fewer, f.late.light, some_wait f.late f.prepared f.going)

  -- the cursor was at it, and goes on
  left_at : l.walk.cursor ≡ Some handle → (store : Stored)
      → IsLateOf contents stamp (record {
        store = store;
        walk = record { stack = l.walk.stack; cursor = first_handle (after handle es) };
        waiting = goal_of l - 1;
      }) others stamps
  left_at at store =
      others_of (record { stack = l.walk.stack; cursor = first_handle (after handle es) }) store (goal_of l - 1)
      (IsWalkOf-moved contents stamp l.walk es stamps handle gone f.late.rise f.late.walk f.is f.late.differ at) short_left light_left

  -- it comes after the cursor
  left_after : is_linked handle (before_cursor l.walk.cursor es) ≡ false → l.walk.cursor ≢ Some handle → (store : Stored)
      → IsLateOf contents stamp (record { store = store; walk = l.walk; waiting = goal_of l - 1 }) others stamps
  left_after later other store =
      others_of l.walk store (goal_of l - 1) (IsWalkOf-after contents stamp l.walk es stamps handle gone f.late.rise f.late.walk f.is later other) short_left light_left

  -- what was let go of is gone
  module _ (r' : Walked P Item) {was : Bool} (o : LetsGo contents stamp handle gone (first_handle (after handle es)) es was l.walk r') where
    dropped_walked : (store : Stored) → was ≡ true → IsLateOf contents stamp (record { store = store; walk = r'; waiting = goal_of l }) others stamps
    dropped_walked store was_so = deleted r' store (o.deleted was_so).0 (sym o.handed_over ∙ was_so) (o.deleted was_so).1

    dropped_other : (store : Stored) → was ≡ false → IsLateOf contents stamp (record { store = store; walk = r'; waiting = goal_of l - 1 }) others stamps
    dropped_other store was_not = elim (at_or_not l.walk.cursor handle) [
      | inl at ↦ rw (o.at was_not at) (left_at at store)
      | inr other ↦ rw (o.elsewhere was_not other) (left_after (sym o.handed_over ∙ was_not) other store)
    ]

module _ {P Item : Type 0} {contents : P → Contents Item} {stamp : Item → ℕ} {l : LateState P Item} {es : List (Entry Item)} {handle : ℕ} {gone : Item}
    (item : Item) (f : IsLeft contents stamp l es (stamp item) handle gone) where
  abbrev e : Entry Item
  e = record { handle = handle; item = item }

  abbrev now : List (Entry Item)
  now = renewed handle item es

  as_long : length now ≡ length es
  as_long = omega (arith, length-append (without_handle handle es) (e ∷ []), length-without_handle handle es f.linked)

  -- a walk of the others with the cursor at one of them is one of these and the one put in the place
  renewed_after : (r' : Walked P Item) → r'.cursor ≢ None → IsWalkOf contents stamp r' (without_handle handle es) (stamp item)
      → IsWalkOf contents stamp r' now (stamp item + 1)
  renewed_after r' going own = at r'.cursor refl
    where
      at : (cursor : Option ℕ) → r'.cursor ≡ cursor → IsWalkOf contents stamp r' now (stamp item + 1)
      at None ended = absurd (going ended)
      at (Some c) stands = IsWalkOf-appended contents stamp r' (without_handle handle es) e c stands own

  now_of : (r' : Walked P Item) (store : Stored) (waiting : ℕ) → IsWalkOf contents stamp r' now (stamp item + 1)
      → live_in contents r'.stack + waiting ≡ length now
      → 3 * (weight_of r'.stack.levels - live_in contents r'.stack) + waiting ≤ length now
      → IsLateOf contents stamp (record { store = store; walk = r'; waiting = waiting }) now (stamp item + 1)
  now_of r' store waiting own short light = record {
    walk = own;
    at_most = omega (arith, short);
    at_least = omega (arith, short);
    light = light;
    rise = StampsRise-append stamp 0 (without_handle handle es) (stamp item) e (omega arith) (rise_without handle gone es f.is stamp (stamp item) f.late.rise);
    differ = renewed_differ handle es item gone f.is f.late.differ;
    few = omega (arith, as_long, f.late.few);
  }

  short_moved : (r' : Walked P Item) → is_linked handle (before_cursor l.walk.cursor es) ≡ true
      → Deletes contents stamp (stamp gone) l.walk.stack.levels r'.stack.levels → live_in contents r'.stack + (goal_of l + 1) ≡ length now
  short_moved r' walked d = omega (arith, as_long, f.prepared.short, one_less f r' walked d)

  short_stays : live_in contents l.walk.stack + goal_of l ≡ length now
  short_stays = omega (arith, as_long, f.prepared.short)

  -- it is deleted from the stack, and the other one waits
  moved_deleted : (r' : Walked P Item) (store : Stored) → r'.cursor ≡ l.walk.cursor → is_linked handle (before_cursor l.walk.cursor es) ≡ true
      → Deletes contents stamp (stamp gone) l.walk.stack.levels r'.stack.levels
      → IsLateOf contents stamp (record { store = store; walk = r'; waiting = goal_of l + 1 }) now (stamp item + 1)
  moved_deleted r' store same walked d =
      now_of r' store (goal_of l + 1) (renewed_after r' (λ none. f.going (sym same ∙ none)) (walk_deleted f r' same walked d)) (short_moved r' walked d)
      (omega (arith, as_long, f.late.light, one_less f r' walked d, d.weight, some_wait f.late f.prepared f.going))

  light_stays : 3 * (weight_of l.walk.stack.levels - live_in contents l.walk.stack) + goal_of l ≤ length now
  light_stays = omega (arith, as_long, f.late.light)

  -- the cursor was at it, and goes on, to the one in its place where it was the last
  moved_at : l.walk.cursor ≡ Some handle → (store : Stored)
      → IsLateOf contents stamp (record {
        store = store;
        walk = record { stack = l.walk.stack; cursor = first_or (after handle es) (Some handle) };
        waiting = goal_of l;
      }) now (stamp item + 1)
  moved_at at store =
      now_of (record { stack = l.walk.stack; cursor = first_or (after handle es) (Some handle) }) store (goal_of l)
      (renewed_at contents stamp l.walk es handle gone item f.late.rise f.late.differ f.is f.late.walk at) short_stays light_stays

  -- it comes after the cursor
  moved_after : is_linked handle (before_cursor l.walk.cursor es) ≡ false → l.walk.cursor ≢ Some handle → (store : Stored)
      → IsLateOf contents stamp (record { store = store; walk = l.walk; waiting = goal_of l }) now (stamp item + 1)
  moved_after later other store =
      now_of l.walk store (goal_of l) (renewed_after l.walk f.going
      (IsWalkOf-after contents stamp l.walk es (stamp item) handle gone f.late.rise f.late.walk f.is later other)) short_stays light_stays

  -- what was let go of has another one in its place
  module _ (r' : Walked P Item) {was : Bool} (o : LetsGo contents stamp handle gone (first_or (after handle es) (Some handle)) es was l.walk r') where
    replaced_walked : (store : Stored) → was ≡ true → IsLateOf contents stamp (record { store = store; walk = r'; waiting = goal_of l + 1 }) now (stamp item + 1)
    replaced_walked store was_so = moved_deleted r' store (o.deleted was_so).0 (sym o.handed_over ∙ was_so) (o.deleted was_so).1

    replaced_other : (store : Stored) → was ≡ false → IsLateOf contents stamp (record { store = store; walk = r'; waiting = goal_of l }) now (stamp item + 1)
    replaced_other store was_not = elim (at_or_not l.walk.cursor handle) [
      | inl at ↦ rw (o.at was_not at) (moved_at at store)
      | inr other ↦ rw (o.elsewhere was_not other) (moved_after (sym o.handed_over ∙ was_not) other store)
    ]

-- the place at which a walk goes on
pub goes_on_at : {P Item : Type 0} {contents : P → Contents Item} {stamp : Item → ℕ} {handle : ℕ} {place next : Option ℕ} {es : List (Entry Item)} {was : Bool}
    {r r' : Walked P Item} → ((item : Item) → item_at handle es ≡ Some item → LetsGo contents stamp handle item place es was r r') → place ≡ next
    → (item : Item) → item_at handle es ≡ Some item → LetsGo contents stamp handle item next es was r r'
goes_on_at {contents = contents} {stamp = stamp} {handle = handle} {es = es} {was = was} {r = r} {r' = r'} goes same item is =
    subst (λ n. LetsGo contents stamp handle item n es was r r') same (goes item is)

-- what was prepared, and lets go of a linked item
pub record HasLetGo {P Item : Type 0} (contents : P → Contents Item) (stamp : Item → ℕ) (l : LateState P Item) (es : List (Entry Item)) (handle : ℕ)
    (next : Option ℕ) (was : Bool) (r' : Walked P Item) : Type 0 where
  pub prepared : IsPrepared contents l es
  pub going : l.walk.cursor ≢ None
  pub linked : is_linked handle es ≡ true
  pub goes : (item : Item) → item_at handle es ≡ Some item → LetsGo contents stamp handle item next es was l.walk r'

module _ {P Item : Type 0} {contents : P → Contents Item} {stamp : Item → ℕ} {l : LateState P Item} {es : List (Entry Item)} {handle : ℕ} {next : Option ℕ}
    {was : Bool} {r' : Walked P Item} (d : HasLetGo contents stamp l es handle next was r') where
  the_item : (item : Item) × (item_at handle es ≡ Some item)
  the_item = item_at-linked handle es d.linked

  goes : LetsGo contents stamp handle the_item.0 next es was l.walk r'
  goes = d.goes the_item.0 the_item.1

  left : {stamps : ℕ} → IsLateOf contents stamp l es stamps → IsLeft contents stamp l es stamps handle the_item.0
  left h = record { late = h; prepared = d.prepared; going = d.going; linked = d.linked; is = the_item.1 }

  pub was_handed : was ≡ is_linked handle (before_cursor l.walk.cursor es)
  was_handed = goes.handed_over

  pub as_heavy : weight_of r'.stack.levels ≡ weight_of l.walk.stack.levels
  as_heavy = cases was refl
    where
      cases : (b : Bool) → was ≡ b → weight_of r'.stack.levels ≡ weight_of l.walk.stack.levels
      cases true is = (goes.deleted is).1.weight
      cases false is = ap (λ s. weight_of s.levels) (stays goes is)

  -- how many are in the stack then
  pub short_gone : {stamps : ℕ} → IsLateOf contents stamp l es stamps → was ≡ true → live_in contents r'.stack + goal_of l ≡ length (without_handle handle es)
  short_gone h is = short_deleted (left h) r' (sym was_handed ∙ is) (goes.deleted is).1

  pub short_kept : {stamps : ℕ} → IsLateOf contents stamp l es stamps → was ≡ false
      → live_in contents r'.stack + (goal_of l - 1) ≡ length (without_handle handle es)
  short_kept h is = rw (stays goes is) (short_left (left h))

  pub short_replaced : {stamps : ℕ} (item : Item) → IsLateOf contents stamp l es stamps → was ≡ true
      → live_in contents r'.stack + (goal_of l + 1) ≡ length (renewed handle item es)
  short_replaced item h is = omega (arith, short_gone h is, length-append (without_handle handle es) (record { handle = handle; item = item } ∷ []))

  pub short_replaced_other : {stamps : ℕ} (item : Item) → IsLateOf contents stamp l es stamps → was ≡ false
      → live_in contents r'.stack + goal_of l ≡ length (renewed handle item es)
  short_replaced_other item h is =
      omega (
        arith,
        short_kept h is,
        length-append (without_handle handle es) (record { handle = handle; item = item } ∷ []),
        some_wait h d.prepared d.going,
      )

module _ {P Item : Type 0} {contents : P → Contents Item} {stamp : Item → ℕ} {l : LateState P Item} {es : List (Entry Item)} {handle : ℕ} {was : Bool}
    {r' : Walked P Item} {stamps : ℕ} (d : HasLetGo contents stamp l es handle (first_handle (after handle es)) was r')
    (h : IsLateOf contents stamp l es stamps) where
  -- the item is dropped
  pub drops_walked : (store : Stored) → was ≡ true
      → IsLateOf contents stamp (record { store = store; walk = r'; waiting = goal_of l }) (without_handle handle es) stamps
  drops_walked store is = dropped_walked (left d h) r' (goes d) store is

  pub drops_other : (store : Stored) → was ≡ false
      → IsLateOf contents stamp (record { store = store; walk = r'; waiting = goal_of l - 1 }) (without_handle handle es) stamps
  drops_other store is = dropped_other (left d h) r' (goes d) store is

module _ {P Item : Type 0} {contents : P → Contents Item} {stamp : Item → ℕ} {l : LateState P Item} {es : List (Entry Item)} {handle : ℕ} {was : Bool}
    {r' : Walked P Item} (d : HasLetGo contents stamp l es handle (first_or (after handle es) (Some handle)) was r') (item : Item)
    (h : IsLateOf contents stamp l es (stamp item)) where
  -- another one is in its place
  pub replaces_walked : (store : Stored) → was ≡ true
      → IsLateOf contents stamp (record { store = store; walk = r'; waiting = goal_of l + 1 }) (renewed handle item es) (stamp item + 1)
  replaces_walked store is = replaced_walked item (left d h) r' (goes d) store is

  pub replaces_other : (store : Stored) → was ≡ false
      → IsLateOf contents stamp (record { store = store; walk = r'; waiting = goal_of l }) (renewed handle item es) (stamp item + 1)
  replaces_other store is = replaced_other item (left d h) r' (goes d) store is
