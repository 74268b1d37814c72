-- A late index that gets the items of a chain.
use Rattle.std.proofs.Common.{◌≡◌, ◌≢◌, ℕ, ◌+◌, ◌-◌, ◌*◌, ◌^◌, ◌<◌, ◌≤◌, ◌⊎◌, ⊎_elim, List, [], ◌∷◌, ◌++◌, Option, Some, None, Result, IfOk, inl, inr, length, map, refl, sym, ap, subst, arith}
use Rattle.std.proofs.lemmas.List.{length-append}
use Rattle.std.proofs.lemmas.List.Elements.{All-nil}
use Rattle.query_laws.specs.Permuted.{Permuted, nothing}
use Rattle.builder_trait.specs.Parts.{Contents}
use Rattle.id_chain.specs.Chain.{Entry, HandlesDiffer, IsCursor, before_cursor}
use Rattle.id_chain.specs.StampsRise.{StampsRise}
use Rattle.id_chain.proofs.Stamps.{StampsRise-append}
use Rattle.part_store.specs.Store.{Stored}
use Rattle.log_levels.specs.Levels.{weight_of}
use Rattle.log_levels.specs.Trades.{AreLent, IsStocked}
use Rattle.log_method.specs.Stack.{Stacked}
use Rattle.log_method.proofs.Forecasting.{when_ok}
use Rattle.chain_walk.specs.Walk.{Walked, IsWalkOf, IsKept, HandsOver, live_in, stamp_at}
use Rattle.chain_walk.specs.Memory.{HoldsNoLess, LendsFew}
use Rattle.chain_walk.proofs.Walking.{item_of}
use Rattle.chain_walk.proofs.Handing.{few_before, as_walked}
use Rattle.chain_walk.proofs.Appending.{IsWalkOf-appended}
use Rattle.late_index.specs.Late.{LateState, goal_of, OwnsMemory, IsShortOf, IsPrepared, IsLateOf}

module _ {P Item : Type 0} {contents : P → Contents Item} where
  pub handed_kept : {r r' r'' : Walked P Item} {most : ℕ} → HandsOver contents most r r' → IsKept contents r' r'' → HandsOver contents most r r''
  handed_kept h k = record {
    no_fewer = omega (arith, h.no_fewer, ap length k.live);
    at_most = omega (arith, h.at_most, ap length k.live);
    weight = omega (arith, h.weight, ap length k.live, k.weight);
  }

module _ {P Item : Type 0} {contents : P → Contents Item} {stamp : Item → ℕ} where
  -- a walk that has ended took all items
  ended : {r : Walked P Item} {es : List (Entry Item)} {stamps : ℕ} → IsWalkOf contents stamp r es stamps → r.cursor ≡ None
      → live_in contents r.stack ≡ length es
  ended {r} {es} own none = elim (few_before r.cursor es own.cursor) [
    | inl all ↦ omega (arith, as_walked contents stamp r es own, all.1)
    | inr some ↦ absurd (some.0 none)
  ]

  module _ {l : LateState P Item} {es : List (Entry Item)} {stamps : ℕ} (h : IsLateOf contents stamp l es stamps) where
    -- the stack weighs a third more than all items at most
    pub weighs : 3 * weight_of l.walk.stack.levels ≤ 4 * length es
    weighs = omega (arith, h.light, h.at_least)

    pub light : weight_of l.walk.stack.levels + 4 ≤ 2 ^ 31
    light = omega (arith, weighs, h.few)

    -- where the walk hasn't ended, some items wait in the next update
    pub some_wait : IsPrepared contents l es → l.walk.cursor ≢ None → 1 ≤ goal_of l
    some_wait p going = elim (few_before l.walk.cursor es h.walk.cursor) [
      | inl all ↦ absurd (going all.0)
      | inr some ↦ omega (arith, as_walked contents stamp l.walk es h.walk, some.1, p.short)
    ]

    -- where it has, all items are in the stack
    pub all_walked : l.walk.cursor ≡ None → live_in contents l.walk.stack ≡ length es
    all_walked none = ended h.walk none

  -- a walk that took as many as it was to, or came past the end, is at the goal
  pub reaches : {A E : Type 0} (result : Result A E) {l : LateState P Item} {r' : Walked P Item} {es : List (Entry Item)} {stamps most waiting : ℕ}
      → IsLateOf contents stamp l es stamps → IsWalkOf contents stamp r' es stamps → HandsOver contents most l.walk r'
      → IfOk result (λ _. (r'.cursor ≡ None) ⊎ (live_in contents r'.stack ≡ live_in contents l.walk.stack + most))
      → live_in contents l.walk.stack + most + goal_of l ≡ length es → waiting ≡ l.waiting
      → IfOk result (λ _. live_in contents r'.stack + (waiting - 4) ≡ length es)
  reaches result {l} {r'} {es} {stamps} {most} {waiting} h own handed taken far same =
      when_ok result (⊎_elim (λ none. omega (arith, ended own none, far, handed.at_most, same)) (λ all. omega (arith, all, far, same))) taken

  -- memory is taken
  pub kept : {r r' : Walked P Item} {es : List (Entry Item)} {stamps : ℕ} → IsKept contents r r' → IsWalkOf contents stamp r es stamps
      → IsWalkOf contents stamp r' es stamps
  kept {r} {r'} {es} {stamps} k h = record {
    cursor = subst (λ c. IsCursor c es) (sym k.cursor) h.cursor;
    live = rw (k.live, k.cursor) h.live;
    below = rw (k.items, k.cursor) h.below;
  }

  module _ {l : LateState P Item} {r' : Walked P Item} (store : Stored) (k : IsKept contents l.walk r') {es : List (Entry Item)} where
    pub kept_late : {stamps : ℕ} → IsLateOf contents stamp l es stamps
        → IsLateOf contents stamp (record { store = store; walk = r'; waiting = l.waiting }) es stamps
    kept_late h = record {
      walk = kept k h.walk;
      at_most = omega (arith, h.at_most, ap length k.live);
      at_least = omega (arith, h.at_least, ap length k.live);
      light = omega (arith, h.light, ap length k.live, k.weight);
      rise = h.rise;
      differ = h.differ;
      few = h.few;
    }

    -- two ticks find it, where no more items wait than may
    pub readied : {stamps : ℕ} → IsLateOf contents stamp l es stamps → IsShortOf contents (goal_of l) l es
        → (weight_of r'.stack.levels < 2 ^ 31 → IsStocked r'.stack.levels store 2)
        → IsPrepared contents (record { store = store; walk = r'; waiting = l.waiting }) es
    readied h short stocked = record { short = omega (arith, short, ap length k.live); stocked = stocked (omega (arith, light h, k.weight)) }

  -- the walk starts
  pub starts : (es : List (Entry Item)) (stamps : ℕ) (cursor : Option ℕ) → IsCursor cursor es → before_cursor cursor es ≡ [] → HandlesDiffer es
      → length es < 2 ^ 29 → StampsRise stamp 0 es stamps
      → IsLateOf contents stamp (record {
        store = record { builders = []; tables = [] };
        walk = record { stack = record { levels = [] }; cursor = cursor };
        waiting = length es;
      }) es stamps
  starts es stamps cursor at first differ few rise = record {
    walk = record {
      cursor = at;
      live = subst (λ l. Permuted [] (map item_of l)) (sym first) nothing;
      below = All-nil (λ x. stamp x < stamp_at stamp cursor es stamps);
    };
    at_most = omega arith;
    at_least = omega arith;
    light = omega arith;
    rise = rise;
    differ = differ;
    few = few;
  }

  -- an item is appended
  pub appends : (l : LateState P Item) (front : List (Entry Item)) (e : Entry Item) → l.walk.cursor ≢ None → HandlesDiffer (front ++ e ∷ [])
      → length (front ++ e ∷ []) < 2 ^ 29 → IsPrepared contents l front → IsLateOf contents stamp l front (stamp e.item)
      → IsLateOf contents stamp (record l { waiting = goal_of l + 1 }) (front ++ e ∷ []) (stamp e.item + 1)
  appends l front e going differ few p h =
      let more = length-append front (e ∷ []) in
      let some = some_wait h p going in
      record {
        walk = at l.walk.cursor refl;
        at_most = omega (arith, more, p.short);
        at_least = omega (arith, more, p.short);
        light = omega (arith, more, some, h.light);
        rise = StampsRise-append stamp 0 front (stamp e.item) e (omega arith) h.rise;
        differ = differ;
        few = few;
      }
    where
      at : (cursor : Option ℕ) → l.walk.cursor ≡ cursor → IsWalkOf contents stamp l.walk (front ++ e ∷ []) (stamp e.item + 1)
      at None ended = absurd (going ended)
      at (Some handle) stands = IsWalkOf-appended contents stamp l.walk front e handle stands h.walk

pub owns_none : {P Item : Type 0} → OwnsMemory {P = P} {Item = Item} (record { levels = [] }) (record { builders = []; tables = [] })
owns_none = record { lends = record { builders = λ k. refl; tables = λ k. refl }; few = λ k. omega arith }

module _ {P Item : Type 0} {stack : Stacked P Item} {store : Stored} (o : OwnsMemory stack store) where
  pub lent : AreLent stack.levels store
  lent = record { builders = λ k. omega (arith, o.lends.builders k); tables = λ k. omega (arith, o.lends.tables k) }

  -- the stack takes items, and memory is taken for it
  pub owns_more : (stack' : Stacked P Item) (store' : Stored) → LendsFew stack.levels store stack'.levels store' → OwnsMemory stack' store'
  owns_more stack' store' m = record {
    lends = record {
      builders = λ k. omega (arith, o.lends.builders k, m.lent k);
      tables = λ k. omega (arith, o.lends.tables k, m.lent_tables k);
    };
    few = λ k. omega (arith, o.few k, m.few k);
  }

-- no less is in memory, and then again
pub holds_then : {s t u : Stored} → HoldsNoLess s t → HoldsNoLess t u → HoldsNoLess s u
holds_then h k = record {
  builders = λ n. omega (arith, h.builders n, k.builders n);
  tables = λ n. omega (arith, h.tables n, k.tables n);
}
