-- What contracts see of an index that is made late, beside the chain of its items.
use Rattle.std.specs.Prelude.{◌≡◌, ◌≢◌, ℕ, ◌+◌, ◌-◌, ◌*◌, ◌^◌, ◌<◌, ◌≤◌, Bool, true, false, List, Option, Some, length}
use Rattle.builder_trait.specs.Parts.{Contents}
use Rattle.id_chain.specs.Chain.{Entry, HandlesDiffer, is_linked, before_cursor}
use Rattle.id_chain.specs.StampsRise.{StampsRise}
use Rattle.part_store.specs.Shelves.{kept_at}
use Rattle.part_store.specs.Store.{Stored}
use Rattle.log_levels.specs.Levels.{weight_of}
use Rattle.log_levels.specs.Trades.{used_at, IsStocked}
use Rattle.log_method.specs.Stack.{Stacked, Deletes}
use Rattle.log_method.specs.Preparing.{LendsOnly}
use Rattle.chain_walk.specs.Walk.{Walked, IsWalkOf, live_in}

-- A late index: the store that has all its memory; the walk, with the stack that gets the items; and how many items are told to wait.
pub record LateState (P Item : Type 0) : Type 0 where
  pub store : Stored
  pub walk : Walked P Item
  pub waiting : ℕ

module _ {P Item : Type 0} where
  -- how many items may wait once the next update is prepared: four fewer
  abbrev pub goal_of : LateState P Item → ℕ
  goal_of l = l.waiting - 4

  -- a store lends to a stack alone; of each level the store keeps, and the stack has, five builders together at most
  pub record OwnsMemory (stack : Stacked P Item) (store : Stored) : Type 0 where
    pub lends : LendsOnly stack.levels store
    pub few : (k : ℕ) → kept_at k store.builders + used_at k stack.levels ≤ 5

module _ {P Item : Type 0} (contents : P → Contents Item) where
  -- exactly so many items of a chain aren't in the stack: those from the cursor on
  abbrev pub IsShortOf : ℕ → LateState P Item → List (Entry Item) → Type 0
  IsShortOf n l es = live_in contents l.walk.stack + n ≡ length es

  -- ready for an update: no more items wait than may, and memory is there for two ticks
  pub record IsPrepared (l : LateState P Item) (es : List (Entry Item)) : Type 0 where
    pub short : IsShortOf (goal_of l) l es
    pub stocked : IsStocked l.walk.stack.levels l.store 2

  -- The late index is that of the items of a chain, whose stamps rise: those before the cursor are live in its stack. No more come from the cursor on than
  -- wait, and no fewer than may once the next update is prepared. Of the stack's weight so little is dead that a third of all items, less those that wait,
  -- is as much at least.
  pub record IsLateOf (stamp : Item → ℕ) (l : LateState P Item) (es : List (Entry Item)) (stamps : ℕ) : Type 0 where
    pub walk : IsWalkOf contents stamp l.walk es stamps
    pub at_most : length es ≤ live_in contents l.walk.stack + l.waiting
    pub at_least : live_in contents l.walk.stack + goal_of l ≤ length es
    pub light : 3 * (weight_of l.walk.stack.levels - live_in contents l.walk.stack) + l.waiting ≤ length es
    pub rise : StampsRise stamp 0 es stamps
    pub differ : HandlesDiffer es
    pub few : length es < 2 ^ 29

  -- A walk lets go of an item: it is deleted from the stack where it was handed over, else a cursor at it goes on to another place.
  pub record LetsGo (stamp : Item → ℕ) (handle : ℕ) (item : Item) (next : Option ℕ) (es : List (Entry Item)) (was : Bool) (old new : Walked P Item) : Type 0 where
    pub handed_over : was ≡ is_linked handle (before_cursor old.cursor es)
    pub deleted : was ≡ true → (new.cursor ≡ old.cursor) × Deletes contents stamp (stamp item) old.stack.levels new.stack.levels
    pub at : was ≡ false → old.cursor ≡ Some handle → new ≡ record old { cursor = next }
    pub elsewhere : was ≡ false → old.cursor ≢ Some handle → new ≡ old
