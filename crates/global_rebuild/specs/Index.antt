-- What contracts see of an index, beside the chain of its items (Overmars 1983).
use Rattle.std.specs.Prelude.{◌≡◌, ℕ, ◌+◌, ◌-◌, ◌*◌, ◌^◌, ◌<◌, ◌≤◌, Bool, List, Option, Some, None, All, ◌⊎◌, if◌then◌else◌, nat_le, nat_lt, length, map, sum_by}
use Rattle.std.specs.Option.{option_map, option_map_or}
use Rattle.query_laws.specs.Permuted.{Permuted}
use Rattle.builder_trait.specs.Parts.{Contents}
use Rattle.id_chain.specs.Chain.{Entry, HandlesDiffer, is_linked, before_cursor}
use Rattle.id_chain.specs.StampsRise.{StampsRise}
use Rattle.part_store.specs.Shelves.{kept_at, lent_at, held_at}
use Rattle.part_store.specs.Store.{Stored, KeepsBoth, kept_in}
use Rattle.log_levels.specs.Slots.{Slots}
use Rattle.log_levels.specs.Levels.{live_items, all_items, weight_of, waiting_of}
use Rattle.log_levels.specs.Trades.{used_at, built_at, due_at, wanted_at, IsQuiet as StaysQuiet}
use Rattle.log_method.specs.Stack.{Stacked}
use Rattle.log_method.specs.Retired.{used_of}
use Rattle.chain_walk.specs.Walk.{Walked as Shadow, IsWalkOf as IsShadowOf, HandsOver, live_in, asked_of}
use Rattle.chain_walk.specs.Memory.{HoldsNoLess}
use Rattle.global_rebuild.specs.Memory.{FreesOneOf}

-- An index: the store that has all its memory; the stack that answers; the shadow, while a rebuild runs; and what is left of the stacks that earlier
-- rebuilds put out of use, oldest first.
pub record Indexed (P Item : Type 0) : Type 0 where
  pub store : Stored
  pub main : Stacked P Item
  pub shadow : Option (Shadow P Item)
  pub retired : List (Stacked P Item)

-- how many items are left after a walk by four, which ends the rebuild where none is
abbrev pub walked_on : Option ℕ → Option ℕ
walked_on None = None
walked_on (Some w) = if nat_le w 4 then None else Some (w - 4)

module _ {P Item : Type 0} where
  -- how much the main stack and the shadow have of something
  abbrev pub in_both : (List (Slots P Item) → ℕ) → Stacked P Item → Option (Shadow P Item) → ℕ
  in_both count main shadow = count main.levels + option_map_or (λ r. count r.stack.levels) shadow 0

  -- how much stacks have that are out of use
  abbrev pub in_retired : (List (Slots P Item) → ℕ) → List (Stacked P Item) → ℕ
  in_retired count retired = sum_by (λ s. count s.levels) retired

  -- how many parts of retired stacks are still in memory
  abbrev pub retired_parts : Indexed P Item → ℕ
  retired_parts i = in_retired used_of i.retired

  -- All that is lent is had by main stack, shadow or retired stacks, and they have no more. Of each level the store keeps, and the two stacks have,
  -- ten builders together at most.
  --
  -- Of one stack these are five, with those that it may want. Over a thousand lists of updates, at random and in bursts, with memory refused in many,
  -- both stacks together had and wanted ten builders of a level at once, and the tables of four constructions, and no more; of retired stacks one at
  -- most was left, of thirty parts at most, which came back before the next rebuild began. So ten are never too few in steady churn: there memory is
  -- what is in use at its peak, nothing is freed, and from the third rebuild on nothing is taken where the oldest or the newest item is dropped each
  -- time; where any one is, now and then a room, as the peak differs. A layer that went from 65,536 items to ten has memory for 377 then, and for 185
  -- a hundred updates later.
  --
  -- Each move keeps it. What a tick takes is kept no longer; a swap lowers the sum; memory is taken only where a stack wants more than is kept. Only a
  -- retired part that comes back raises it, by one: where it is then the eleventh, one is freed at once. What is kept of the retired stacks' own parts
  -- isn't in the sum, so that it holds before they come back.
  pub record OwnsMemory (i : Indexed P Item) : Type 0 where
    pub lent : (k : ℕ) → lent_at k i.store.builders ≡ in_both (used_at k) i.main i.shadow + in_retired (used_at k) i.retired
    pub lent_tables : (k : ℕ) → lent_at k i.store.tables ≡ in_both (built_at k) i.main i.shadow + in_retired (built_at k) i.retired
    pub few : (k : ℕ) → kept_at k i.store.builders + in_both (used_at k) i.main i.shadow ≤ 10

  -- of each level as much is in memory, lent or not, and no stack that is out of use gave anything back
  pub record HoldsAsMuch (old new : Indexed P Item) : Type 0 where
    pub store : KeepsBoth old.store new.store
    pub retired : new.retired ≡ old.retired

  -- so many ticks of both stacks find in a store what they may take
  pub record AreStocked (ticks : ℕ) (main : Stacked P Item) (shadow : Option (Shadow P Item)) (store : Stored) : Type 0 where
    pub builders : (k : ℕ) → in_both (wanted_at ticks k) main shadow ≤ kept_at k store.builders
    pub tables : (k : ℕ) → in_both (due_at ticks k) main shadow ≤ kept_at k store.tables
    pub quiet : StaysQuiet ticks main.levels
    pub quiet_too : (r : Shadow P Item) → shadow ≡ Some r → StaysQuiet ticks r.stack.levels

-- the weight of the shadow, 0 where none is being made
abbrev pub shadow_weight : {P Item : Type 0} → Indexed P Item → ℕ
shadow_weight i = option_map_or (λ r. weight_of r.stack.levels) i.shadow 0

-- the items that wait to be marked, in the constructions of either stack
abbrev pub waiting_of_both : {P Item : Type 0} → Indexed P Item → ℕ
waiting_of_both i = waiting_of i.main.levels + option_map_or (λ r. waiting_of r.stack.levels) i.shadow 0

module _ {P Item : Type 0} (contents : P → Contents Item) where
  -- how much of the weight is dead
  abbrev pub dead_in : Stacked P Item → ℕ
  dead_in s = weight_of s.levels - live_in contents s

  -- how many items the walk hasn't come by, while a rebuild runs
  abbrev pub unwalked : Indexed P Item → Option ℕ
  unwalked i = option_map (λ r. live_in contents i.main - live_in contents r.stack) i.shadow

  -- the same, and 0 where none runs
  abbrev pub to_walk : Indexed P Item → ℕ
  to_walk i = option_map_or (λ r. live_in contents i.main - live_in contents r.stack) i.shadow 0

  -- the weights of the two stacks after a walk by four: the shadow weighs as much more as items were handed over, and is the main stack
  -- where it has all
  abbrev pub main_weight_on : Indexed P Item → ℕ
  main_weight_on i = option_map_or (λ w. if nat_le w 4 then shadow_weight i + w else weight_of i.main.levels) (unwalked i) (weight_of i.main.levels)

  abbrev pub shadow_weight_on : Indexed P Item → ℕ
  shadow_weight_on i = option_map_or (λ w. if nat_le w 4 then 0 else shadow_weight i + 4) (unwalked i) 0

  -- how many parts of retired stacks are in memory then, of which one is given back
  abbrev pub retired_parts_on : Indexed P Item → ℕ
  retired_parts_on i =
      option_map_or (λ w. if nat_le w 4 then used_of i.main.levels + retired_parts i else retired_parts i) (unwalked i) (retired_parts i) - 1

  -- what a preparation makes of a walk and of the weights: the walk goes on by four, and ends the rebuild where it comes by all
  pub record IsWalkedOn (old new : Indexed P Item) : Type 0 where
    pub walked : unwalked new ≡ walked_on (unwalked old)
    pub weight : weight_of new.main.levels ≡ main_weight_on old
    pub shadow_weight : shadow_weight new ≡ shadow_weight_on old
    pub retired : retired_parts new ≡ retired_parts_on old

  -- a walk that pauses: some items were handed over, so many at most, memory may have been taken, and nothing else changed
  pub record HasPaused (most : ℕ) (old new : Indexed P Item) : Type 0 where
    pub main : new.main ≡ old.main
    pub retired : new.retired ≡ old.retired
    pub no_less : HoldsNoLess old.store new.store
    pub none : old.shadow ≡ None → new.shadow ≡ None
    pub going : (r : Shadow P Item) → old.shadow ≡ Some r → (r' : Shadow P Item) × (new.shadow ≡ Some r') × HandsOver contents most r r'

  -- memory of a level may be freed: as much is there as both stacks may have at once, or the level is above the greatest of an index of its size
  pub data IsSpare (level : ℕ) (main : Stacked P Item) (shadow : Option (Shadow P Item)) (store : Stored) : Type 0 where
    enough : 10 ≤ kept_at level store.builders + in_both (used_at level) main shadow → IsSpare level main shadow store
    too_high : 2 * live_in contents main + 10 < 2 ^ level → IsSpare level main shadow store

  -- of each level no less is in memory; or a builder or tables of one level were freed, which were spare
  pub data FreesOne (old : Stored) (main : Stacked P Item) (shadow : Option (Shadow P Item)) (new : Stored) : Type 0 where
    none : HoldsNoLess old new → FreesOne old main shadow new
    one : (level : ℕ) → FreesOneOf level old new → IsSpare level main shadow new → FreesOne old main shadow new

  -- nothing is kept of a level above the greatest of an index of its size, unless of it or of a higher one some may be taken by two ticks
  abbrev pub IsCleared : Stacked P Item → Option (Shadow P Item) → Stored → Type 0
  IsCleared main shadow store = (k : ℕ) → 2 * live_in contents main + 10 < 2 ^ k
      → (kept_in k store ≡ 0) ⊎ ((j : ℕ) × (k ≤ j) × (0 < in_both (wanted_at 2 j) main shadow))

  -- a builder of a level less is in memory, or the tables of a construction less; or no such level has any left
  pub data Clears (old : Stored) (main : Stacked P Item) (shadow : Option (Shadow P Item)) (new : Stored) : Type 0 where
    fewer : (level : ℕ) → held_at level new.builders < held_at level old.builders → Clears old main shadow new
    fewer_tables : (level : ℕ) → held_at level new.tables < held_at level old.tables → Clears old main shadow new
    cleared : IsCleared main shadow new → Clears old main shadow new

  -- more of a stack's weight is dead than half of what is live, and eight
  abbrev pub is_heavy : Stacked P Item → Bool
  is_heavy main = nat_lt (live_in contents main + 16) (2 * dead_in main)

  -- the rebuild is in time, with so many ticks more than it needs
  pub record IsInTime (ahead : ℕ) (main : Stacked P Item) (r : Shadow P Item) : Type 0 where
    pub few : live_in contents r.stack ≤ live_in contents main
    pub main_light : 2 * dead_in main + (live_in contents main - live_in contents r.stack) + ahead ≤ 2 * live_in contents main + 19
    pub shadow_light : 3 * dead_in r.stack + (live_in contents main - live_in contents r.stack) + ahead ≤ live_in contents main

  -- no rebuild runs, and little is dead
  abbrev pub IsQuiet : Stacked P Item → Type 0
  IsQuiet main = 2 * dead_in main ≤ live_in contents main + 16

  -- an index that is ready for an update: memory is there for a delete and an insert, and while a rebuild runs it is four items ahead, and some are left
  pub record IsPrepared (i : Indexed P Item) : Type 0 where
    pub stocked : AreStocked 2 i.main i.shadow i.store
    pub shadow : (r : Shadow P Item) → i.shadow ≡ Some r → IsInTime 4 i.main r × (1 ≤ live_in contents i.main - live_in contents r.stack)

  -- What holds of an index between any two calls: the inequalities at the head of src/lib.rt.
  pub record IsIndex (i : Indexed P Item) : Type 0 where
    pub quiet : i.shadow ≡ None → IsQuiet i.main
    pub in_time : (r : Shadow P Item) → i.shadow ≡ Some r → IsInTime 0 i.main r
    pub left : All (λ s. 0 < used_of s.levels) i.retired
    pub memory : OwnsMemory i

  module _ (stamp : Item → ℕ) where
    -- what a delete asks of both stacks: of the shadow where the item was handed over, since it stands before the cursor
    abbrev pub asked_of_both : (Item → Item → Bool) → Item → ℕ → List (Entry Item) → Indexed P Item → ℕ
    asked_of_both first x handle es i = asked_of contents stamp first x i.main
        + option_map_or (λ r. if is_linked handle (before_cursor r.cursor es) then asked_of contents stamp first x r.stack else 0) i.shadow 0

    -- The index is that of the items of a chain, whose stamps rise: these are live in the main stack, and those before the cursor in the shadow. The
    -- stamps of all its items, dead ones included, are below a number.
    pub record IsIndexOf (i : Indexed P Item) (es : List (Entry Item)) (stamps : ℕ) : Type 0 where
      pub live : Permuted (live_items contents i.main.levels) (map (λ e. e.item) es)
      pub below : All (λ x. stamp x < stamps) (all_items contents i.main.levels)
      pub shadow : (r : Shadow P Item) → i.shadow ≡ Some r → IsShadowOf contents stamp r es stamps
      pub rise : StampsRise stamp 0 es stamps
      pub differ : HandlesDiffer es
      pub few : length es < 2 ^ 29
