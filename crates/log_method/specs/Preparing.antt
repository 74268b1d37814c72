-- What a preparation keeps, and what it makes ready.
use Rattle.std.specs.Prelude.{◌≡◌, ℕ, ◌+◌, ◌-◌, ◌^◌, ◌<◌, ◌≤◌, List, [], ◌∷◌, ◌++◌, All, if◌then◌else◌, length, max}
use Rattle.builder_trait.specs.Builders.{PartProfile}
use Rattle.builder_trait.specs.Parts.{Contents}
use Rattle.part_store.specs.Shelves.{Shelved, kept_at, lent_at, held_at}
use Rattle.part_store.specs.Store.{Stored, HasRooms, tables_for}
use Rattle.log_levels.specs.Slots.{Slots, IsIdle}
use Rattle.log_levels.specs.Neighbours.{IsPunctual}
use Rattle.log_levels.specs.Towers.{AreAllLevels}
use Rattle.log_levels.specs.Trades.{used_at, built_at, is_due, due_at, IsQuiet}
use Rattle.log_method.specs.Stack.{Stacked, HaveSameItems}

-- of each level no more is taken than is wanted there beyond what was kept, and nothing else changes
pub record AreTaken (wanted : ℕ → ℕ) (old new : List Shelved) : Type 0 where
  pub lent : (k : ℕ) → lent_at k new ≡ lent_at k old
  pub no_less : (k : ℕ) → kept_at k old ≤ kept_at k new
  pub no_more : (k : ℕ) → kept_at k new ≤ kept_at k old + (wanted k - kept_at k old)

-- the same of builders, and of tables for as many constructions
pub record HasTaken (wanted : ℕ → ℕ) (old new : Stored) : Type 0 where
  pub builders : AreTaken wanted old.builders new.builders
  pub tables : AreTaken (λ k. tables_for k (wanted k)) old.tables new.tables

-- so many constructions into each level below one find their memory
abbrev pub HasRoomsBelow : ℕ → (ℕ → ℕ) → Stored → Type 0
HasRoomsBelow level wanted store = (k : ℕ) → k < level → HasRooms k (wanted k) store

-- of no level more than five builders are in memory, and tables of more than two constructions, lent or not, unless so many were before
pub record HoldsFew (old new : Stored) : Type 0 where
  pub builders : (k : ℕ) → held_at k new.builders ≤ max 5 (held_at k old.builders)
  pub tables : (k : ℕ) → held_at k new.tables ≤ max 2 (held_at k old.tables)

module _ {P Item : Type 0} where
  -- levels are as they were, constructions with their clocks too, and above them there are idle ones
  pub record AreKept (old new : List (Slots P Item)) : Type 0 where
    pub added : List (Slots P Item)
    pub are : new ≡ old ++ added
    pub idle : All IsIdle added

  -- a store lends to some levels alone
  pub record LendsOnly (levels : List (Slots P Item)) (store : Stored) : Type 0 where
    pub builders : (k : ℕ) → lent_at k store.builders ≡ used_at k levels
    pub tables : (k : ℕ) → lent_at k store.tables ≡ built_at k levels

  -- there are levels, above the highest no construction may begin within two ticks, and none of them is into a level from 32 on
  pub record AreEnough (levels : List (Slots P Item)) : Type 0 where
    pub quiet : IsQuiet 2 levels
    pub within : (k : ℕ) → 32 ≤ k → due_at 2 k levels ≡ 0

  -- the weight of the constructions that may begin within two ticks: one into level i weighs 2^i
  abbrev pub forecast_of : List (Slots P Item) → ℕ
  forecast_of [] = 0
  forecast_of (l ∷ above) = (if is_due 2 l then 2 ^ (l.level + 1) else 0) + forecast_of above

  -- the weight of all that two ticks may take, with a builder for each item
  abbrev pub rooms_of : Stacked P Item → ℕ
  rooms_of s = 2 + forecast_of s.levels

  module _ (contents : P → Contents Item) where
    -- levels hold what they held, whatever the structure
    pub record IsKept (old new : List (Slots P Item)) : Type 0 where
      pub each : AreKept old new
      pub same : HaveSameItems contents old new
      pub levels : (profile : PartProfile Item) → AreAllLevels contents profile old → AreAllLevels contents profile new
      pub punctual : (profile : PartProfile Item) → All (IsPunctual profile) old → All (IsPunctual profile) new
      pub few : length old ≤ 32 → length new ≤ 32
