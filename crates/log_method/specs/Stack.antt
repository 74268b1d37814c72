-- What contracts see of a stack, and what holds of it between two ticks.
use Rattle.std.specs.Prelude.{◌≡◌, ℕ, ◌+◌, ◌^◌, ◌<◌, ◌≤◌, List, [], ◌∷◌, All, length}
use Rattle.query_laws.specs.Orders.{AllStampsDiffer}
use Rattle.query_laws.specs.Permuted.{Permuted}
use Rattle.builder_trait.specs.Builders.{PartProfile}
use Rattle.builder_trait.specs.Parts.{Contents, without}
use Rattle.part_store.specs.Store.{Stored}
use Rattle.log_levels.specs.Slots.{Slots, IsPartOf}
use Rattle.log_levels.specs.Levels.{weight_of, live_items, all_items, parts_of}
use Rattle.log_levels.specs.Neighbours.{IsPunctual}
use Rattle.log_levels.specs.Towers.{AreAllLevels, TakeTicks}
use Rattle.log_levels.specs.Trades.{IsStocked, AreLent}

-- a stack: all levels, lowest first
pub record Stacked (P Item : Type 0) : Type 0 where
  pub levels : List (Slots P Item)

module _ {P Item : Type 0} where
  -- each level is at the place of its number, from k on
  abbrev pub AreInPlace : ℕ → List (Slots P Item) → Type 0
  AreInPlace k [] = Unit {0}
  AreInPlace k (l ∷ above) = (l.level ≡ k) × AreInPlace (k + 1) above

  -- levels have the same items, live and dead, in as many parts of the same weight
  pub record HaveSameItems (contents : P → Contents Item) (old new : List (Slots P Item)) : Type 0 where
    pub live : live_items contents new ≡ live_items contents old
    pub items : all_items contents new ≡ all_items contents old
    pub weight : weight_of new ≡ weight_of old
    pub parts : parts_of new ≡ parts_of old

  -- levels may take a tick: they find in a store what it may take, all that they have is lent by it, and they may weigh one more
  pub record MayTick (levels : List (Slots P Item)) (store : Stored) : Type 0 where
    pub stocked : IsStocked levels store 1
    pub lent : AreLent levels store
    pub light : weight_of levels < 2 ^ 31

  -- a tick that inserts an item
  pub record Inserts (contents : P → Contents Item) (item : Item) (old new : List (Slots P Item)) : Type 0 where
    pub live : Permuted (live_items contents new) (item ∷ live_items contents old)
    pub items : IsPartOf (all_items contents new) (item ∷ all_items contents old)
    pub weight : weight_of new ≡ weight_of old + 1
    pub ticks : TakeTicks old new

  -- a tick that deletes the live item with a stamp
  pub record Deletes (contents : P → Contents Item) (stamp_of : Item → ℕ) (stamp : ℕ) (old new : List (Slots P Item)) : Type 0 where
    pub live : Permuted (live_items contents new) (without stamp_of stamp (live_items contents old))
    pub items : IsPartOf (all_items contents new) (all_items contents old)
    pub weight : weight_of new ≡ weight_of old
    pub ticks : TakeTicks old new

  module _ (contents : P → Contents Item) (profile : PartProfile Item) where
    pub record IsStack (s : Stacked P Item) : Type 0 where
      pub levels : AreAllLevels contents profile s.levels
      pub punctual : All (IsPunctual profile) s.levels
      pub apart : AllStampsDiffer profile.stamp (all_items contents s.levels)
      pub light : weight_of s.levels ≤ 2 ^ 31
      pub small : length (all_items contents s.levels) ≤ weight_of s.levels
      pub few : length s.levels ≤ 32
