-- The clocks of levels one above the other.
use Rattle.std.specs.Prelude.{◌≡◌, ◌<◌, List, [], ◌∷◌, ◌++◌, All, None, length}
use Rattle.query_laws.specs.Permuted.{Permuted}
use Rattle.builder_trait.specs.Builders.{PartProfile}
use Rattle.builder_trait.specs.Parts.{Contents}
use Rattle.log_levels.specs.Slots.{Slots, IsPartOf, clock_of}
use Rattle.log_levels.specs.Levels.{weight_of, live_items, all_items}
use Rattle.log_levels.specs.Neighbours.{IsBelow, IsPunctual, TakesTick}

module _ {P Item : Type 0} where
  module _ (contents : P → Contents Item) (profile : PartProfile Item) where
    -- the levels between two ticks: above the last one there is no construction
    abbrev pub IsTower : Slots P Item → List (Slots P Item) → Type 0
    IsTower lower [] = length lower.parts < 2
    IsTower lower (next ∷ above) = IsBelow contents profile 1 lower next × IsTower next above

    -- the levels within a tick that the lowest of these has taken, and the others haven't
    abbrev pub IsHalfway : Slots P Item → List (Slots P Item) → Type 0
    IsHalfway lower [] = length lower.parts < 2
    IsHalfway lower (next ∷ above) = IsBelow contents profile 0 lower next × IsTower next above

    -- levels between two ticks, from any one up
    abbrev pub AreLevels : List (Slots P Item) → Type 0
    AreLevels [] = Unit {0}
    AreLevels (lower ∷ above) = IsTower lower above

    -- the levels of a stack: the lowest one is level 0, and no construction is made into it
    abbrev pub AreAllLevels : List (Slots P Item) → Type 0
    AreAllLevels [] = Unit {0}
    AreAllLevels (lowest ∷ above) = (lowest.level ≡ 0) × (lowest.construction ≡ None) × IsTower lowest above

    -- the levels of a stack within a tick that level 0 has taken
    abbrev pub AreHalfway : List (Slots P Item) → Type 0
    AreHalfway [] = ⊥
    AreHalfway (lowest ∷ above) = (lowest.level ≡ 0) × (lowest.construction ≡ None) × IsHalfway lowest above

    -- the levels of a stack, each of which takes its next tick in time
    pub record AreOnTime (all : List (Slots P Item)) : Type 0 where
      pub levels : AreAllLevels all
      pub punctual : All (IsPunctual profile) all

  -- Each level takes exactly one tick: its construction goes on by one, ends with its last, or begins with its first, or none runs.
  abbrev pub TakeTicks : List (Slots P Item) → List (Slots P Item) → Type 0
  TakeTicks [] new = new ≡ []
  TakeTicks (l ∷ old) [] = ⊥
  TakeTicks (l ∷ old) (l' ∷ new) = TakesTick l.level (clock_of l) (clock_of l') × TakeTicks old new

module _ {P Item : Type 0} (contents : P → Contents Item) where
  -- what a tick leaves of levels: the same items live, no item is new, and the weight is as it was
  pub record AreTicked (old new : List (Slots P Item)) : Type 0 where
    pub live : Permuted (live_items contents new) (live_items contents old)
    pub items : IsPartOf (all_items contents new) (all_items contents old)
    pub weight : weight_of new ≡ weight_of old

module _ {P Item : Type 0} where
  -- a part has arrived at the lowest level
  abbrev pub Arrives : P → List (Slots P Item) → List (Slots P Item) → Type 0
  Arrives part [] new = ⊥
  Arrives part (lowest ∷ above) new = new ≡ record lowest { parts = lowest.parts ++ part ∷ [] } ∷ above
