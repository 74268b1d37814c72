-- Two neighbouring levels, and what runs between them (Overmars and van Leeuwen 1981).
use Rattle.std.specs.Prelude.{◌≡◌, ℕ, ◌+◌, ◌-◌, ◌*◌, ◌^◌, ◌<◌, ◌≤◌, true, List, [], ◌∷◌, ◌++◌, Option, Some, None, length}
use Rattle.query_laws.specs.Permuted.{Permuted}
use Rattle.builder_trait.specs.Builders.{PartProfile}
use Rattle.builder_trait.specs.Parts.{Contents, live_of}
use Rattle.partial_build.specs.Construction.{Construction, Builds, IsOnTime}
use Rattle.log_levels.specs.Slots.{Slots, IsPartOf, ticks_of, clock_of, weight_in, live_in, items_in}
use Rattle.log_levels.specs.Trades.{will_begin}

-- A tick of the construction into a level, by its clock before and after: none runs; one begins, with its first tick; it goes on by exactly one;
-- or that was its last, and it ends.
pub data TakesTick (level : ℕ) (old new : Option ℕ) : Type 0 where
  rests : old ≡ None → new ≡ None → TakesTick level old new
  begins : old ≡ None → new ≡ Some 1 → TakesTick level old new
  goes_on : (n : ℕ) → old ≡ Some n → new ≡ Some (n + 1) → TakesTick level old new
  ends : (n : ℕ) → old ≡ Some n → n + 1 ≡ 2 ^ level → new ≡ None → TakesTick level old new

module _ {P Item : Type 0} where
  -- the construction into the level, if one runs, is on time
  abbrev pub IsPunctual : PartProfile Item → Slots P Item → Type 0
  IsPunctual profile l = (c : Construction Item) → l.construction ≡ Some c → IsOnTime profile c

  -- a level is as it was, but that at most one part arrived, and was the part under construction
  pub data Advances (old new : Slots P Item) : Type 0 where
    stays : new.parts ≡ old.parts → ticks_of new ≤ ticks_of old + 1 → Advances old new
    arrives : (fresh : P) → new.parts ≡ old.parts ++ fresh ∷ [] → ticks_of new ≡ 0 → 2 ^ old.level ≡ ticks_of old + 1 → Advances old new

  module _ (contents : P → Contents Item) where
    -- a part is made of the two oldest ones of the level below, with their live items, and they are gone
    pub record IsPublication (old lower new lower' : Slots P Item) : Type 0 where
      pub fresh : P
      pub first : P
      pub second : P
      pub arrived : new ≡ record old { parts = old.parts ++ fresh ∷ []; construction = None }
      pub retired : lower ≡ record lower' { parts = first ∷ second ∷ lower'.parts }
      pub live : Permuted (live_of (contents fresh)) (live_of (contents first) ++ live_of (contents second))
      pub items : IsPartOf (contents fresh).items ((contents first).items ++ (contents second).items)

    module _ (profile : PartProfile Item) where
      -- what is under construction into a level is made of a and b, as these are now
      abbrev pub IsConstructionOf : P → P → Slots P Item → Type 0
      IsConstructionOf a b l = (c : Construction Item) → l.construction ≡ Some c → Builds profile c (contents a) (contents b)

      -- the construction into the upper level is made of the two oldest parts of the lower one
      abbrev pub IsFed : Slots P Item → Slots P Item → Type 0
      IsFed lower upper = (a b : P) (rest : List P) → lower.parts ≡ a ∷ b ∷ rest → IsConstructionOf a b upper

      -- Two neighbouring levels. Of the upper one's ticks at least so many more are done as there were arrivals below since its
      -- construction began: 1 between two ticks, 0 where the lower level has taken its tick and the upper one hasn't.
      pub record IsBelow (ahead : ℕ) (lower upper : Slots P Item) : Type 0 where
        pub next_level : upper.level ≡ lower.level + 1
        pub few : length lower.parts ≤ 3
        pub idle : length lower.parts < 2 → upper.construction ≡ None
        pub fed : IsFed lower upper
        pub early : ticks_of upper < 2 ^ upper.level
        pub clock : 2 ≤ length lower.parts → (length lower.parts - 2) * 2 ^ lower.level + ticks_of lower + ahead ≤ ticks_of upper

      -- what a visit of a level does to it and to the one below
      pub record IsVisited (old lower new lower' : Slots P Item) : Type 0 where
        pub below : IsBelow 1 lower' new
        pub advances : Advances old new
        pub ticked : TakesTick old.level (clock_of old) (clock_of new)
        pub live : Permuted (live_in contents new ++ live_in contents lower') (live_in contents old ++ live_in contents lower)
        pub items : IsPartOf (items_in contents new ++ items_in contents lower') (items_in contents old ++ items_in contents lower)
        pub weight : weight_in new + weight_in lower' ≡ weight_in old + weight_in lower
        pub stay : will_begin lower old ≡ true → 2 ≤ length lower'.parts
