-- What holds of a level by itself.
use Rattle.std.specs.Prelude.{◌≡◌, ℕ, ◌^◌, ◌<◌, ◌≤◌, List, Option, Some, length, All}
use Rattle.builder_trait.specs.Parts.{Contents}
use Rattle.partial_build.specs.Construction.{Construction}

-- each is one of these, there are at most so many, and there is a place for as many
pub record AreHeld {X : Type 0} (IsOne : X → Type 0) (most : ℕ) (xs : List X) (room : ℕ) : Type 0 where
  pub each : All IsOne xs
  pub few : length xs ≤ most
  pub place : most ≤ room

-- a part of a level, with no more items than that has room for
pub record IsOfLevel {Item : Type 0} (level : ℕ) (part : Contents Item) : Type 0 where
  pub at_level : part.at_level ≡ level
  pub fits : length part.items ≤ 2 ^ level

-- parts and construction are of the level, and there are at most three parts
pub record IsLevel {P Item : Type 0} (contents : P → Contents Item) (level : ℕ) (parts : List P) (parts_room : ℕ)
    (construction : Option (Construction Item)) : Type 0 where
  pub most : level < 32
  pub parts_held : AreHeld (λ p. IsOfLevel level (contents p)) 3 parts parts_room
  pub builds : (c : Construction Item) → construction ≡ Some c → c.level ≡ level
