-- Rooms for the parts that the next insert builds.
use Rattle.std.specs.Prelude.{ℕ, ◌+◌, ◌-◌, ◌^◌, ◌≤◌, Option, Some, None, List, [], ◌∷◌, min, length}
use Rattle.builder_trait.specs.Parts.{Contents, live_of}

-- no room is for a higher level than that above its own
abbrev pub AreWithin : ℕ → List ℕ → Type 0
AreWithin level [] = Unit {0}
AreWithin level (size ∷ rooms) = (size ≤ level + 1) × AreWithin (level + 1) rooms

module _ {P Item : Type 0} (contents : P → Contents Item) where
  -- a room of this size takes the part of a level, and the one that is carried there: so many items, or 2 ^ 30 where they are more
  pub record IsRoomFor (carried size : ℕ) (part : P) : Type 0 where
    pub fits : length (contents part).items ≤ 2 ^ (size - 1)
    pub carried_fits : min carried (2 ^ 30) ≤ 2 ^ (size - 1)

  -- up to the lowest level without a part each level has its room, where so many items are carried to the lowest
  abbrev pub HaveRooms : ℕ → List (Option P) → List ℕ → Type 0
  HaveRooms carried [] rooms = Unit {0}
  HaveRooms carried (None ∷ above) rooms = Unit {0}
  HaveRooms carried (Some p ∷ above) [] = ⊥
  HaveRooms carried (Some p ∷ above) (size ∷ rooms) =
      IsRoomFor carried size p × HaveRooms (carried + length (live_of (contents p))) above rooms
