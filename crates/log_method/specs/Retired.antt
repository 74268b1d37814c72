-- Memory of a stack that is given back part by part, those of the highest level first.
use Rattle.std.specs.Prelude.{◌≡◌, ℕ, ◌+◌, ◌-◌, ◌<◌, ◌==◌, List, [], ◌∷◌, if◌then◌else◌, nat_lt}
use Rattle.part_store.specs.Shelves.{one_if}
use Rattle.log_levels.specs.Slots.{Slots}
use Rattle.log_levels.specs.Trades.{used_in, used_at}

module _ {P Item : Type 0} where
  -- how many parts levels have, those under construction too
  abbrev pub used_of : List (Slots P Item) → ℕ
  used_of [] = 0
  used_of (l ∷ above) = used_in l + used_of above

  -- the highest level that has a part, or one under construction; 0 where none has
  abbrev pub top_of : List (Slots P Item) → ℕ
  top_of [] = 0
  top_of (l ∷ above) = if nat_lt 0 (used_of above) then top_of above else l.level

  -- one part less is left, if any was: one of the highest level
  pub record GivesOneBack (old new : List (Slots P Item)) : Type 0 where
    pub one : used_of new ≡ used_of old - 1
    pub at : 0 < used_of old → (k : ℕ) → used_at k new + one_if (k == top_of old) ≡ used_at k old
