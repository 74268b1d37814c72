-- What contracts see of levels one above the other, lowest first.
use Rattle.std.specs.Prelude.{ℕ, ◌+◌, List, [], ◌∷◌, ◌++◌, if◌then◌else◌, length, sum_by}
use Rattle.builder_trait.specs.Builders.{PartProfile}
use Rattle.builder_trait.specs.Parts.{Contents, has_stamp}
use Rattle.log_levels.specs.Slots.{Slots, waiting_in, left_in, due_in, saved_in, weight_in, live_in, items_in, asked_in}

module _ {P Item : Type 0} where
  -- the weight of levels: 2 ^ i for each complete part of level i
  abbrev pub weight_of : List (Slots P Item) → ℕ
  weight_of [] = 0
  weight_of (l ∷ above) = weight_in l + weight_of above

  -- the items that wait to be marked in the parts under construction
  abbrev pub waiting_of : List (Slots P Item) → ℕ
  waiting_of [] = 0
  waiting_of (l ∷ above) = waiting_in l + waiting_of above

  -- the turns that are left of the constructions
  abbrev pub left_of : PartProfile Item → List (Slots P Item) → ℕ
  left_of profile [] = 0
  left_of profile (l ∷ above) = left_in profile l + left_of profile above

  -- the turns that are due of the constructions
  abbrev pub due_of : PartProfile Item → (old new : List (Slots P Item)) → ℕ
  due_of profile [] new = 0
  due_of profile (l ∷ old) [] = 0
  due_of profile (l ∷ old) (l' ∷ new) = due_in profile l l' + due_of profile old new

  -- the turns that a tick saves of the constructions
  abbrev pub saved_of : PartProfile Item → (old new : List (Slots P Item)) → ℕ
  saved_of profile [] new = 0
  saved_of profile (l ∷ old) [] = 0
  saved_of profile (l ∷ old) (l' ∷ new) = saved_in profile l l' + saved_of profile old new

  -- how many complete parts there are
  abbrev pub parts_of : List (Slots P Item) → ℕ
  parts_of [] = 0
  parts_of (l ∷ above) = length l.parts + parts_of above

  -- the sum over all complete parts of a number of touches of each
  abbrev pub touches_of : (P → ℕ) → List (Slots P Item) → ℕ
  touches_of touches [] = 0
  touches_of touches (l ∷ above) = touches_of touches above + sum_by touches l.parts

  module _ (contents : P → Contents Item) where
    -- the live items of all complete parts, those of the highest level first
    abbrev pub live_items : List (Slots P Item) → List Item
    live_items [] = []
    live_items (l ∷ above) = live_items above ++ live_in contents l

    -- the items of all complete parts, dead ones included, those of the highest level first
    abbrev pub all_items : List (Slots P Item) → List Item
    all_items [] = []
    all_items (l ∷ above) = all_items above ++ items_in contents l

    -- how many parts are asked for the live item with a stamp, those of the highest level first, up to the one that has it
    abbrev pub parts_asked : (Item → ℕ) → ℕ → List (Slots P Item) → ℕ
    parts_asked stamp s [] = 0
    parts_asked stamp s (l ∷ above) = parts_asked stamp s above
        + (if has_stamp stamp s (live_items above) then 0 else asked_in contents stamp s l.parts)
