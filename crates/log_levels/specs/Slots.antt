-- What contracts see of one level of a stack.
use Rattle.std.specs.Prelude.{◌≡◌, ◌==◌, ℕ, ◌+◌, ◌-◌, ◌*◌, ◌^◌, Bool, List, [], ◌∷◌, ◌++◌, Option, None, if◌then◌else◌, length}
use Rattle.std.specs.List.{flat_map}
use Rattle.std.specs.Option.{option_map, option_map_or}
use Rattle.query_laws.specs.Permuted.{Permuted}
use Rattle.builder_trait.specs.Parts.{Contents, has_stamp, live_of}
use Rattle.builder_trait.specs.Builders.{PartProfile}
use Rattle.ordered_merge.specs.Merging.{is_passed}
use Rattle.partial_build.specs.Construction.{Construction, read_of, turns_left}
use Rattle.partial_build.specs.Quota.{quota}
use Rattle.part_store.specs.Shelves.{one_if}

-- A level: its complete parts, oldest first; and the construction of its next part, which is made of the two oldest parts of the level below.
pub record Slots (P Item : Type 0) : Type 0 where
  pub level : ℕ
  pub parts : List P
  pub construction : Option (Construction Item)

-- every item of the first list is one of the second, and none more often
abbrev pub IsPartOf : {Item : Type 0} → List Item → List Item → Type 0
IsPartOf {Item} xs ys = (others : List Item) × Permuted (xs ++ others) ys

module _ {Item : Type 0} where
  -- the most turns that the builder of a construction may have once the part is sealed
  abbrev pub most_turns : PartProfile Item → Construction Item → ℕ
  most_turns profile c = 2 ^ (c.level - 1) * (profile.slope * c.level + profile.base)

  -- the same, and 0 where it is sealed
  abbrev pub open_turns : PartProfile Item → Construction Item → ℕ
  open_turns profile c = if c.part.is_sealed then 0 else most_turns profile c

  -- the turns that a construction began with: what was to be read, and the most of its builder; 0 where there was nothing to read
  abbrev pub all_turns : PartProfile Item → Construction Item → ℕ
  all_turns profile c = if c.merge.left + read_of c == 0 then 0 else c.merge.left + read_of c + most_turns profile c

  -- how many of these a tick saves: where it seals the part, all but one for each item; none before; and all where the construction is gone
  abbrev pub saved_by : ℕ → Option (Construction Item) → ℕ
  saved_by turns now = option_map_or (λ c. if c.part.is_sealed then turns - length c.part.contents.items else 0) now turns

module _ {P Item : Type 0} where
  -- the ticks done of the construction into a level, 0 where none runs
  abbrev pub ticks_of : Slots P Item → ℕ
  ticks_of l = option_map_or (λ c. c.ticks) l.construction 0

  -- the same, where one runs
  abbrev pub clock_of : Slots P Item → Option ℕ
  clock_of l = option_map (λ c. c.ticks) l.construction

  -- the items that wait to be marked in the construction into a level, 0 where none runs
  abbrev pub waiting_in : Slots P Item → ℕ
  waiting_in l = option_map_or (λ c. length c.waiting) l.construction 0

  -- 1 where the construction into a level has read an item, which waits there once it dies, and 0 where it hasn't
  abbrev pub read_by : (Item → Item → Bool) → Item → Slots P Item → ℕ
  read_by before x l = option_map_or (λ c. one_if (is_passed before c.merge.reached x)) l.construction 0

  -- the turns that a tick may take of the construction into a level: those that it has left, and a quota where it begins
  abbrev pub turns_to_go : PartProfile Item → Slots P Item → ℕ
  turns_to_go profile l = option_map_or (turns_left profile) l.construction (quota profile.slope profile.base l.level)

  -- the construction into a level, but for the items that wait
  abbrev pub work_of : Slots P Item → Option (Construction Item)
  work_of l = option_map (λ (c : Construction Item). record c { waiting = [] }) l.construction

  -- the turns that are left of the construction into a level, 0 where none runs
  abbrev pub left_in : PartProfile Item → Slots P Item → ℕ
  left_in profile l = option_map_or (turns_left profile) l.construction 0

  -- the turns that are due of the construction into a level: those that are left of one that runs, and all of one that begins
  abbrev pub due_in : PartProfile Item → (old new : Slots P Item) → ℕ
  due_in profile old new = option_map_or (turns_left profile) old.construction (option_map_or (all_turns profile) new.construction 0)

  -- the turns that a tick saves of such a construction
  abbrev pub saved_in : PartProfile Item → (old new : Slots P Item) → ℕ
  saved_in profile old new =
      saved_by (option_map_or (open_turns profile) old.construction (option_map_or (most_turns profile) new.construction 0)) new.construction

  -- a part of level i weighs 2^i
  abbrev pub weight_in : Slots P Item → ℕ
  weight_in l = length l.parts * 2 ^ l.level

  -- the level has neither a complete part nor a construction
  pub record IsIdle (l : Slots P Item) : Type 0 where
    pub no_parts : l.parts ≡ []
    pub no_construction : l.construction ≡ None

  module _ (contents : P → Contents Item) where
    -- the live items of a level's complete parts
    abbrev pub live_in : Slots P Item → List Item
    live_in l = flat_map (λ p. live_of (contents p)) l.parts

    -- the items of a level's complete parts, dead ones included
    abbrev pub items_in : Slots P Item → List Item
    items_in l = flat_map (λ p. (contents p).items) l.parts

    -- how many parts are asked for the live item with a stamp, up to the one that has it
    abbrev pub asked_in : (Item → ℕ) → ℕ → List P → ℕ
    asked_in stamp s [] = 0
    asked_in stamp s (p ∷ ps) = 1 + (if has_stamp stamp s (live_of (contents p)) then 0 else asked_in stamp s ps)
