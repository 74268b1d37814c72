-- An item that is marked as dead, in parts and levels.
use Rattle.std.specs.Prelude.{◌≡◌, ℕ, ◌+◌, Bool, Option, Some, None, List, [], ◌∷◌, true, false, if◌then◌else◌, All, length, map, slice_get, take}
use Rattle.std.specs.List.{flat_map}
use Rattle.std.specs.Option.{option_map}
use Rattle.builder_trait.specs.Parts.{Contents, has_stamp, without, marked, live_of}
use Rattle.log_levels.specs.Slots.{Slots, work_of, live_in, items_in, read_by}
use Rattle.log_levels.specs.Levels.{waiting_of, weight_of, live_items, all_items}

module _ {Item : Type 0} where
  -- the item is live in a part
  abbrev pub IsLiveIn : Contents Item → Item → Type 0
  IsLiveIn part x = (k : ℕ) × (slice_get part.items k ≡ Some x) × (slice_get part.flags k ≡ Some true)

  -- no item with the stamp is live in a part
  abbrev pub Lacks : (Item → ℕ) → ℕ → Contents Item → Type 0
  Lacks stamp s part = has_stamp stamp s (live_of part) ≡ false

module _ {P Item : Type 0} where
  -- parts are asked one by one to mark an item as dead, up to the one in which it lives, whose place this is
  pub data AreMarkedAt (contents : P → Contents Item) (stamp : Item → ℕ) (x : Item) : Option ℕ → List P → List P → Type 0 where
    nowhere : AreMarkedAt contents stamp x None [] []
    here : (p p' : P) (ps : List P) → IsLiveIn (contents p) x → contents p' ≡ marked stamp (stamp x) (contents p)
        → All (λ q. Lacks stamp (stamp x) (contents q)) ps → AreMarkedAt contents stamp x (Some 0) (p ∷ ps) (p' ∷ ps)
    later : (place : Option ℕ) (p p' : P) (ps ps' : List P) → Lacks stamp (stamp x) (contents p)
        → contents p' ≡ marked stamp (stamp x) (contents p) → AreMarkedAt contents stamp x place ps ps'
        → AreMarkedAt contents stamp x (option_map (λ k. k + 1) place) (p ∷ ps) (p' ∷ ps')

  -- levels are as they were, but that an item was noted in the construction into the lowest one
  abbrev pub AreNoted : List (Slots P Item) → List (Slots P Item) → Type 0
  AreNoted [] new = new ≡ []
  AreNoted (l ∷ above) new = (l' : Slots P Item) × (new ≡ l' ∷ above) × (l' ≡ record l { construction = l'.construction })
      × (work_of l' ≡ work_of l)

  -- the lowest level is as it was, but for its parts
  abbrev pub IsSameBelow : List (Slots P Item) → List (Slots P Item) → Type 0
  IsSameBelow [] new = new ≡ []
  IsSameBelow (l ∷ above) new = (l' : Slots P Item) × (above' : List (Slots P Item)) × (new ≡ l' ∷ above') × (l' ≡ record l { parts = l'.parts })

  module _ (before : Item → Item → Bool) (x : Item) where
    -- 1 where the construction into the lowest level has read an item
    abbrev pub read_into : List (Slots P Item) → ℕ
    read_into [] = 0
    read_into (l ∷ above) = read_by before x l

    module _ (contents : P → Contents Item) (stamp : Item → ℕ) where
      -- 1 where the item lives in one of a level's two oldest parts and the construction into the level above has read it
      abbrev pub noted_above : Slots P Item → List (Slots P Item) → ℕ
      noted_above l above = if has_stamp stamp (stamp x) (flat_map (λ p. live_of (contents p)) (take 2 l.parts)) then read_into above else 0

      -- In how many constructions a live item comes to wait where it dies: one at most, since only the two oldest parts of a level are read, and by
      -- the construction into the level above.
      abbrev pub noted : List (Slots P Item) → ℕ
      noted [] = 0
      noted (l ∷ above) = noted above + noted_above l above

  module _ (contents : P → Contents Item) (stamp : Item → ℕ) (dead : ℕ) where
    -- the level is as it was, but that the item with a stamp isn't live
    pub record IsMarked (old new : Slots P Item) : Type 0 where
      pub same : new ≡ record old { parts = new.parts }
      pub live : live_in contents new ≡ without stamp dead (live_in contents old)
      pub items : items_in contents new ≡ items_in contents old
      pub as_many : length new.parts ≡ length old.parts

    -- the item with a stamp isn't live in any of the levels; they have the same items, as many parts each and the same weight, and the constructions
    -- are as they were, but that so many items more wait
    pub record AreMarked (more : ℕ) (old new : List (Slots P Item)) : Type 0 where
      pub live : live_items contents new ≡ without stamp dead (live_items contents old)
      pub items : all_items contents new ≡ all_items contents old
      pub weight : weight_of new ≡ weight_of old
      pub as_many : map (λ l. length l.parts) new ≡ map (λ l. length l.parts) old
      pub numbers : map (λ l. l.level) new ≡ map (λ l. l.level) old
      pub work : map work_of new ≡ map work_of old
      pub waiting : waiting_of new ≡ waiting_of old + more
