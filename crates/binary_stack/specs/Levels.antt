-- What contracts see of the levels of a binary counter of parts, lowest first: each has a part or none.
use Rattle.std.specs.Prelude.{◌≡◌, ℕ, ◌+◌, ◌*◌, ◌^◌, ◌≤◌, Option, Some, None, List, [], ◌∷◌, ◌++◌, All, length}
use Rattle.query_laws.specs.Permuted.{Permuted}
use Rattle.builder_trait.specs.Parts.{Contents, without, live_of}

-- every item of the first list is one of the second, and none more often
abbrev pub IsPartOf : {Item : Type 0} → List Item → List Item → Type 0
IsPartOf {Item} xs ys = (others : List Item) × Permuted (xs ++ others) ys

module _ {P : Type 0} where
  -- how many parts a level has: one or none
  abbrev pub parts_in : Option P → ℕ
  parts_in None = 0
  parts_in (Some p) = 1

  -- how many parts levels have
  abbrev pub parts_of : List (Option P) → ℕ
  parts_of [] = 0
  parts_of (l ∷ above) = parts_in l + parts_of above

  -- the weight of levels, 2 ^ i for the part of level i: so level i has a part exactly where the weight has a one in binary
  abbrev pub weight_of : List (Option P) → ℕ
  weight_of [] = 0
  weight_of (l ∷ above) = parts_in l + 2 * weight_of above

  -- a number of touches of a level's part, if it has one
  abbrev pub touches_in : (P → ℕ) → Option P → ℕ
  touches_in touches None = 0
  touches_in touches (Some p) = touches p

  -- the sum over all parts of a number of touches of each
  abbrev pub touches_of : (P → ℕ) → List (Option P) → ℕ
  touches_of touches [] = 0
  touches_of touches (l ∷ above) = touches_in touches l + touches_of touches above

  -- levels with one more part on top, if there is one
  abbrev pub raised : Option P → List (Option P) → List (Option P)
  raised None levels = levels
  raised (Some p) levels = levels ++ Some p ∷ []

module _ {P Item : Type 0} (contents : P → Contents Item) where
  -- the live items of a level's part, if it has one
  abbrev pub live_in : Option P → List Item
  live_in None = []
  live_in (Some p) = live_of (contents p)

  -- the items of a level's part, dead ones included
  abbrev pub items_in : Option P → List Item
  items_in None = []
  items_in (Some p) = (contents p).items

  -- the live items of all parts, those of the lowest level first
  abbrev pub live_items : List (Option P) → List Item
  live_items [] = []
  live_items (l ∷ above) = live_in l ++ live_items above

  -- the items of all parts, dead ones included, those of the lowest level first
  abbrev pub all_items : List (Option P) → List Item
  all_items [] = []
  all_items (l ∷ above) = items_in l ++ all_items above

  -- no part has more than so many items, dead ones included
  abbrev pub HaveAtMost : ℕ → List (Option P) → Type 0
  HaveAtMost n levels = All (λ l. length (items_in l) ≤ n) levels

  -- of these levels, the lowest of which is level i, each has no more items than its weight
  abbrev pub AreLevels : ℕ → List (Option P) → Type 0
  AreLevels i [] = Unit {0}
  AreLevels i (l ∷ above) = (length (items_in l) ≤ 2 ^ i) × AreLevels (i + 1) above

  -- Some items were taken in, and the weight is one more: they live beside all that lived. No part has other items, and none has more than live in all,
  -- or than one had before.
  pub record IsTakenIn (xs : List Item) (old new : List (Option P)) : Type 0 where
    pub live : Permuted (live_items new) (xs ++ live_items old)
    pub items : IsPartOf (all_items new) (xs ++ all_items old)
    pub weight : weight_of new ≡ weight_of old + 1
    pub levels : (i : ℕ) → length xs ≤ 2 ^ i → AreLevels i old → AreLevels i new
    pub sizes : (m : ℕ) → length (xs ++ live_items old) ≤ m → HaveAtMost m old → HaveAtMost m new

  -- an item was carried past the highest of some levels, or stays in one: each of them had a part where it was carried past
  pub record IsCarried (xs : List Item) (old : List (Option P)) (top : Option P) (new : List (Option P)) : Type 0 where
    pub taken_in : IsTakenIn xs old (raised top new)
    pub as_many : length new ≡ length old
    pub full : (p : P) → top ≡ Some p → weight_of old + 1 ≡ 2 ^ length old

  -- a level has a part where it had one, of the same items, no more of which live
  pub record IsSameLevel (old new : Option P) : Type 0 where
    pub parts : parts_in new ≡ parts_in old
    pub items : items_in new ≡ items_in old
    pub live : length (live_in new) ≤ length (live_in old)

  -- the same of each level
  abbrev pub AreSameLevels : List (Option P) → List (Option P) → Type 0
  AreSameLevels [] [] = Unit {0}
  AreSameLevels [] (l' ∷ new) = ⊥
  AreSameLevels (l ∷ old) [] = ⊥
  AreSameLevels (l ∷ old) (l' ∷ new) = IsSameLevel l l' × AreSameLevels old new

  -- the item with a stamp isn't live any more; the parts have the items that they had, dead ones included
  pub record AreMarked (stamp : Item → ℕ) (dead : ℕ) (old new : List (Option P)) : Type 0 where
    pub live : live_items new ≡ without stamp dead (live_items old)
    pub same : AreSameLevels old new
