-- What contracts see of a builder: a part under construction, which takes its items in both orders and then turns.
use Rattle.std.specs.Prelude.{◌≡◌, ℕ, ◌+◌, ◌*◌, ◌^◌, ◌<◌, ◌≤◌, Bool, true, false, IsTrue, List, [], ◌∷◌, ◌++◌, length, map, replicate, All, Some, slice_get}
use Rattle.query_laws.specs.declared.item.Order.{Order}
use Rattle.query_laws.specs.declared.item.Order.TheVariants.{First, Second}
use Rattle.builder_trait.specs.Parts.{Contents, IsRising}

-- A builder between two calls: what was put in the first order; what was put in the second order, with the place that each has in the first
-- order; the level, by which there is room for `2 ^ at_level` items; whether it is sealed; and how many turns are left.
pub record Progress (Item : Type 0) : Type 0 where
  pub items : List Item
  pub reordered : List Item
  pub places : List ℕ
  pub at_level : ℕ
  pub is_sealed : Bool
  pub left : ℕ

module _ {Item : Type 0} where
  -- a builder to which nothing was put
  abbrev pub begun : ℕ → Progress Item
  begun n = record { items = []; reordered = []; places = []; at_level = n; is_sealed = false; left = 0 }

  -- the item stands after each of these
  abbrev pub IsAfter : (Item → Item → Bool) → Item → List Item → Type 0
  IsAfter before item xs = All (λ x. IsTrue (before x item)) xs

  -- the item may be put next in the first order, at this place
  pub record FitsFirst (before : Item → Item → Bool) (b : Progress Item) (item : Item) (at : ℕ) : Type 0 where
    pub room : length b.items < 2 ^ b.at_level
    pub none_reordered : b.reordered ≡ []
    pub next_place : at ≡ length b.items
    pub after : IsAfter before item b.items

  -- the item, which has this place in the first order, may be put next in the second order
  pub record FitsSecond (before : Item → Item → Bool) (b : Progress Item) (item : Item) (at : ℕ) : Type 0 where
    pub at_place : slice_get b.items at ≡ Some item
    pub after : IsAfter before item b.reordered

  -- a builder with one more item in an order
  abbrev pub with_put : Order → Item → ℕ → Progress Item → Progress Item
  with_put First item at b = record b { items = b.items ++ item ∷ [] }
  with_put Second item at b = record b { reordered = b.reordered ++ item ∷ []; places = b.places ++ at ∷ [] }

  -- what the puts of any builder keep: both orders rise, and each item of the second order is the one at its place
  pub record IsUnderway (before : Order → Item → Item → Bool) (b : Progress Item) : Type 0 where
    pub small : b.at_level < 32
    pub few : length b.items ≤ 2 ^ b.at_level
    pub rising : IsRising (before First) b.items
    pub rising_reordered : IsRising (before Second) b.reordered
    pub placed : map (slice_get b.items) b.places ≡ map Some b.reordered
    pub complete : b.is_sealed ≡ true → length b.reordered ≡ length b.items

  -- a builder that is sealed, with this many turns to go
  abbrev pub sealed_with : ℕ → Progress Item → Progress Item
  sealed_with turns b = record b { is_sealed = true; left = turns }

  -- the part of all that was put, each item live
  abbrev pub all_live : Progress Item → Contents Item
  all_live b = record {
    items = b.items;
    flags = replicate (length b.items) true;
    reordered = b.reordered;
    places = b.places;
    at_level = b.at_level;
  }

-- what the theorems on parts in levels rest on: the stamps and the two orders of the items, and the slope and the base of the structure
pub record PartProfile (Item : Type 0) : Type 0 where
  pub stamp : Item → ℕ
  pub before : Order → Item → Item → Bool
  pub slope : ℕ
  pub base : ℕ

-- as many turns as a builder may have left for n items at a level: n at least, and at most as many as its slope and its base allow
pub record IsQuota (slope base at_level n left : ℕ) : Type 0 where
  pub enough : n ≤ left
  pub bounded : 2 * left ≤ 2 ^ at_level * (slope * at_level + base)
