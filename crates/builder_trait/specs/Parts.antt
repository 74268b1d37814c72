-- What contracts see of a part: a static structure whose items are only ever marked as dead (weak deletion, Overmars 1983).
use Rattle.std.specs.Prelude.{◌≡◌, ℕ, ◌==◌, Bool, not, ◌&&◌, IsTrue, List, length, map, filter, zip, AllPairs, All, ◌⊎◌, ◌<◌, Some, slice_get, slice_index}
use Rattle.std.specs.List.{range_with_len, list_any, items_where_true}
use Rattle.query_laws.specs.Permuted.{Permuted}
use Rattle.query_laws.specs.declared.item.Order.{Order}
use Rattle.query_laws.specs.declared.item.Order.TheVariants.{First, Second}

-- A part: the items in the first order with a flag for each, true while it is live; the same items in the second order, with the place that each
-- has in the first order; and the level, by which there was room for `2 ^ at_level` items.
pub record Contents (Item : Type 0) : Type 0 where
  pub items : List Item
  pub flags : List Bool
  pub reordered : List Item
  pub places : List ℕ
  pub at_level : ℕ

module _ {Item : Type 0} where
  -- each item stands before all later ones
  abbrev pub IsRising : (Item → Item → Bool) → List Item → Type 0
  IsRising before xs = AllPairs (λ x y. IsTrue (before x y)) xs

  -- what is true of every part: both orders rise, and hold the same items, each place once
  pub record IsPart (before : Order → Item → Item → Bool) (part : Contents Item) : Type 0 where
    pub rising : IsRising (before First) part.items
    pub rising_reordered : IsRising (before Second) part.reordered
    pub flagged : length part.flags ≡ length part.items
    pub placed : map (slice_get part.items) part.places ≡ map Some part.reordered
    pub each_place : Permuted part.places (range_with_len 0 (length part.items))
    pub same_items : Permuted part.reordered part.items

  -- the live items of a part, in the first order
  abbrev pub live_of : Contents Item → List Item
  live_of part = items_where_true part.flags part.items

  -- the items of a part in an order
  abbrev pub in_order : Order → Contents Item → List Item
  in_order First part = part.items
  in_order Second part = part.reordered

  -- the place in the first order of the item at an index of an order
  abbrev pub place_of : Order → Contents Item → ℕ → ℕ
  place_of First part k = k
  place_of Second part k = slice_index part.places k

  module _ (stamp : Item → ℕ) (dead : ℕ) where
    -- whether an item with a stamp is among the items
    abbrev pub has_stamp : List Item → Bool
    has_stamp xs = list_any (λ x. stamp x == dead) xs

    -- the items with other stamps
    abbrev pub without : List Item → List Item
    without xs = filter (λ x. not (stamp x == dead)) xs

    -- the part in which items with that stamp are dead, and each other one is as it was
    abbrev pub marked : Contents Item → Contents Item
    marked part = record part { flags = map (λ held. held.1 && not (stamp held.0 == dead)) (zip part.items part.flags) }

  -- no other item of the list has the stamp of this one
  abbrev pub OwnsStamp : (Item → ℕ) → Item → List Item → Type 0
  OwnsStamp stamp item xs = All (λ x. stamp x ≡ stamp item → x ≡ item) xs

  -- the stamp of this item is less than those of all items of the list, or greater than all: it is older than all, or younger
  abbrev pub IsOutside : (Item → ℕ) → Item → List Item → Type 0
  IsOutside stamp item xs = All (λ x. stamp item < stamp x) xs ⊎ All (λ x. stamp x < stamp item) xs
