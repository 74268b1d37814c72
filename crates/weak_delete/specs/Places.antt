-- Places in order, each with an amount, live until it is cleared.
use Rattle.std.specs.Prelude.{◌≡◌, ℕ, List, [], Bool, true, false, IsTrue, ◌&&◌, nat_le, if◌then◌else◌, slice_index_or, slice_set}
use Rattle.weak_delete.specs.declared.place.Place.{Place}

-- places in order, each with an amount and live until it is cleared, in a structure that is filled by puts, sealed, and built by turns
pub record LivePlaces : Type 0 where
  pub places : List Place
  pub capacity : ℕ
  pub sealed : Bool
  pub left : ℕ

-- room for so many places, and none of them put
abbrev pub nothing_put : ℕ → LivePlaces
nothing_put cap = record { places = []; capacity = cap; sealed = false; left = 0 }

-- the puts have ended, and no turn is left
pub record IsBuilt (s : LivePlaces) : Type 0 where
  pub sealed : s.sealed ≡ true
  pub turned : s.left ≡ 0

-- a place with an amount, which is live
abbrev pub live_place : ℕ → Place
live_place amount = record { amount = amount; live = true }

-- what stands at an index beyond the last place
abbrev pub no_place : Place
no_place = record { amount = 0; live = false }

abbrev pub place_at : List Place → ℕ → Place
place_at places k = slice_index_or places k no_place

-- a place is live
abbrev pub is_live : Place → Bool
is_live place = place.live

-- what a place counts for: its amount while it is live
abbrev pub live_amount : Place → ℕ
live_amount place = if place.live then place.amount else 0

-- there is a place at this index, and it is live
abbrev pub IsLive : List Place → ℕ → Type 0
IsLive places k = IsTrue (is_live (place_at places k))

-- the same places, of which the one at this index is no longer live
abbrev pub cleared : List Place → ℕ → List Place
cleared places k = slice_set places k (record (place_at places k) { live = false })

-- the place is live, and its amount reaches the bound
abbrev pub is_live_at_least : ℕ → Place → Bool
is_live_at_least bound place = place.live && nat_le bound place.amount
