-- What the fields of opened live counts are to the places that they stand for.
use Rattle.std.proofs.Common.{◌≡◌, ℕ, ◌+◌, List, [], ◌∷◌, ◌++◌, Bool, false, length, ap, ap₂, sym, ◌∙◌, cond}
use Rattle.weak_delete.specs.declared.place.Place.{Place}
use Rattle.weak_delete.specs.declared.live_counts.LiveCounts.TheInside.{Inside}
use Rattle.weak_delete.specs.Places.{LivePlaces, live_place}
use Rattle.weak_delete.specs.Packed.{packed}
use Rattle.weak_delete.proofs.Packing.{length-packed}

-- the places of its entries
abbrev pub places_of : Inside → List Place
places_of inside = packed inside.weights.items inside.masks.items inside.len

pub record IsOpened (inside : Inside) (s : LivePlaces) : Type 0 where
  pub places : places_of inside ≡ s.places
  pub count : length (places_of inside) ≡ inside.len
  pub long : length s.places ≡ inside.len
  pub capacity : inside.cap ≡ s.capacity
  pub sealed : inside.sealed ≡ s.sealed
  pub left : cond inside.sealed inside.unturned 0 ≡ s.left

pub opened : (inside : Inside) (s : LivePlaces)
    → record { places = places_of inside; capacity = inside.cap; sealed = inside.sealed; left = cond inside.sealed inside.unturned 0 } ≡ s → IsOpened inside s
opened inside s is =
    let count = length-packed inside.weights.items inside.masks.items inside.len in
    record {
      places = ap (λ (v : LivePlaces). v.places) is;
      count = count;
      long = sym (ap (λ (v : LivePlaces). length v.places) is) ∙ count;
      capacity = ap (λ (v : LivePlaces). v.capacity) is;
      sealed = ap (λ (v : LivePlaces). v.sealed) is;
      left = ap (λ (v : LivePlaces). v.left) is;
    }

-- the value once a place was put before the seal
pub value_put : (inside : Inside) (s : LivePlaces) (weight : ℕ) (after : List Place) → IsOpened inside s → s.sealed ≡ false
    → after ≡ places_of inside ++ live_place weight ∷ []
    → record { places = after; capacity = inside.cap; sealed = inside.sealed; left = cond inside.sealed (inside.unturned + 1) 0 }
    ≡ record s { places = s.places ++ live_place weight ∷ [] }
value_put inside s weight after o open_yet is =
    let none : (n : ℕ) (b : Bool) → b ≡ false → cond b n 0 ≡ 0 = λ n b e. ap (λ t. cond t n 0) e in
    let left = none (inside.unturned + 1) _ (o.sealed ∙ open_yet) ∙ sym (none inside.unturned _ (o.sealed ∙ open_yet)) ∙ o.left in
    ap₂ (λ (ps : List Place) n. record { places = ps; capacity = inside.cap; sealed = inside.sealed; left = n }) (is ∙ ap (λ ps. ps ++ live_place weight ∷ []) o.places) left
    ∙ ap₂ (λ n b. record { places = s.places ++ live_place weight ∷ []; capacity = n; sealed = b; left = s.left }) o.capacity o.sealed
