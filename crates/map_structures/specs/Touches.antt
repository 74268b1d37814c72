-- How much a structure of the map may touch.
use Rattle.std.specs.Prelude.{ℕ, ◌+◌, ◌*◌, ◌^◌, ◌≤◌}

-- the most touches of a mark, in a part of at most 2 ^ h items
abbrev pub touches_at : ℕ → ℕ
touches_at h = 16 * ((h + 2) * (h + 2))

-- the most touches of a question in one part: so many, and so many more for each item of the part that is hit, and for each at all, dead ones too
pub record PartTouches : Type 0 where
  pub part : ℕ
  pub hit : ℕ
  pub item : ℕ

-- none of these numbers is above 2 ^ 16, so that no count of a layer's parts runs over
pub record AreFew (touches : PartTouches) : Type 0 where
  pub part : touches.part ≤ 2 ^ 16
  pub hit : touches.hit ≤ 2 ^ 16
  pub item : touches.item ≤ 2 ^ 16
