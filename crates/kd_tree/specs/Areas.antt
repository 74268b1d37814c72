-- Spots of the map, and boxes.
use Rattle.std.specs.Prelude.{ℕ, ◌+◌, ◌-◌, ◌*◌, ◌^◌, ◌<◌, ◌≤◌}
use Rattle.map_model.specs.Shape.{difference}
use Rattle.map_shapes.specs.declared.point.Point.{Point}
use Rattle.kd_tree.specs.declared.spot.Spot.{Spot}
use Rattle.kd_tree.specs.declared.area.Area.{Area}

-- where a point lies
abbrev pub spot_of : Point → Spot
spot_of p = record { x = p.x; y = p.y }

-- the square of the distance between two spots
abbrev pub apart : Spot → Spot → ℕ
apart a b = difference a.x b.x * difference a.x b.x + difference a.y b.y * difference a.y b.y

-- the spot lies in the box
pub record Has (area : Area) (spot : Spot) : Type 0 where
  pub left : area.x1 ≤ spot.x
  pub right : spot.x ≤ area.x2
  pub lower : area.y1 ≤ spot.y
  pub upper : spot.y ≤ area.y2

-- the box lies in the other one, or is empty
pub record IsInside (area other : Area) : Type 0 where
  pub left : other.x1 ≤ area.x1
  pub right : area.x2 ≤ other.x2
  pub lower : other.y1 ≤ area.y1
  pub upper : area.y2 ≤ other.y2

-- a box of coordinates of 32 bits
pub record IsBox (area : Area) : Type 0 where
  pub left : area.x1 < 2 ^ 32
  pub lower : area.y1 < 2 ^ 32

-- how far a coordinate lies outside of two ends
abbrev pub gap : ℕ → ℕ → ℕ → ℕ
gap low high coordinate = (low - coordinate) + (coordinate - high)

-- the square of the distance of a box from a spot
abbrev pub distance_to : Area → Spot → ℕ
distance_to area from = gap area.x1 area.x2 from.x * gap area.x1 area.x2 from.x + gap area.y1 area.y2 from.y * gap area.y1 area.y2 from.y
