-- Shapes: points with a weight, and horizontal segments; and when a rectangle or a line meets one.
use Rattle.std.specs.Prelude.{ℕ, ◌+◌, ◌-◌, ◌*◌, Bool, false, ◌&&◌, nat_le}

-- from (x1, y1) to (x2, y2), with its border
pub record Rect : Type 0 where
  pub x1 : ℕ
  pub y1 : ℕ
  pub x2 : ℕ
  pub y2 : ℕ

-- what the items of a layer are: all of one kind
pub data Kind : Type 0 where
  -- points with a weight
  Points : Kind
  -- horizontal segments
  Segments : Kind

-- a point or a horizontal segment
pub data Shape : Type 0 where
  -- at (x, y), with a weight
  Point : (x y w : ℕ) → Shape
  -- from (lo, y) to (hi, y)
  Segment : (lo hi y : ℕ) → Shape

-- the kind of a shape
abbrev pub kind_of : Shape → Kind
kind_of (Point x y w) = Points
kind_of (Segment lo hi y) = Segments

-- a point in the rectangle or on its border
abbrev pub is_inside : Rect → Shape → Bool
is_inside r (Point x y w) = nat_le r.x1 x && nat_le x r.x2 && nat_le r.y1 y && nat_le y r.y2
is_inside r (Segment lo hi y) = false

-- a point from x1 to x2
abbrev pub is_between : ℕ → ℕ → Shape → Bool
is_between x1 x2 (Point x y w) = nat_le x1 x && nat_le x x2
is_between x1 x2 (Segment lo hi y) = false

-- a point from x1 to x2, at least as high as y
abbrev pub is_above : ℕ → ℕ → ℕ → Shape → Bool
is_above x1 x2 least (Point x y w) = nat_le x1 x && nat_le x x2 && nat_le least y
is_above x1 x2 least (Segment lo hi y) = false

-- a segment over x, its ends included
abbrev pub is_stabbed : ℕ → Shape → Bool
is_stabbed x (Point x' y w) = false
is_stabbed x (Segment lo hi y) = nat_le lo x && nat_le x hi

-- a segment over x, its ends included, that lies from y1 to y2
abbrev pub is_met : ℕ → ℕ → ℕ → Shape → Bool
is_met x y1 y2 (Point x' y w) = false
is_met x y1 y2 (Segment lo hi y) = nat_le lo x && nat_le x hi && nat_le y1 y && nat_le y y2

-- the weight of a point
abbrev pub weight_of : Shape → ℕ
weight_of (Point x y w) = w
weight_of (Segment lo hi y) = 0

-- how high a shape lies
abbrev pub height_of : Shape → ℕ
height_of (Point x y w) = y
height_of (Segment lo hi y) = y

-- how far two numbers are apart
abbrev pub difference : ℕ → ℕ → ℕ
difference a b = (a - b) + (b - a)

-- the squared distance of a point from (x, y)
abbrev pub squared_distance : ℕ → ℕ → Shape → ℕ
squared_distance x y (Point px py w) = difference x px * difference x px + difference y py * difference y py
squared_distance x y (Segment lo hi py) = 0
