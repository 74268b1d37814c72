-- Strips: neighbouring places of the first order, and which points of them are high.
use Rattle.std.specs.Prelude.{◌≡◌, ℕ, ◌+◌, ◌*◌, ◌^◌, ◌≤◌, Bool, ◌&&◌, ◌||◌, nat_le, nat_lt, if◌then◌else◌, List, Some, length, map, slice_get}
use Rattle.map_model.specs.Shape.{is_between}
use Rattle.map_shapes.specs.declared.point.Point.{Point}
use Rattle.map_shapes.specs.Point.{shape_of}
use Rattle.priority_tree.specs.declared.entry.Entry.{Entry}
use Rattle.priority_tree.specs.declared.strip.Strip.{Strip}

-- the strip has a place, and a point by its place
abbrev pub is_at : Strip → ℕ → Bool
is_at strip place = nat_le strip.from place && nat_lt place strip.to

abbrev pub is_in : Strip → Entry → Bool
is_in strip e = is_at strip e.place

-- the point is in the strip, and at least as high as y
abbrev pub is_hit : Strip → ℕ → Entry → Bool
is_hit strip y e = is_in strip e && nat_le y e.y

abbrev pub ids_of : List Entry → List ℕ
ids_of es = map (λ e. e.id) es

-- the strip ends before the block, or begins behind it
abbrev pub is_missed : Strip → ℕ → ℕ → Bool
is_missed strip height start = nat_le strip.to (16 * start) || nat_le (16 * (start + 2 ^ height)) strip.from

-- how many of the strip's two ends lie within the block
abbrev pub cut_at : ℕ → ℕ → ℕ → ℕ
cut_at low high place = if nat_lt low place && nat_lt place high then 1 else 0

abbrev pub cuts : Strip → ℕ → ℕ → ℕ
cuts strip height start =
    cut_at (16 * start) (16 * (start + 2 ^ height)) strip.from + cut_at (16 * start) (16 * (start + 2 ^ height)) strip.to

-- the strip has the places of the points from x1 to x2
pub record IsStrip (points : List Point) (x1 x2 : ℕ) (strip : Strip) : Type 0 where
  pub ordered : strip.from ≤ strip.to
  pub within : strip.to ≤ length points
  pub each : (k : ℕ) (p : Point) → slice_get points k ≡ Some p → is_at strip k ≡ is_between x1 x2 (shape_of p)
