-- What the questions ask: the definitions' answers over the items, in the program's words.
use Rattle.std.specs.Prelude.{ℕ, ◌-◌, ◌^◌, List, Option, min, map, take, count_by, slice_get}
use Rattle.std.specs.Option.{option_map}
use Rattle.map_model.specs.Shape.{is_above, is_stabbed, is_met, squared_distance}
use Rattle.map_model.specs.Answer.{ids_with, by_distance, by_height}
use Rattle.map_shapes.specs.declared.point.Point.{Point}
use Rattle.map_shapes.specs.declared.segment.Segment.{Segment}
use Rattle.map_model.specs.Found.{Found}
use Rattle.map_shapes.specs.declared.peak.Peak.{Peak}
use Rattle.map_shapes.specs.Found.{found_from, peak_from}
use Rattle.map_shapes.specs.Point.{shape_of, item_of}
use Rattle.map_shapes.specs.Segment.{item_of_segment}

-- a point by its squared distance from a place
abbrev pub found_at : ℕ → ℕ → Point → Found
found_at x y p = record { dist = squared_distance x y (shape_of p); id = p.id }

-- a point by its height
abbrev pub peak_at : Point → Peak
peak_at p = record { y = p.y; id = p.id }

-- the first of all points by squared distance and then identifier
abbrev pub near : ℕ → ℕ → List Point → Option Found
near x y points = option_map found_from (slice_get (by_distance x y (map item_of points)) 0)

-- the first k of these
abbrev pub near_k : ℕ → ℕ → ℕ → List Point → List Found
near_k k x y points = map found_from (take k (by_distance x y (map item_of points)))

-- the identifiers of the points from x1 to x2 that are at least as high as y, ascending
abbrev pub above : ℕ → ℕ → ℕ → List Point → List ℕ
above x1 x2 y points = ids_with (is_above x1 x2 y) (map item_of points)

-- the first of the points from x1 to x2, from the highest down and then by identifier
abbrev pub top : ℕ → ℕ → List Point → Option Peak
top x1 x2 points = option_map peak_from (slice_get (by_height x1 x2 (map item_of points)) 0)

-- the identifiers of the segments over x, ascending
abbrev pub stab : ℕ → List Segment → List ℕ
stab x segments = ids_with (is_stabbed x) (map item_of_segment segments)

-- how many segments are over x, at most the greatest u64
abbrev pub stab_count : ℕ → List Segment → ℕ
stab_count x segments = min (count_by (λ item. is_stabbed x item.shape) (map item_of_segment segments)) (2 ^ 64 - 1)

-- the identifiers of the segments that one from (x, y1) to (x, y2) meets, ascending
abbrev pub crossed : ℕ → ℕ → ℕ → List Segment → List ℕ
crossed x y1 y2 segments = ids_with (is_met x y1 y2) (map item_of_segment segments)

-- how many segments it meets, at most the greatest u64
abbrev pub cross_count : ℕ → ℕ → ℕ → List Segment → ℕ
cross_count x y1 y2 segments = min (count_by (λ item. is_met x y1 y2 item.shape) (map item_of_segment segments)) (2 ^ 64 - 1)
