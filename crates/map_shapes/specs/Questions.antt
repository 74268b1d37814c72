-- What the questions about points ask.
use Rattle.std.specs.Prelude.{ℕ, ◌-◌, ◌^◌, Bool, List, min, map, filter, count_by}
use Rattle.map_model.specs.Shape.{is_inside}
use Rattle.query_laws.specs.Sums.{capped_sum}
use Rattle.map_shapes.specs.declared.point.Point.{Point}
use Rattle.map_shapes.specs.declared.rect.Rect.{Rect}
use Rattle.map_shapes.specs.Ascending.{sorted_ids}
use Rattle.map_shapes.specs.Point.{shape_of}
use Rattle.map_shapes.specs.Rect.{rect_of}

-- whether a point lies in a rectangle or on its border
abbrev pub is_in : Rect → Point → Bool
is_in rect p = is_inside (rect_of rect) (shape_of p)

-- how many points do, at most the greatest u64
abbrev pub count_in : Rect → List Point → ℕ
count_in rect points = min (count_by (is_in rect) points) (2 ^ 64 - 1)

-- what they weigh together, at most the greatest u64
abbrev pub weight_in : Rect → List Point → ℕ
weight_in rect points = capped_sum (λ p. p.w) (filter (is_in rect) points)

-- their identifiers in ascending order
abbrev pub ids_in : Rect → List Point → List ℕ
ids_in rect points = sorted_ids (map (λ p. p.id) (filter (is_in rect) points))
