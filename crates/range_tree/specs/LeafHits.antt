-- What a scan of a leaf finds.
use Rattle.std.specs.Int.{bit_at}
use Rattle.std.specs.Option.{option_to_list}
use Rattle.std.specs.Prelude.{◌≡◌, ℕ, ◌==◌, ◌+◌, ◌-◌, ◌%◌, ◌^◌, ◌<◌, ◌&&◌, Bool, if◌then◌else◌, List, slice_get, slice_index}
use Rattle.builder_trait.specs.Parts.{Contents}
use Rattle.map_shapes.specs.declared.point.Point.{Point}
use Rattle.map_shapes.specs.declared.rect.Rect.{Rect}
use Rattle.range_tree.specs.declared.leaves.Leaf.{Leaf}
use Rattle.range_tree.specs.Queries.{has_y}

-- the leaf has a live point at this place, with a y in the rectangle
abbrev pub is_hit : Rect → Leaf → ℕ → Bool
is_hit rect leaf place = has_y rect (slice_index leaf.ys (place % 16)) && (bit_at leaf.live (place % 16) == 1)

-- the bits tell which live points of a leaf have y in the rectangle: bit j the j-th place from `place` on, and none one from `to` on
pub record AreHits (rect : Rect) (leaf : Leaf) (place to bits : ℕ) : Type 0 where
  pub each : (j : ℕ) → j < to - place → bit_at bits j ≡ (if is_hit rect leaf (place + j) then 1 else 0)
  pub no_more : bits < 2 ^ (to - place)

-- the point at a place, if there is one
abbrev pub points_at : Contents Point → ℕ → List Point
points_at part place = option_to_list (slice_get part.items place)
