-- Squares of distances, made coarse.
use Rattle.std.proofs.Common.{◌≡◌, ℕ, ◌-◌, ◌*◌, ◌^◌, ◌<◌, ◌≤◌, arith}
use Rattle.std.proofs.lemmas.Nat.{mul-le}
use Rattle.map_model.specs.Shape.{difference}
use Rattle.kd_tree.specs.declared.spot.Spot.{Spot}
use Rattle.kd_tree.specs.declared.area.Area.{Area}
use Rattle.kd_tree.specs.Areas.{Has, apart, distance_to, gap}
use Rattle.kd_tree.specs.Distances.{coarse, least}

pub short_square : (n : ℕ) → n < 2 ^ 31 → n * n ≤ (2 ^ 31 - 1) * (2 ^ 31 - 1)
short_square n short = mul-le n n (2 ^ 31 - 1) (2 ^ 31 - 1) (omega arith) (omega arith)

pub least_of_coarse : (c square : ℕ) → c ≡ coarse square → least c ≤ square
least_of_coarse c square is = omega (arith, is)

-- nothing in a box is nearer than the box
gap_within : (low high from at : ℕ) → low ≤ at → at ≤ high → gap low high from ≤ difference from at
gap_within low high from at above below = omega arith

pub nearest : (area : Area) (from spot : Spot) → Has area spot → distance_to area from ≤ apart from spot
nearest area from spot has =
    let across : gap area.x1 area.x2 from.x ≤ difference from.x spot.x = gap_within area.x1 area.x2 from.x spot.x has.left has.right in
    let up : gap area.y1 area.y2 from.y ≤ difference from.y spot.y = gap_within area.y1 area.y2 from.y spot.y has.lower has.upper in
    omega (
      arith,
      mul-le (gap area.x1 area.x2 from.x) (gap area.x1 area.x2 from.x) (difference from.x spot.x) (difference from.x spot.x) across across,
      mul-le (gap area.y1 area.y2 from.y) (gap area.y1 area.y2 from.y) (difference from.y spot.y) (difference from.y spot.y) up up,
    )
