use Rattle.std.proofs.Common.{◌≡◌, ◌+◌, ◌*◌, ap₂, ◌∙◌, arith}
use Rattle.kd_tree.specs.Areas.{distance_to}
use Rattle.kd_tree.specs.Distances.{coarse}
use Rattle.kd_tree.proofs.DistanceLemmas.{least_of_coarse, nearest}
use Rattle.kd_tree.proofs.area.Area.distance.Goals as goal

pub returns-clause-nearest : goal.returns-clause-nearest
returns-clause-nearest c spot has =
    let area = c.args.self.now in
    let from = c.args.from.now in
    let is : c.coarse.result ≡ coarse (distance_to area from) =
    c.coarse.ensures ∙ ap₂ (λ a u. coarse (a * a + u * u)) c.gap-across.ensures.value c.gap-up.ensures.value in
    omega (arith, least_of_coarse c.coarse.result (distance_to area from) is, nearest area from spot has)
