use Rattle.std.proofs.Common.{arith}
use Rattle.std.proofs.lemmas.Option.{slice_get-get_or}
use Rattle.kd_tree.specs.Areas.{Has}
use Rattle.kd_tree.proofs.LeafLemmas.{of_four}
use Rattle.kd_tree.proofs.node.whole.Goals as goal

pub returns-clause-has : goal.returns-clause-has
returns-clause-has c k area spot at =
    of_four (λ a. Has a spot → Has c.joined.result spot) c.args.areas.now (record { x1 = 0; x2 = 0; y1 = 0; y2 = 0 }) c.told-areas
    (λ has. c.joined.ensures.left spot (c.joined-first.ensures.left spot has))
    (λ has. c.joined.ensures.left spot (c.joined-first.ensures.right spot has))
    (λ has. c.joined.ensures.right spot (c.joined-second.ensures.left spot has))
    (λ has. c.joined.ensures.right spot (c.joined-second.ensures.right spot has)) k area at

pub returns-clause-least : goal.returns-clause-least
returns-clause-least c all each =
    let areas = c.args.areas.now in
    c.joined.ensures.least all
    (c.joined-first.ensures.least all (each 0 _ (slice_get-get_or areas 0 _ (omega (arith, c.told-areas)))) (each 1 _ (slice_get-get_or areas 1 _ (omega (arith, c.told-areas)))))
    (c.joined-second.ensures.least all (each 2 _ (slice_get-get_or areas 2 _ (omega (arith, c.told-areas)))) (each 3 _ (slice_get-get_or areas 3 _ (omega (arith, c.told-areas)))))
