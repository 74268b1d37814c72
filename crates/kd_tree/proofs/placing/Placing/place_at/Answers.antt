use Rattle.std.proofs.Common.{arith, ap, length}
use Rattle.kd_tree.proofs.Placings.{place_within}
use Rattle.kd_tree.proofs.placing.Placing.place_at.Goals as goal

pub returns-clause-within : goal.returns-clause-within
returns-clause-within g c =
    omega (
      arith,
      ap (λ e. length e.items) c.self.view_is,
      place_within c.self.inside.order.items c.args.position c.at.result c.self.invariant.each_place c.at.ensures.read,
    )
