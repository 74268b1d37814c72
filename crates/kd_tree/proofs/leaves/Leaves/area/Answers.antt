use Rattle.std.proofs.Common.{arith}
use Rattle.kd_tree.proofs.LeafLemmas.{IsLeastBox-leaf}
use Rattle.kd_tree.proofs.leaves.Leaves.area.Goals as goal

pub returns-clause-least : goal.returns-clause-least
returns-clause-least g c part order leaves_of =
    IsLeastBox-leaf part order c.args.len c.args.j c.min.result c.args.self.now.spots.items c.args.self.now.live.items c.at-spots.result c.at-live.result
    leaves_of c.at-spots.ensures.read c.at-live.ensures.read (λ slot small inside. omega (arith, c.min.ensures))
    (λ slot below. (omega (arith, c.min.ensures), omega (arith, c.min.ensures))) c.hull.result c.hull.ensures.has c.hull.ensures.least
