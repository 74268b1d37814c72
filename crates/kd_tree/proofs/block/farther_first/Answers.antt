use Rattle.query_laws.specs.Permuted.{composed}
use Rattle.kd_tree.proofs.block.farther_first.Goals as goal

pub returns : goal.returns
returns c =
    composed c.farther_of_two-5.ensures (composed c.farther_of_two-4.ensures (composed c.farther_of_two-3.ensures (composed c.farther_of_two-2.ensures c.farther_of_two.ensures)))
