use Rattle.std.proofs.Common.{ℕ, ◌<◌, get_or}
use Rattle.kd_tree.specs.declared.block.Block.{Block}
use Rattle.kd_tree.specs.Walks.{IsLeftOut}
use Rattle.kd_tree.proofs.walk.are_left_out.Given as goal

abbrev pub invariant-loop-block : goal.invariant-loop-block
invariant-loop-block g l = (k : ℕ) (d : Block) → k < l.block-index → IsLeftOut (g.T.KeepsNearest.most l.tally) (g.T.KeepsNearest.kept l.tally) (get_or l.blocks k d)
