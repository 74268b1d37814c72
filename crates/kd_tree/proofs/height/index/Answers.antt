use Rattle.std.proofs.Common.{◌-◌, arith}
use Rattle.kd_tree.specs.HeightLaws.{nodes_rise}
use Rattle.kd_tree.proofs.height.index.Goals as goal

pub overflow_sub-result : goal.overflow_sub-result
overflow_sub-result c =
    omega (arith, c.nodes_in.ensures.value, c.nodes_in-2.ensures.value, nodes_rise (c.args.depth - c.args.level) c.args.depth (omega arith))
