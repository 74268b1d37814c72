use Rattle.std.proofs.Common.{arith}
use Rattle.kd_tree.specs.HeightLaws.{nodes_value, nodes_small}
use Rattle.kd_tree.proofs.height.nodes_in.Goals as goal

pub returns-clause-value : goal.returns-clause-value
returns-clause-value c = nodes_value c.args.depth c.requires

pub returns-clause-small : goal.returns-clause-small
returns-clause-small c = omega (arith, nodes_value c.args.depth c.requires, nodes_small c.args.depth c.requires)
