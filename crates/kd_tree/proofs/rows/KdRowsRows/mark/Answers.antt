use Rattle.query_laws.proofs.Counting.{Spends-weaker}
use Rattle.builder_trait.specs.Parts.{Contents}
use Rattle.map_shapes.specs.declared.point.Point.{Point}
use Rattle.kd_tree.proofs.Killings.{cheap}
use Rattle.kd_tree.proofs.rows.KdRowsRows.mark.Goals as goal

pub returns-clause-cost : goal.returns-clause-cost
returns-clause-cost g c h few =
    let before : Contents Point = record c.args._points.now { flags = c.requires.behind.flags } in
    Spends-weaker c.kill.ensures.cost (cheap before c.args.self.now c.requires.behind.done h few)
