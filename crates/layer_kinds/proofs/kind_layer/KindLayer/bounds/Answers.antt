use Rattle.std.proofs.Common.{◌∙◌, length, ap}
use Rattle.map_model.specs.Cost.{Moves}
use Rattle.layer_kinds.specs.Costs.{marks_of}
use Rattle.layer_kinds.proofs.kind_layer.KindLayer.bounds.Goals as goal

pub returns-clause-move_marks : goal.returns-clause-move_marks
returns-clause-move_marks g c =
    c.new.ensures.move_marks
    ∙ ap (marks_of Moves (g.X.Indexes.rates c.self.inside.indexes)) c.len.ensures.count
    ∙ ap (λ k. marks_of Moves (g.X.Indexes.rates k.indexes) (length c.args.self.now.entries)) c.self.view_is
