use Rattle.std.proofs.Common.{rules, subst}
use Rattle.map_model.specs.Command as commands
use Rattle.map_shapes.specs.Shape.{model_shape}
use Rattle.map_shapes.specs.Version.{version_of}
use Rattle.map_layers.specs.Layers.{map_of, map_with}
use Rattle.map_layers.specs.Replies.{updated, IsAnswered}
use Rattle.map_layers.proofs.layers.Layers.add.Goals as goal

pub returns-clause-answered : goal.returns-clause-answered
returns-clause-answered g c =
    let version = version_of c.self.inside.version in
    let most = c.self.inside.most_items in
    let here : IsAnswered (map_of c.args.self.now) (commands.Add c.args.name.now c.args.id (model_shape c.args.shape)) (map_with version most c.add_in.new.layers.items) (updated c.add_in.result) =
    subst (λ s. IsAnswered (map_of s) (commands.Add c.args.name.now c.args.id (model_shape c.args.shape)) (map_with version most c.add_in.new.layers.items) (updated c.add_in.result)) c.self.view_is
    (c.add_in.ensures.answered version most c.self.invariant.2) in
    search rules
