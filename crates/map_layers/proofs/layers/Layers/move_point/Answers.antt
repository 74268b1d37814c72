use Rattle.std.proofs.Common.{rules, subst}
use Rattle.map_model.specs.Command as commands
use Rattle.map_shapes.specs.Version.{version_of}
use Rattle.map_layers.specs.Layers.{map_of, map_with}
use Rattle.map_layers.specs.Replies.{updated, IsAnswered}
use Rattle.map_layers.proofs.layers.Layers.move_point.Goals as goal

pub returns-clause-answered : goal.returns-clause-answered
returns-clause-answered g c =
    let version = version_of c.self.inside.version in
    let most = c.self.inside.most_items in
    let here : IsAnswered (map_of c.args.self.now) (commands.Move c.args.name.now c.args.id c.args.x c.args.y c.args.w) (map_with version most c.move_in.new.layers.items) (updated c.move_in.result) =
    subst (λ s. IsAnswered (map_of s) (commands.Move c.args.name.now c.args.id c.args.x c.args.y c.args.w) (map_with version most c.move_in.new.layers.items) (updated c.move_in.result)) c.self.view_is
    (c.move_in.ensures.answered version most) in
    search rules
