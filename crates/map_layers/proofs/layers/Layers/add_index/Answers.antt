use Rattle.std.proofs.Common.{rules, subst}
use Rattle.map_model.specs.Command as commands
use Rattle.map_shapes.specs.IndexSet.{index_of}
use Rattle.map_shapes.specs.Version.{version_of}
use Rattle.map_layers.specs.Layers.{map_of, map_with}
use Rattle.map_layers.specs.Replies.{indexed, IsAnswered}
use Rattle.map_layers.proofs.layers.Layers.add_index.Goals as goal

pub returns-clause-answered : goal.returns-clause-answered
returns-clause-answered g c =
    let version = version_of c.self.inside.version in
    let most = c.self.inside.most_items in
    let here : IsAnswered (map_of c.args.self.now) (commands.MakeIndex c.args.name.now (index_of c.args.index)) (map_with version most c.index_in.new.layers.items) (indexed c.index_in.result) =
    subst (λ s. IsAnswered (map_of s) (commands.MakeIndex c.args.name.now (index_of c.args.index)) (map_with version most c.index_in.new.layers.items) (indexed c.index_in.result)) c.self.view_is
    (c.index_in.ensures.answered version most) in
    search rules
