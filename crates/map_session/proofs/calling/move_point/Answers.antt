use Rattle.std.proofs.Common.{refl}
use Rattle.map_model.specs.Command.{Move}
use Rattle.map_model.specs.Cost.{Moves}
use Rattle.map_model.specs.State.{layer_named}
use Rattle.map_layers.specs.Layers.{map_of}
use Rattle.map_session.proofs.Counted.{update_counted, update_lap}
use Rattle.map_session.proofs.Steps.{given_as, update_allowed}
use Rattle.map_session.proofs.calling.move_point.Goals as goal

pub returns-clause-answered : goal.returns-clause-answered
returns-clause-answered g c =
    given_as (map_of c.args.layers.now) (map_of c.move_point.new.self) _ c.updated.result _ _ c.updated.ensures.reply c.updated.ensures.cost c.move_point.ensures.answered
    (update_allowed _ _ c.move_point.result _ _ c.move_point.ensures.told)

pub returns-clause-counted : goal.returns-clause-counted
returns-clause-counted g c =
    rw c.updated.ensures.cost (update_counted (map_of c.args.layers.now) (map_of c.move_point.new.self) (Move c.args.name.now c.args.id c.args.x c.args.y c.args.w) Moves (λ layer. refl)
    c.move_point.result c.move_point.ensures.answered c.move_point.ensures.cost c.move_point.ensures.told)

pub returns-clause-lap : goal.returns-clause-lap
returns-clause-lap g c =
    update_lap c.args.steps.now c.move_point.new.steps (layer_named c.args.name.now (map_of c.args.layers.now).layers) Moves c.move_point.result c.move_point.ensures.cost
