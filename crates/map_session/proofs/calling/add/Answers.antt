use Rattle.std.proofs.Common.{refl}
use Rattle.map_model.specs.Command.{Add}
use Rattle.map_model.specs.Cost.{Adds}
use Rattle.map_model.specs.State.{layer_named}
use Rattle.map_shapes.specs.Shape.{model_shape}
use Rattle.map_layers.specs.Layers.{map_of}
use Rattle.map_session.proofs.Counted.{update_counted, update_lap}
use Rattle.map_session.proofs.Steps.{given_as, update_allowed}
use Rattle.map_session.proofs.calling.add.Goals as goal

pub returns-clause-answered : goal.returns-clause-answered
returns-clause-answered g c =
    given_as (map_of c.args.layers.now) (map_of c.add.new.self) _ c.updated.result _ _ c.updated.ensures.reply c.updated.ensures.cost c.add.ensures.answered
    (update_allowed _ _ c.add.result _ _ c.add.ensures.told)

pub returns-clause-counted : goal.returns-clause-counted
returns-clause-counted g c =
    rw c.updated.ensures.cost (update_counted (map_of c.args.layers.now) (map_of c.add.new.self) (Add c.args.name.now c.args.id (model_shape c.args.shape)) Adds (λ layer. refl) c.add.result
    c.add.ensures.answered c.add.ensures.cost c.add.ensures.told)

pub returns-clause-lap : goal.returns-clause-lap
returns-clause-lap g c = update_lap c.args.steps.now c.add.new.steps (layer_named c.args.name.now (map_of c.args.layers.now).layers) Adds c.add.result c.add.ensures.cost
