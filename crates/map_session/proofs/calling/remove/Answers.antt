use Rattle.std.proofs.Common.{refl}
use Rattle.map_model.specs.Command.{Drop}
use Rattle.map_model.specs.Cost.{Drops}
use Rattle.map_model.specs.State.{layer_named}
use Rattle.map_layers.specs.Layers.{map_of}
use Rattle.map_session.proofs.Counted.{update_counted, update_lap}
use Rattle.map_session.proofs.Steps.{given_as, update_allowed}
use Rattle.map_session.proofs.calling.remove.Goals as goal

pub returns-clause-answered : goal.returns-clause-answered
returns-clause-answered g c =
    given_as (map_of c.args.layers.now) (map_of c.remove.new.self) _ c.updated.result _ _ c.updated.ensures.reply c.updated.ensures.cost c.remove.ensures.answered
    (update_allowed _ _ c.remove.result _ _ c.remove.ensures.told)

pub returns-clause-counted : goal.returns-clause-counted
returns-clause-counted g c =
    rw c.updated.ensures.cost (update_counted (map_of c.args.layers.now) (map_of c.remove.new.self) (Drop c.args.name.now c.args.id) Drops (λ layer. refl) c.remove.result
    c.remove.ensures.answered c.remove.ensures.cost c.remove.ensures.told)

pub returns-clause-lap : goal.returns-clause-lap
returns-clause-lap g c = update_lap c.args.steps.now c.remove.new.steps (layer_named c.args.name.now (map_of c.args.layers.now).layers) Drops c.remove.result c.remove.ensures.cost
