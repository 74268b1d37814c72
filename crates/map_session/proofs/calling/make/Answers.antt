use Rattle.map_layers.specs.Layers.{map_of}
use Rattle.map_session.proofs.Steps.{given_as, made_allowed}
use Rattle.map_session.proofs.calling.make.Goals as goal

pub returns-clause-answered : goal.returns-clause-answered
returns-clause-answered g c =
    given_as (map_of c.args.layers.now) (map_of c.create.new.self) _ c.made.result _ _ c.made.ensures.reply c.made.ensures.cost
    c.create.ensures.answered (made_allowed _ c.create.result)
