use Rattle.map_layers.specs.Layers.{map_of}
use Rattle.map_session.proofs.Steps.{given_as, indexed_allowed}
use Rattle.map_session.proofs.calling.index.Goals as goal

pub returns-clause-answered : goal.returns-clause-answered
returns-clause-answered g c =
    given_as (map_of c.args.layers.now) (map_of c.add_index.new.self) _ c.indexed.result _ _ c.indexed.ensures.reply c.indexed.ensures.cost
    c.add_index.ensures.answered (indexed_allowed _ c.add_index.result)
