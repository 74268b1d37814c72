use Rattle.map_layers.specs.Layers.{map_of}
use Rattle.map_session.proofs.Steps.{given_as, chosen_allowed}
use Rattle.map_session.proofs.calling.choose.Goals as goal

pub returns-clause-answered : goal.returns-clause-answered
returns-clause-answered g c =
    given_as (map_of c.args.layers.now) (map_of c.choose_version.new.self) _ c.chosen.result _ _ c.chosen.ensures.reply c.chosen.ensures.cost
    c.choose_version.ensures.answered (chosen_allowed _ c.choose_version.result)
