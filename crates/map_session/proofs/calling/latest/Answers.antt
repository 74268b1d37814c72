use Rattle.std.proofs.Common.{refl}
use Rattle.map_layers.specs.Layers.{map_of}
use Rattle.map_session.proofs.Steps.{given_as, reading_allowed}
use Rattle.map_session.proofs.calling.latest.Goals as goal

pub returns-clause-answered : goal.returns-clause-answered
returns-clause-answered g c =
    given_as (map_of c.args.layers.now) (map_of c.args.layers.now) _ c.recent-2.result _ _ c.recent-2.ensures.reply c.recent-2.ensures.cost c.recent.ensures.answered
    (reading_allowed _ _ (λ ids. refl) c.recent.result)
