use Rattle.std.proofs.Common.{refl}
use Rattle.map_layers.specs.Layers.{map_of}
use Rattle.map_session.proofs.Steps.{given_as, reading_allowed}
use Rattle.map_session.proofs.calling.get.Goals as goal

pub returns-clause-answered : goal.returns-clause-answered
returns-clause-answered g c =
    given_as (map_of c.args.layers.now) (map_of c.args.layers.now) _ c.got.result _ _ c.got.ensures.reply c.got.ensures.cost c.get.ensures.answered
    (reading_allowed _ _ (λ shape. refl) c.get.result)
