use Rattle.std.proofs.Common.{refl}
use Rattle.map_layers.specs.Layers.{map_of}
use Rattle.map_session.proofs.Steps.{given_as, reading_allowed}
use Rattle.map_session.proofs.calling.size.Goals as goal

pub returns-clause-answered : goal.returns-clause-answered
returns-clause-answered g c =
    given_as (map_of c.args.layers.now) (map_of c.args.layers.now) _ c.sized.result _ _ c.sized.ensures.reply c.sized.ensures.cost c.size.ensures.answered
    (reading_allowed _ _ (λ n. refl) c.size.result)
