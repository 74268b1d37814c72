use Rattle.map_model.proofs.DistinctKeys.{HasDistinctKeys-empty, HasDistinctKeys-step, HasDistinctKeys-output}
use Rattle.map_model.proofs.keys_are_distinct.Goals as goal

pub returns : goal.returns
returns c = record { empty = HasDistinctKeys-empty; step = HasDistinctKeys-step; output = HasDistinctKeys-output }
