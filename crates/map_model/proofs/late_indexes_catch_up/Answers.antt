use Rattle.map_model.proofs.Waiting.{added-waits, moved-waits, dropped-waits}
use Rattle.map_model.proofs.late_indexes_catch_up.Goals as goal

pub returns : goal.returns
returns c = record { adds = added-waits; moves = moved-waits; drops = dropped-waits }
