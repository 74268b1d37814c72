use Rattle.map_session.proofs.Laps.{laps_run}
use Rattle.map_session.proofs.laps_are_bounded.Goals as goal

pub returns : goal.returns
returns c = laps_run
