use Rattle.map_session.proofs.SumsUp.{sums_up}
use Rattle.map_session.proofs.lines_sum_up.Goals as goal

pub returns : goal.returns
returns c = λ start now script runs. sums_up start script now runs
