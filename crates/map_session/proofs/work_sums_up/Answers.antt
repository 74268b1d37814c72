use Rattle.map_session.proofs.AllCounted.{all_counted}
use Rattle.map_session.proofs.work_sums_up.Goals as goal

pub returns : goal.returns
returns c = all_counted
