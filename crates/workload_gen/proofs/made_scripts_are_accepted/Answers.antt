use Rattle.workload_gen.proofs.Accepting.{script_accepted}
use Rattle.workload_gen.proofs.made_scripts_are_accepted.Goals as goal

pub returns : goal.returns
returns c = script_accepted
