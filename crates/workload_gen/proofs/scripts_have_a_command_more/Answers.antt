use Rattle.workload_gen.proofs.Giving.{script_length}
use Rattle.workload_gen.proofs.scripts_have_a_command_more.Goals as goal

pub returns : goal.returns
returns c = script_length
