use Rattle.map_model.proofs.Outputs.{machine_is_output, only_output}
use Rattle.map_model.proofs.one_output.Goals as goal

pub returns : goal.returns
returns c = record { exists = machine_is_output; unique = only_output }
