use Rattle.map_model.proofs.Outputs.{end_of_output}
use Rattle.map_model.proofs.end_is_fixed.Goals as goal

pub returns : goal.returns
returns c = end_of_output
