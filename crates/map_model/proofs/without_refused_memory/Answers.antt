use Rattle.map_model.proofs.Outputs.{output_without_refusals}
use Rattle.map_model.proofs.without_refused_memory.Goals as goal

pub returns : goal.returns
returns c = output_without_refusals
