use Rattle.std.proofs.Common.{refl}
use Rattle.workload_gen.proofs.worked_script.Goals as goal

pub returns : goal.returns
returns c = record { draw = refl; script = refl }
