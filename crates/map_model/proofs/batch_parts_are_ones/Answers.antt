use Rattle.map_model.specs.Cost.{batch_part_bound}
use Rattle.map_model.proofs.Levels.{batch_parts-le, AreDigits-below}
use Rattle.map_model.proofs.batch_parts_are_ones.Goals as goal

pub returns : goal.returns
unfolding batch_part_bound
returns c = record { bound = batch_parts-le; digits = λ inserted few. AreDigits-below 64 inserted few }
