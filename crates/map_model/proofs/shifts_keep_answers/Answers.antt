use Rattle.map_model.proofs.Shifts.{answer_shifted, shape_shifted}
use Rattle.map_model.proofs.shifts_keep_answers.Goals as goal

pub returns : goal.returns
returns c = record { answers = answer_shifted; shapes = shape_shifted }
