-- What the results of the layers' calls cost, as it is told.
use Rattle.std.specs.Prelude.{Result, Ok, Err}
use Rattle.map_model.specs.Cost.{Cost, Untold, Updating, Asking}
use Rattle.map_shapes.specs.declared.question_cost.QuestionCost.{QuestionCost}
use Rattle.map_shapes.specs.declared.spent.Spent.{Spent}
use Rattle.map_shapes.specs.Cost.{spent_of, asked_of}

-- what an update tells that it cost; nothing where it is refused
abbrev pub update_cost : {F : Type 0} → Result Spent F → Cost
update_cost (Ok spent) = Updating (spent_of spent)
update_cost (Err fault) = Untold

-- what an answered question tells that it cost; nothing where it is refused
abbrev pub question_cost : {T F : Type 0} → Result (T × QuestionCost) F → Cost
question_cost (Ok given) = Asking (asked_of given.1)
question_cost (Err fault) = Untold
