-- What a command cost as the definitions have it.
use Rattle.map_model.specs.Cost as model
use Rattle.map_shapes.specs.declared.spent.Spent.{Spent}
use Rattle.map_shapes.specs.declared.spent.SpentAtOnce.{SpentAtOnce}
use Rattle.map_shapes.specs.declared.spent.UpdateCost.{UpdateCost}
use Rattle.map_shapes.specs.declared.spent.UpdateCost.TheVariants.{Spread, AtOnce}
use Rattle.map_shapes.specs.declared.question_cost.QuestionCost.{QuestionCost}

-- what an update cost, as the definitions have it
abbrev pub spent_of : Spent → model.Spent
spent_of s = record { turns = s.turns; turn_bound = s.turn_bound; marks = s.marks; mark_bound = s.mark_bound }

-- the same where parts are joined at once
abbrev pub spent_at_once_of : SpentAtOnce → model.SpentAtOnce
spent_at_once_of s = record { turns = s.turns; total = s.total; turn_bound = s.turn_bound; marks = s.marks; mark_bound = s.mark_bound }

-- either
abbrev pub update_cost_of : UpdateCost → model.Cost
update_cost_of (Spread s) = model.Updating (spent_of s)
update_cost_of (AtOnce s) = model.Joining (spent_at_once_of s)

-- what a question cost, as the definitions have it
abbrev pub asked_of : QuestionCost → model.QuestionCost
asked_of a = record { parts = a.parts; part_bound = a.part_bound; touches = a.touches }
