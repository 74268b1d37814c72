-- What the replies to lines tell that they took, beside what was counted.
use Rattle.std.specs.Prelude.{ℕ, ◌+◌, ◌≤◌, List, [], ◌∷◌, Option, Some, None, Ok, if◌then◌else◌}
use Rattle.query_laws.specs.StepLedger.{Counts}
use Rattle.map_model.specs.Command.{Command}
use Rattle.map_model.specs.Cost.{Cost, Untold, Updating, Joining, Asking}
use Rattle.map_model.specs.Grammar.{Parsed, parse}
use Rattle.map_model.specs.Output.{Told}
use Rattle.map_model.specs.Reply.{is_refusal}
use Rattle.map_model.specs.State.{State}
use Rattle.map_session.specs.Answering.{Moment, Runs}
use Rattle.map_session.specs.Session.{SessionState, map_in, cost_told, Obeys}
use Rattle.map_session.specs.Work.{Work, no_work, both, work_said}

-- what a reply tells
abbrev pub work_told : Cost → Work
work_told Untold = no_work
work_told (Updating spent) = record no_work { turns = spent.turns; marks = spent.marks }
work_told (Joining spent) = record no_work { turns = spent.turns; marks = spent.marks }
work_told (Asking asked) = record no_work { touches = asked.touches; consulted = asked.parts }

-- What a refused command may have taken and doesn't tell: the bounds of one that memory refuses, and nothing of any other.
abbrev pub work_lacking : State → Parsed → Option Told → Work
work_lacking state said None = no_work
work_lacking state said (Some told) = if is_refusal told.reply then work_said state said else no_work

-- what the replies to lines tell that they took, all together
abbrev pub told_in : (start : Moment) (script : List (List ℕ)) (now : Moment) → Runs start script now → Work
told_in start [] now runs = no_work
told_in start (line ∷ lines) now runs = both (work_told (cost_told runs.1.given.told)) (told_in runs.0 lines now runs.2)

-- the bounds of what memory refused among these lines, all together
abbrev pub lacking_in : (start : Moment) (script : List (List ℕ)) (now : Moment) → Runs start script now → Work
lacking_in start [] now runs = no_work
lacking_in start (line ∷ lines) now runs = both (work_lacking (map_in start.session) (parse (map_in start.session).version line) runs.1.given.told) (lacking_in runs.0 lines now runs.2)

-- what replies to commands tell that they took, all together
abbrev pub told_to : List Told → Work
told_to [] = no_work
told_to (one ∷ more) = both (work_told one.cost) (told_to more)

-- the bounds of what memory refused among these commands, all together
abbrev pub lacking_to : (old : SessionState) (before : Counts) (commands : List Command) (told : List Told) (new : SessionState) (after : Counts)
    → Obeys old before commands told new after → Work
lacking_to old before [] told new after obeys = no_work
lacking_to old before (command ∷ commands) [] new after obeys = no_work
lacking_to old before (command ∷ commands) (one ∷ more) new after obeys =
    both (work_lacking (map_in old) (Ok (Some command)) (Some one)) (lacking_to obeys.0 obeys.1 commands more new after obeys.3)

-- What is told adds up to what was counted, but for what refused memory leaves untold. Only the touches of updates aren't told.
pub record AddsUp (told lacking : Work) (old new : Counts) : Type 0 where
  pub turns_counted : old.turns + told.turns ≤ new.turns
  pub marks_counted : old.marks + told.marks ≤ new.marks
  pub touches_counted : old.touches + told.touches ≤ new.touches
  pub consulted_counted : old.consulted + told.consulted ≤ new.consulted
  pub turns_told : new.turns ≤ old.turns + told.turns + lacking.turns
  pub marks_told : new.marks ≤ old.marks + told.marks + lacking.marks
  pub consulted_told : new.consulted ≤ old.consulted + told.consulted + lacking.consulted
