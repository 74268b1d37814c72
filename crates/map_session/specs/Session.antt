-- What a session is, and what a command and a line do to it.
use Rattle.std.specs.Prelude.{◌≡◌, ℕ, ◌+◌, Bool, List, [], ◌∷◌, Option, Some, None, Ok, if◌then◌else◌, option_map}
use Rattle.query_laws.specs.StepLedger.{Counts}
use Rattle.map_model.specs.State.{State}
use Rattle.map_model.specs.Command.{Command}
use Rattle.map_model.specs.Index.{one_if}
use Rattle.map_model.specs.Cost.{Cost, Untold}
use Rattle.map_model.specs.Reply.{is_refusal}
use Rattle.map_model.specs.Grammar.{Parsed, parse}
use Rattle.map_model.specs.Output.{Told, Given, AnswersTo, refusal_count}
use Rattle.answer_text.specs.declared.reply.Reply.{Reply}
use Rattle.answer_text.specs.Reply.{reply_of, cost_of}
use Rattle.map_layers.specs.Layers.{LayersState, no_layers, map_of}
use Rattle.map_session.specs.declared.session.Done.{Done}
use Rattle.map_session.specs.declared.session.Done.TheVariants.{Silent, Answered, Refused}
use Rattle.map_session.specs.Work.{work_said, is_update_said, lap_said, IsCounted, TellsEveryPart}

-- the layers, whether replies tell what they cost, and how many commands and lines there were, and were refused
pub record SessionState : Type 0 where
  pub layers : LayersState
  pub ledger : Bool
  pub lines : ℕ
  pub refused : ℕ

-- a session without layers, for layers of so many items, before any line
abbrev pub new_session : Bool → ℕ → SessionState
new_session ledger most = record { layers = no_layers most; ledger = ledger; lines = 0; refused = 0 }

-- the map as the definitions have it
abbrev pub map_in : SessionState → State
map_in s = map_of s.layers

-- a reply with what it cost, as the definitions have them
abbrev pub told_by : Reply → Told
told_by reply = record { reply = reply_of reply; cost = cost_of reply }

-- what a reply, or none, and the map after it stand for in the definitions
abbrev pub given_by : Option Reply → State → Given
given_by reply state = record { told = option_map told_by reply; state = state }

-- what a reply tells that it cost
abbrev pub cost_told : Option Told → Cost
cost_told None = Untold
cost_told (Some told) = told.cost

-- What was said is executed, with this answer, and so much is counted for it.
pub record Executes (old : SessionState) (before : Counts) (said : Parsed) (given : Given) (new : SessionState) (after : Counts) : Type 0 where
  pub answers : AnswersTo (map_in old) said given
  pub map : map_in new ≡ given.state
  pub counted : IsCounted (work_said (map_in old) said) (cost_told given.told) before after
  pub parts : TellsEveryPart old.layers said (cost_told given.told)
  pub lap : after.lap_start ≡ lap_said said before
  pub ledger : new.ledger ≡ old.ledger
  pub lines : new.lines ≡ old.lines + 1
  pub refused : new.refused ≡ old.refused + refusal_count given.told
  pub updates : new.layers.updates ≡ old.layers.updates + one_if (is_update_said said)

-- What a line says in the version of the map before it is executed, with this answer, and so much is counted for it.
abbrev pub ExecutesLine : SessionState → Counts → List ℕ → Given → SessionState → Counts → Type 0
ExecutesLine old before line given new after = Executes old before (parse (map_in old).version line) given new after

-- Commands were executed one after another, and each was answered so.
abbrev pub Obeys : SessionState → Counts → List Command → List Told → SessionState → Counts → Type 0
Obeys old before [] [] new after = (new ≡ old) × (after ≡ before)
Obeys old before [] (one ∷ more) new after = ⊥
Obeys old before (command ∷ commands) [] new after = ⊥
Obeys old before (command ∷ commands) (one ∷ more) new after =
    (next : SessionState) × (counts : Counts) × Executes old before (Ok (Some command)) (record { told = Some one; state = map_in next }) next counts
    × Obeys next counts commands more new after

-- Silent where there is no reply, Refused for a refusal, and Answered for any other
abbrev pub done_of : Option Told → Done
done_of None = Silent
done_of (Some told) = if is_refusal told.reply then Refused else Answered
