-- Commands that a made script gives, one after another, and what is live in the end.
use Rattle.std.proofs.Common.{◌≡◌, ◌∙◌, ℕ, List, [], ◌∷◌, Option, Some, None, Result, Ok, Err, refl, sym, ap}
use Rattle.std.specs.Result.{result_unwrap_or}
use Rattle.map_layers.specs.declared.faults.AskFault.{AskFault}
use Rattle.map_layers.specs.declared.faults.AskFault.TheVariants.{NoLayer, WrongKind, NoIndex, Building, Unknown, NoMemory}
use Rattle.map_layers.specs.Replies.{questioned, IsAnswered}
use Rattle.map_model.specs.Command.{Command, Size}
use Rattle.map_model.specs.Line.{IsCommand}
use Rattle.map_model.specs.Machine.{Outcome, size_of}
use Rattle.map_model.specs.Reply.{Reply, Made, Updated, Answered, Got, Sized, Latest, Refused}
use Rattle.map_model.specs.State.{Layer, State, layer_named}
use Rattle.map_model.specs.Version.{One}
use Rattle.script_lang.specs.declared.command.Command as script
use Rattle.script_lang.specs.Command.{command_of}
use Rattle.workload_gen.specs.Made.{made, GivesCommand}
use Rattle.program_run.specs.Made.{live_in, live_made}

-- what is to come begins with the command that is given
pub given_first : (coming : List Command) (given : script.Command) (after : List Command) → GivesCommand coming (Some given) after → coming ≡ command_of given ∷ after
given_first [] given after gives = absurd gives
given_first (command ∷ commands) given after gives = λ i. sym gives.0 i ∷ sym gives.2 i

-- nothing is to come where none is given
pub none_to_come : (coming : List Command) (given : Option script.Command) (after : List Command) → GivesCommand coming given after → ((command : script.Command) → given ≡ Some command → ⊥) → coming ≡ []
none_to_come [] given after gives none = refl
none_to_come (command ∷ commands) None after gives none = absurd gives
none_to_come (command ∷ commands) (Some given) after gives none = absurd (none given refl)

-- the command that is given is one that a line of version 1 can say
pub given_lawful : (coming : List Command) (given : script.Command) (after : List Command) → GivesCommand coming (Some given) after → IsCommand One (command_of given)
given_lawful [] given after gives = absurd gives
given_lawful (command ∷ commands) given after gives = gives.1

-- ---- how many items are live at the end

abbrev told_size : Reply → ℕ
told_size Made = 0
told_size Updated = 0
told_size (Answered answer) = 0
told_size (Got shape) = 0
told_size (Sized n) = n
told_size (Latest ids) = 0
told_size (Refused cause) = 0

live_told : (state : State) (layer : Option Layer) → told_size (size_of state layer).reply ≡ live_in layer
live_told state None = refl
live_told state (Some layer) = refl

-- the size that a layer tells, or none, is its number of live items
pub live_by : (state : State) (result : Result ℕ AskFault) → IsAnswered state (Size made) state (questioned Sized result) → result_unwrap_or result 0 ≡ live_made state
live_by state (Ok n) is = sym (ap (λ (o : Outcome). told_size o.reply) is) ∙ live_told state (layer_named made state.layers)
live_by state (Err NoMemory) is = absurd (let none : ⊥ = cc is.0 in none)
live_by state (Err NoLayer) is = sym (ap (λ (o : Outcome). told_size o.reply) is) ∙ live_told state (layer_named made state.layers)
live_by state (Err WrongKind) is = sym (ap (λ (o : Outcome). told_size o.reply) is) ∙ live_told state (layer_named made state.layers)
live_by state (Err NoIndex) is = sym (ap (λ (o : Outcome). told_size o.reply) is) ∙ live_told state (layer_named made state.layers)
live_by state (Err (Building items)) is = sym (ap (λ (o : Outcome). told_size o.reply) is) ∙ live_told state (layer_named made state.layers)
live_by state (Err (Unknown id)) is = sym (ap (λ (o : Outcome). told_size o.reply) is) ∙ live_told state (layer_named made state.layers)
