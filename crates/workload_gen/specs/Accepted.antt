-- Commands that the machine accepts.
use Rattle.std.specs.Prelude.{◌≡◌, ⊤, false, List, [], ◌∷◌}
use Rattle.map_model.specs.Command.{Command}
use Rattle.map_model.specs.Machine.{step}
use Rattle.map_model.specs.Reply.{is_refusal}
use Rattle.map_model.specs.State.{State}

-- from a map the machine refuses none of these commands, one after another
abbrev pub AreAccepted : State → List Command → Type 0
AreAccepted state [] = ⊤
AreAccepted state (command ∷ commands) = (is_refusal (step state command).reply ≡ false) × AreAccepted (step state command).state commands
