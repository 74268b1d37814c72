-- What the calls' results say in the words of the definitions.
use Rattle.std.specs.Prelude.{◌≡◌, Result, Ok, Err, IsTrue}
use Rattle.map_model.specs.State.{State}
use Rattle.map_model.specs.Refusal as refusals
use Rattle.map_model.specs.Command.{Command}
use Rattle.map_model.specs.Reply.{Reply, Made, Updated, Refused}
use Rattle.map_model.specs.Machine.{step}
use Rattle.map_model.specs.Output.{may_lack_memory}
use Rattle.map_layers.specs.declared.faults.CreateFault.{CreateFault}
use Rattle.map_layers.specs.declared.faults.CreateFault.TheVariants as create
use Rattle.map_layers.specs.declared.faults.HasLayers.{HasLayers}
use Rattle.map_layers.specs.declared.faults.IndexFault.{IndexFault}
use Rattle.map_layers.specs.declared.faults.IndexFault.TheVariants as index
use Rattle.map_layers.specs.declared.faults.UpdateFault.{UpdateFault}
use Rattle.map_layers.specs.declared.faults.UpdateFault.TheVariants as update
use Rattle.map_layers.specs.declared.faults.AskFault.{AskFault}
use Rattle.map_layers.specs.declared.faults.AskFault.TheVariants as ask

-- why a layer isn't made, as the definitions have it
abbrev pub refusal_of_create : CreateFault → refusals.Refusal
refusal_of_create create.Taken = refusals.Taken
refusal_of_create create.NoRoom = refusals.NoRoom

-- why an index isn't made, as the definitions have it
abbrev pub refusal_of_index : IndexFault → refusals.Refusal
refusal_of_index index.NoLayer = refusals.NoLayer
refusal_of_index index.WrongKind = refusals.Kind
refusal_of_index index.Standing = refusals.Taken

-- why an update is refused, as the definitions have it
abbrev pub refusal_of_update : UpdateFault → refusals.Refusal
refusal_of_update update.NoLayer = refusals.NoLayer
refusal_of_update update.WrongKind = refusals.Kind
refusal_of_update (update.Duplicate id) = refusals.Duplicate id
refusal_of_update (update.Unknown id) = refusals.Unknown id
refusal_of_update update.Full = refusals.Full
refusal_of_update update.NoMemory = refusals.NoMemory

-- why a question is refused, as the definitions have it
abbrev pub refusal_of_ask : AskFault → refusals.Refusal
refusal_of_ask ask.NoLayer = refusals.NoLayer
refusal_of_ask ask.WrongKind = refusals.Kind
refusal_of_ask ask.NoIndex = refusals.Index
refusal_of_ask (ask.Building items) = refusals.Building items
refusal_of_ask (ask.Unknown id) = refusals.Unknown id
refusal_of_ask ask.NoMemory = refusals.NoMemory

-- what the choice of a version is replied
abbrev pub chosen : {T : Type 0} → Result T HasLayers → Reply
chosen (Ok done) = Made
chosen (Err fault) = Refused refusals.Version

-- what the making of a layer is replied
abbrev pub created : {T : Type 0} → Result T CreateFault → Reply
created (Ok done) = Made
created (Err fault) = Refused (refusal_of_create fault)

-- what the making of an index is replied
abbrev pub indexed : {T : Type 0} → Result T IndexFault → Reply
indexed (Ok done) = Made
indexed (Err fault) = Refused (refusal_of_index fault)

-- what an add, a move or a drop is replied
abbrev pub updated : {T : Type 0} → Result T UpdateFault → Reply
updated (Ok done) = Updated
updated (Err fault) = Refused (refusal_of_update fault)

-- a question's reply, where an answer is what it says
abbrev pub questioned : {T : Type 0} → (T → Reply) → Result T AskFault → Reply
questioned reply_of (Ok given) = reply_of given
questioned reply_of (Err fault) = Refused (refusal_of_ask fault)

-- A command is answered on a map as the machine that scans it does; where memory is lacking for it, the machine would refuse nothing,
-- and the map stays.
abbrev pub IsAnswered : State → Command → State → Reply → Type 0
IsAnswered old command new (Refused refusals.NoMemory) = IsTrue (may_lack_memory old command) × (new ≡ old)
IsAnswered old command new reply = step old command ≡ record { state = new; reply = reply }
