-- The faults of a layer of one kind, as the map has them.
use Rattle.std.specs.Prelude.{Result, Ok, Err}
use Rattle.layer_kinds.specs.declared.faults.AskFault as kind_ask
use Rattle.layer_kinds.specs.declared.faults.AskFault.TheVariants as of_ask
use Rattle.layer_kinds.specs.declared.faults.UpdateFault as kind_update
use Rattle.layer_kinds.specs.declared.faults.UpdateFault.TheVariants as of_update
use Rattle.map_layers.specs.declared.faults.AskFault.{AskFault}
use Rattle.map_layers.specs.declared.faults.AskFault.TheVariants as ask
use Rattle.map_layers.specs.declared.faults.UpdateFault.{UpdateFault}
use Rattle.map_layers.specs.declared.faults.UpdateFault.TheVariants as update

-- why a layer of one kind isn't updated, as the map says it
abbrev pub update_fault_of : kind_update.UpdateFault → UpdateFault
update_fault_of (of_update.Duplicate id) = update.Duplicate id
update_fault_of (of_update.Unknown id) = update.Unknown id
update_fault_of of_update.Full = update.Full
update_fault_of of_update.NoMemory = update.NoMemory

-- what a layer of one kind did or refused, as the map says it
abbrev pub update_result_of : {T : Type 0} → Result T kind_update.UpdateFault → Result T UpdateFault
update_result_of (Ok done) = Ok done
update_result_of (Err fault) = Err (update_fault_of fault)

-- why a layer of one kind doesn't answer, as the map says it
abbrev pub ask_fault_of : kind_ask.AskFault → AskFault
ask_fault_of of_ask.NoIndex = ask.NoIndex
ask_fault_of (of_ask.Building items) = ask.Building items
ask_fault_of of_ask.NoMemory = ask.NoMemory

-- what a layer of one kind answers, as the map says it
abbrev pub ask_result_of : {T : Type 0} → Result T kind_ask.AskFault → Result T AskFault
ask_result_of (Ok given) = Ok given
ask_result_of (Err fault) = Err (ask_fault_of fault)

-- what holds of an update where a layer of one kind did or refused it, where there was none, and where the shape is of the other kind
abbrev pub IfUpdated : {T : Type 0} → (Result T kind_update.UpdateFault → Type 0) → (none other : Type 0) → Result T UpdateFault → Type 0
IfUpdated in_kind none other (Ok done) = in_kind (Ok done)
IfUpdated in_kind none other (Err update.NoLayer) = none
IfUpdated in_kind none other (Err update.WrongKind) = other
IfUpdated in_kind none other (Err (update.Duplicate id)) = in_kind (Err (of_update.Duplicate id))
IfUpdated in_kind none other (Err (update.Unknown id)) = in_kind (Err (of_update.Unknown id))
IfUpdated in_kind none other (Err update.Full) = in_kind (Err of_update.Full)
IfUpdated in_kind none other (Err update.NoMemory) = in_kind (Err of_update.NoMemory)

-- what holds of a question where a layer of one kind answered or refused it, and where it was refused before
abbrev pub IfAsked : {T : Type 0} → (Result T kind_ask.AskFault → Type 0) → (before : Type 0) → Result T AskFault → Type 0
IfAsked in_kind before (Ok given) = in_kind (Ok given)
IfAsked in_kind before (Err ask.NoLayer) = before
IfAsked in_kind before (Err ask.WrongKind) = before
IfAsked in_kind before (Err ask.NoIndex) = in_kind (Err of_ask.NoIndex)
IfAsked in_kind before (Err (ask.Building items)) = in_kind (Err (of_ask.Building items))
IfAsked in_kind before (Err (ask.Unknown id)) = before
IfAsked in_kind before (Err ask.NoMemory) = in_kind (Err of_ask.NoMemory)
