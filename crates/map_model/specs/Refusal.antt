-- Why a line is refused: a variant a cause.
use Rattle.std.specs.Prelude.{ℕ, List, codes, ◌++◌, decimal}
use Rattle.map_model.specs.LineFault as faults

-- why a line or a command is refused
pub data Refusal : Type 0 where
  Line : Refusal
  Command : Refusal
  Fields : Refusal
  Name : Refusal
  Number : Refusal
  Range : Refusal
  Order : Refusal
  -- no layer has the name
  NoLayer : Refusal
  Kind : Refusal
  Index : Refusal
  -- the index waits for so many items
  Building : (items : ℕ) → Refusal
  -- a layer has the name already, or the layer the index
  Taken : Refusal
  -- there are eight layers already
  NoRoom : Refusal
  -- the layer has an item of this identifier
  Duplicate : (id : ℕ) → Refusal
  -- the layer has no item of this identifier
  Unknown : (id : ℕ) → Refusal
  -- the layer has as many items as one of this map may have
  Full : Refusal
  -- a layer stands already, so that the version stays
  Version : Refusal
  -- memory is lacking
  NoMemory : Refusal

-- what the refused line is answered
abbrev pub refusal_text : Refusal → List ℕ
refusal_text Line = codes "no line"
refusal_text Command = codes "no command"
refusal_text Fields = codes "no fields"
refusal_text Name = codes "no name"
refusal_text Number = codes "no number"
refusal_text Range = codes "no range"
refusal_text Order = codes "no order"
refusal_text NoLayer = codes "no layer"
refusal_text Kind = codes "no kind"
refusal_text Index = codes "no index"
refusal_text (Building items) = codes "no building " ++ decimal items
refusal_text Taken = codes "no taken"
refusal_text NoRoom = codes "no room"
refusal_text (Duplicate id) = codes "no duplicate " ++ decimal id
refusal_text (Unknown id) = codes "no unknown " ++ decimal id
refusal_text Full = codes "no full"
refusal_text Version = codes "no version"
refusal_text NoMemory = codes "no memory"

-- what a line with a fault is refused as
abbrev pub refusal_of_fault : faults.LineFault → Refusal
refusal_of_fault faults.Line = Line
refusal_of_fault faults.Command = Command
refusal_of_fault faults.Fields = Fields
refusal_of_fault faults.Name = Name
refusal_of_fault faults.Number = Number
refusal_of_fault faults.Range = Range
refusal_of_fault faults.Order = Order
refusal_of_fault faults.Kind = Kind
refusal_of_fault faults.Index = Index
