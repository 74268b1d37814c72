-- A fault as the definitions have it.
use Rattle.map_model.specs.LineFault as model
use Rattle.script_lang.specs.declared.line_fault.LineFault.{LineFault}
use Rattle.script_lang.specs.declared.line_fault.LineFault.TheVariants.{Line, Command, Fields, Name, Number, Range, Order, Kind, Index}

-- a fault as the definitions have it
abbrev pub fault_of : LineFault → model.LineFault
fault_of Line = model.Line
fault_of Command = model.Command
fault_of Fields = model.Fields
fault_of Name = model.Name
fault_of Number = model.Number
fault_of Range = model.Range
fault_of Order = model.Order
fault_of Kind = model.Kind
fault_of Index = model.Index
