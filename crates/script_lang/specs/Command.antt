-- A command as the definitions have it.
use Rattle.std.specs.Prelude.{Option, Result, Ok, Err, option_map}
use Rattle.map_model.specs.Shape as shapes
use Rattle.map_model.specs.Command as model
use Rattle.map_model.specs.Grammar as grammar
use Rattle.map_shapes.specs.Kind.{kind_of}
use Rattle.map_shapes.specs.Version.{version_of}
use Rattle.map_shapes.specs.IndexSet.{index_set_of, index_of}
use Rattle.map_questions.specs.Any.{question_of}
use Rattle.script_lang.specs.declared.command.Command.{Command}
use Rattle.script_lang.specs.declared.command.Command.TheVariants as commands
use Rattle.script_lang.specs.declared.making.Values.{Values}
use Rattle.script_lang.specs.declared.line_fault.LineFault.{LineFault}
use Rattle.script_lang.specs.LineFault.{fault_of}

-- a command as the definitions have it
abbrev pub command_of : Command → model.Command
command_of (commands.Livemap version) = model.Livemap (version_of version)
command_of (commands.Layer name kind indexes) = model.MakeLayer name (kind_of kind) (index_set_of indexes)
command_of (commands.Index name index) = model.MakeIndex name (index_of index)
command_of (commands.Add name id x y w) = model.Add name id (shapes.Point x y w)
command_of (commands.Seg name id lo hi y) = model.Add name id (shapes.Segment lo hi y)
command_of (commands.Move name id x y w) = model.Move name id x y w
command_of (commands.Drop name id) = model.Drop name id
command_of (commands.Ask name question) = model.Ask name (question_of question)
command_of (commands.Get name id) = model.Get name id
command_of (commands.Size name) = model.Size name
command_of (commands.Recent name k) = model.Recent name k

-- what the words of a line say, as the definitions have it
abbrev pub values_of : Values → grammar.Values
values_of v = let numbers = v.numbers.now in record { version = version_of numbers.version; name = v.name; id = numbers.id; places = numbers.places; amount = numbers.amount; kind = kind_of v.ending.kind; indexes = index_set_of v.ending.indexes; index = index_of v.ending.index }

-- what a line says: a command, nothing, or a fault, as the definitions have them
abbrev pub parsed : Result (Option Command) LineFault → grammar.Parsed
parsed (Ok found) = Ok (option_map command_of found)
parsed (Err fault) = Err (fault_of fault)
