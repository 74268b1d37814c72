-- What is left to look at once the words of a line are read along their form.
use Rattle.std.specs.Prelude.{ℕ, ◌==◌, Bool, true, false, not, List, [], ◌∷◌, length, Option, Some, None, Result, Ok, Err, nat_le, codes, if◌then◌else◌}
use Rattle.std.specs.List.{starts_with}
use Rattle.map_model.specs.Words.{words, name_field}
use Rattle.map_model.specs.Index.{Range, no_indexes}
use Rattle.map_model.specs.Shape.{Points}
use Rattle.map_model.specs.LineFault as faults
use Rattle.map_model.specs.Form as model
use Rattle.map_model.specs.Version.{Version}
use Rattle.map_shapes.specs.Version.{version_of}
use Rattle.map_model.specs.Grammar.{Values, Parsed, command_of, parse_verb}
use Rattle.script_lang.specs.declared.line_fault.LineFault.{LineFault}
use Rattle.script_lang.specs.declared.numbers.Numbers.{Numbers}
use Rattle.script_lang.specs.declared.reading.Read.{Read}
use Rattle.script_lang.specs.LineFault.{fault_of}
use Rattle.script_lang.specs.Form.{verb_of, form_of}
use Rattle.script_lang.specs.Indexes.{Ended, ending_in}

-- so many words are what follows the numbers
abbrev pub has_end : model.Tail → ℕ → Bool
has_end model.Bare left = left == 0
has_end model.Indexes left = nat_le 2 left
has_end model.OneIndex left = left == 1

-- a name and numbers, as the definitions have them
abbrev pub values_in : List ℕ → Numbers → Values
values_in name v = record { version = version_of v.version; name = name; id = v.id; places = v.places; amount = v.amount; kind = Points; indexes = no_indexes; index = Range }

-- the command of a verb, with what stands behind the numbers
abbrev pub tailed : model.Verb → Values → Ended → Parsed
tailed verb v (Ok end) = Ok (Some (command_of verb (record v { kind = end.0; indexes = end.1; index = end.2 })))
tailed verb v (Err fault) = Err fault

-- the steps behind those on numbers
abbrev pub ended : model.Verb → model.Form → List (List ℕ) → Values → Parsed
ended verb f rest v = if not (model.is_ordered f.order v.places) then Err faults.Order else tailed verb v (ending_in f.tail (length rest) rest)

-- the steps behind that on the number of words: Name, Number and Range come first
abbrev pub finished : model.Verb → model.Form → List (List ℕ) → Numbers → Option (List ℕ) → Parsed
finished verb f rest v None = Err faults.Name
finished verb f rest v (Some name) =
    if not v.are_digits then Err faults.Number else (if not v.are_in_range then Err faults.Range else ended verb f rest (values_in name v))

-- what the words of a line say behind its command word: Fields comes first
abbrev pub walked : model.Verb → model.Form → List ℕ → Numbers → List (List ℕ) → Parsed
walked verb f word v rest = if not (has_end f.tail (length rest)) then Err faults.Fields else finished verb f rest v (name_field word)

-- what the words of a line say where all its bytes are printable
abbrev pub parse_printable : Version → List (List ℕ) → Parsed
parse_printable version [] = Ok None
parse_printable version (word ∷ words) = if starts_with (λ a b. a == b) word (35 ∷ []) then Ok None else parse_verb version (model.verb_of word) words

-- a name for the forms that have none
abbrev pub no_name : List ℕ
no_name = codes "-"

-- the name in front of words, where one is wanted, and the words behind it
abbrev pub split_name : Bool → List (List ℕ) → Option (List ℕ × List (List ℕ))
split_name true [] = None
split_name true (name ∷ words) = Some (name, words)
split_name false words = Some (no_name, words)

-- what a line says of which so much is read
abbrev pub said : Result (Option Read) LineFault → Parsed
said (Err fault) = Err (fault_of fault)
said (Ok None) = Ok None
said (Ok (Some read)) = walked (verb_of read.form.now.verb) (form_of read.form.now) read.name.now read.numbers (words read.rest.now)
