-- Forms as the definitions have them.
use Rattle.std.specs.Prelude.{◌≡◌, ℕ, Bool, true, false, ⊤, List, [], ◌∷◌, map, bytes_eq}
use Rattle.map_model.specs.Form as model
use Rattle.script_lang.specs.declared.form.Field.{Field}
use Rattle.script_lang.specs.declared.form.Field.TheVariants as fields
use Rattle.script_lang.specs.declared.numbers.Limits.{Limits}
use Rattle.script_lang.specs.declared.form.Tail.{Tail}
use Rattle.script_lang.specs.declared.form.Tail.TheVariants as tails
use Rattle.script_lang.specs.declared.form.Order.{Order}
use Rattle.script_lang.specs.declared.form.Order.TheVariants as orders
use Rattle.script_lang.specs.declared.form.Verb.{Verb}
use Rattle.script_lang.specs.declared.form.Verb.TheVariants as verbs
use Rattle.script_lang.specs.declared.form.Question.{Question}
use Rattle.script_lang.specs.declared.form.Question.TheVariants as questions
use Rattle.script_lang.specs.declared.form.Form.{Form}

-- a field as the definitions have it
abbrev pub field_of : Field → model.Field
field_of fields.Id = model.Id
field_of fields.Coordinate = model.Coordinate
field_of fields.Weight = model.Weight
field_of fields.Amount = model.Amount
field_of fields.VersionNumber = model.VersionNumber

-- the numbers that a field takes, where they have no `-`
abbrev pub limits_of_field : Field → Limits
limits_of_field field = let limits = model.limits_of (field_of field) in record { least = limits.least; greatest = limits.greatest }

-- an order of coordinates as the definitions have it
abbrev pub order_of : Order → model.Order
order_of orders.Free = model.Free
order_of orders.Ends = model.Ends
order_of orders.Heights = model.Heights
order_of orders.Corners = model.Corners

-- what follows the numbers, as the definitions have it
abbrev pub tail_of : Tail → model.Tail
tail_of tails.Bare = model.Bare
tail_of tails.Indexes = model.Indexes
tail_of tails.OneIndex = model.OneIndex

-- the command word of a question
abbrev pub verb_of_question : Question → model.Verb
verb_of_question questions.Count = model.Count
verb_of_question questions.Sum = model.Sum
verb_of_question questions.List = model.ListIds
verb_of_question questions.Near = model.Near
verb_of_question questions.Nearest = model.Nearest
verb_of_question questions.Above = model.Above
verb_of_question questions.Top = model.Top
verb_of_question questions.Stab = model.Stab
verb_of_question questions.StabCount = model.StabCount
verb_of_question questions.Cross = model.Cross
verb_of_question questions.CrossCount = model.CrossCount

-- what a command word stands for, as the definitions have it
abbrev pub verb_of : Verb → model.Verb
verb_of verbs.Livemap = model.Livemap
verb_of verbs.Layer = model.Layer
verb_of verbs.Index = model.Index
verb_of verbs.Add = model.Add
verb_of verbs.Seg = model.Seg
verb_of verbs.Move = model.Move
verb_of verbs.Drop = model.Drop
verb_of (verbs.Ask question) = verb_of_question question
verb_of verbs.Get = model.Get
verb_of verbs.Size = model.Size
verb_of verbs.Recent = model.Recent

-- fields as the definitions have them
abbrev pub fields_of : List Field → List model.Field
fields_of fs = map field_of fs

-- a form as the definitions have it
abbrev pub form_of : Form → model.Form
form_of f = record { word = f.word.now; has_name = f.has_name; fields = fields_of f.fields.now; tail = tail_of f.tail; order = order_of f.order }

-- the form is the row of its verb
abbrev pub IsRow : Form → Type 0
IsRow f = form_of f ≡ model.form (verb_of f.verb)

-- the command word of a row
abbrev pub verb_of_row : Form → model.Verb
verb_of_row f = verb_of f.verb

-- the form is that of a word
abbrev pub has_word : List ℕ → Form → Bool
has_word word f = bytes_eq f.word.now word

-- each form is the row of its verb
abbrev pub AreRows : List Form → Type 0
AreRows [] = ⊤
AreRows (f ∷ fs) = IsRow f × AreRows fs

-- the field is for a coordinate or a weight
abbrev pub is_place : Field → Bool
is_place fields.Id = false
is_place fields.Coordinate = true
is_place fields.Weight = true
is_place fields.Amount = false
is_place fields.VersionNumber = false
