-- A line that passes each step is read as a command within its limits.
use Rattle.std.proofs.Common.{◌≡◌, ℕ, ◌≤◌, true, false, cond, not, nat_lt, List, length, Some, Ok, Err, arith, refl, sym, ap, ◌∙◌}
use Rattle.std.proofs.lemmas.Bool.Decides.{nat_tests}
use Rattle.map_model.specs.Words.{words, name_field, longest_line}
use Rattle.map_model.specs.Shape as shapes
use Rattle.map_model.specs.Index.{IndexSet, Index}
use Rattle.map_model.specs.LineFault as faults
use Rattle.map_model.specs.Form as model
use Rattle.map_model.specs.Version.{Version, One, Two}
use Rattle.map_model.specs.Answer as questions
use Rattle.map_model.specs.Command as commands
use Rattle.map_model.specs.Grammar.{Values, parse, parse_text, parse_words, command_of}
use Rattle.map_model.specs.Line.{IsCoordinate, InLimits}
use Rattle.map_model.proofs.LawfulCommands.{IsCommand-parsed}
use Rattle.script_lang.specs.declared.reading.Read.{Read}
use Rattle.script_lang.specs.Form.{verb_of, form_of}
use Rattle.script_lang.specs.Indexes.{ending_in}
use Rattle.script_lang.specs.Read.{has_end, values_in, finished, tailed, said, parse_printable}
use Rattle.script_lang.proofs.Printable.{looked_at_last, line_last, command_prints, whole_line}

abbrev pub rest_of : Read → List (List ℕ)
rest_of read = words read.rest.now

-- the values of a line of which so much is read
abbrev pub values : Read → List ℕ → shapes.Kind → IndexSet → Index → Values
values read name kind indexes index = record (values_in name read.numbers) { kind = kind; indexes = indexes; index = index }

-- no step finds a fault
pub record Passes (version : Version) (line : List ℕ) (read : Read) (name : List ℕ) (kind : shapes.Kind) (indexes : IndexSet) (index : Index) : Type 0 where
  pub short : length line ≤ longest_line
  pub said : said (Ok (Some read)) ≡ parse_printable version (words line)
  pub ended : has_end (form_of read.form.now).tail (length (rest_of read)) ≡ true
  pub named : name_field read.name.now ≡ Some name
  pub digits : read.numbers.are_digits ≡ true
  pub in_range : read.numbers.are_in_range ≡ true
  pub ordered : model.is_ordered (form_of read.form.now).order read.numbers.places ≡ true
  pub ending : ending_in (form_of read.form.now).tail (length (rest_of read)) (rest_of read) ≡ Ok (kind, indexes, index)

wide : (n : ℕ) → IsCoordinate One n → IsCoordinate Two n
wide n h = omega (arith, h)

wide_question : (name : List ℕ) (question : questions.Question) → InLimits One (commands.Ask name question) → InLimits Two (commands.Ask name question)
wide_question name (questions.CountIn rect) h = (h.0, h.1, wide rect.x2 h.2, wide rect.y2 h.3)
wide_question name (questions.SumIn rect) h = (h.0, h.1, wide rect.x2 h.2, wide rect.y2 h.3)
wide_question name (questions.ListIn rect) h = (h.0, h.1, wide rect.x2 h.2, wide rect.y2 h.3)
wide_question name (questions.Near x y) h = (wide x h.0, wide y h.1)
wide_question name (questions.Nearest k x y) h = (h.0, wide x h.1, wide y h.2)
wide_question name (questions.Above x1 x2 y) h = (h.0, wide x2 h.1, wide y h.2)
wide_question name (questions.Top x1 x2) h = (h.0, wide x2 h.1)
wide_question name (questions.Stab x) h = wide x h
wide_question name (questions.StabCount x) h = wide x h
wide_question name (questions.CrossIn x y1 y2) h = (wide x h.0, h.1, wide y2 h.2)
wide_question name (questions.CrossCount x y1 y2) h = (wide x h.0, h.1, wide y2 h.2)

-- what is within the limits of version 1 is within those of version 2
widened : (version : Version) (command : commands.Command) → InLimits version command → InLimits Two command
widened Two command h = h
widened One (commands.Livemap chosen) h = h
widened One (commands.MakeLayer name kind indexes) h = h
widened One (commands.MakeIndex name index) h = h
widened One (commands.Add name id (shapes.Point x y w)) h = (h.0, (wide x h.1.0, wide y h.1.1, h.1.2))
widened One (commands.Add name id (shapes.Segment lo hi y)) h = (h.0, (h.1.0, wide hi h.1.1, wide y h.1.2))
widened One (commands.Move name id x y w) h = (h.0, (wide x h.1.0, wide y h.1.1, h.1.2))
widened One (commands.Drop name id) h = h
widened One (commands.Ask name question) h = wide_question name question h
widened One (commands.Get name id) h = h
widened One (commands.Size name) h = h
widened One (commands.Recent name k) h = h

pub in_limits : (version : Version) (line : List ℕ) (read : Read) (name : List ℕ) (kind : shapes.Kind) (indexes : IndexSet) (index : Index)
    → Passes version line read name kind indexes index → InLimits Two (command_of (verb_of read.form.now.verb) (values read name kind indexes index))
in_limits version line read name kind indexes index h =
    let verb = verb_of read.form.now.verb in
    let f = form_of read.form.now in
    let rest = rest_of read in
    let v = values_in name read.numbers in
    let command = command_of verb (values read name kind indexes index) in
    let short : nat_lt longest_line (length line) ≡ false = grind (arith, nat_tests, h.short) in
    let said : parse_printable version (words line) ≡ Ok (Some command) =
    sym h.said
    ∙ ap (λ b. cond (not b) (Err faults.Fields) (finished verb f rest read.numbers (name_field read.name.now))) h.ended
    ∙ ap (finished verb f rest read.numbers) h.named
    ∙ (λ i. cond (not (h.digits i)) (Err faults.Number) (cond (not (h.in_range i)) (Err faults.Range) (cond (not (h.ordered i)) (Err faults.Order) (tailed verb v (h.ending i))))) in
    let read_as : parse version line ≡ Ok (Some command) =
    ap (parse_text version) (whole_line line (command_prints version line command said))
    ∙ ap (λ b. cond b (Err faults.Line) (parse_words version line (words line))) short
    ∙ sym (line_last version line (words line) refl)
    ∙ ap (looked_at_last line) said in
    widened version command (IsCommand-parsed version line command read_as).in_limits
