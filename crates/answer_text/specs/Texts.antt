-- A reply's line by its parts: a word or two, numbers, identifiers or ` none`, and what it cost.
use Rattle.std.specs.Prelude.{◌==◌, ℕ, List, [], ◌∷◌, ◌++◌, Bool, false, Some, None, is_none, codes, decimal, length, flat_map, if◌then◌else◌}
use Rattle.std.specs.Fmt.{signed_decimal}
use Rattle.map_model.specs.Version.{Version}
use Rattle.map_model.specs.Shape as model
use Rattle.map_model.specs.Reply.{spaced, spaced_coordinate}
use Rattle.map_model.specs.Cost.{cost_text, out_of}
use Rattle.map_model.specs.Found as shapes
use Rattle.map_shapes.specs.Shape.{model_shape}
use Rattle.map_shapes.specs.declared.spent.SpentAtOnce.{SpentAtOnce}
use Rattle.map_questions.specs.declared.any_answer.AnyAnswer.{AnyAnswer}
use Rattle.map_questions.specs.declared.any_answer.AnyAnswer.TheVariants as answers
use Rattle.answer_text.specs.declared.refusal.Refusal.{Refusal}
use Rattle.answer_text.specs.declared.refusal.Refusal.TheVariants as causes
use Rattle.answer_text.specs.declared.reply.Reply.{Reply}
use Rattle.answer_text.specs.declared.reply.Reply.TheVariants as variants
use Rattle.answer_text.specs.declared.texts.Number.{Number}
use Rattle.answer_text.specs.declared.texts.Number.TheVariants.{Plain, Wide, Signed}
use Rattle.answer_text.specs.Reply.{cost_of}

abbrev pub refusal_word : Refusal → List ℕ
refusal_word causes.Line = codes "no line"
refusal_word causes.Command = codes "no command"
refusal_word causes.Fields = codes "no fields"
refusal_word causes.Name = codes "no name"
refusal_word causes.Number = codes "no number"
refusal_word causes.Range = codes "no range"
refusal_word causes.Order = codes "no order"
refusal_word causes.NoLayer = codes "no layer"
refusal_word causes.Kind = codes "no kind"
refusal_word causes.Index = codes "no index"
refusal_word (causes.Building items) = codes "no building"
refusal_word causes.Taken = codes "no taken"
refusal_word causes.NoRoom = codes "no room"
refusal_word (causes.Duplicate id) = codes "no duplicate"
refusal_word (causes.Unknown id) = codes "no unknown"
refusal_word causes.Full = codes "no full"
refusal_word causes.Version = codes "no version"
refusal_word causes.NoMemory = codes "no memory"

abbrev pub answer_word : AnyAnswer → List ℕ
answer_word (answers.Counted n) = codes "count"
answer_word (answers.Summed n) = codes "sum"
answer_word (answers.Listed ids) = codes "list"
answer_word (answers.NearestOne found) = codes "near"
answer_word (answers.NearestOnes found) = codes "nearest"
answer_word (answers.ListedAbove ids) = codes "above"
answer_word (answers.Highest peak) = codes "top"
answer_word (answers.Stabbed ids) = codes "stab"
answer_word (answers.StabCounted n) = codes "stabcount"
answer_word (answers.Crossed ids) = codes "cross"
answer_word (answers.CrossCounted n) = codes "crosscount"

abbrev pub reply_word : Reply → List ℕ
reply_word variants.Made = codes "ok"
reply_word (variants.Updated spent) = codes "ok"
reply_word (variants.Answered answer asked) = answer_word answer
reply_word (variants.Got shape) = codes "get"
reply_word (variants.Size n) = codes "size"
reply_word (variants.Recent ids) = codes "recent"
reply_word (variants.Refused cause) = refusal_word cause

-- a number as it is written
abbrev pub number_text : Number → List ℕ
number_text (Plain n) = decimal n
number_text (Wide n) = decimal n
number_text (Signed z) = signed_decimal z

-- a number behind a space
abbrev pub spaced_number : Number → List ℕ
spaced_number n = 32 ∷ number_text n

-- numbers without a sign, each behind a space
abbrev pub spaced_all : List ℕ → List ℕ
spaced_all ns = flat_map spaced ns

abbrev pub found_text : shapes.Found → List ℕ
found_text f = spaced_all (f.id ∷ f.dist ∷ [])

abbrev pub refusal_numbers : Refusal → List ℕ
refusal_numbers (causes.Building items) = spaced_all (items ∷ [])
refusal_numbers (causes.Duplicate id) = spaced_all (id ∷ [])
refusal_numbers (causes.Unknown id) = spaced_all (id ∷ [])
refusal_numbers _ = []

-- the numbers of an answer but the identifiers that it lists
abbrev pub answer_numbers : Version → AnyAnswer → List ℕ
answer_numbers version (answers.Counted n) = spaced_all (n ∷ [])
answer_numbers version (answers.Summed n) = spaced_all (n ∷ [])
answer_numbers version (answers.Listed ids) = []
answer_numbers version (answers.NearestOne None) = []
answer_numbers version (answers.NearestOne (Some found)) = found_text found
answer_numbers version (answers.NearestOnes found) = flat_map found_text found
answer_numbers version (answers.ListedAbove ids) = []
answer_numbers version (answers.Highest None) = []
answer_numbers version (answers.Highest (Some peak)) = spaced peak.id ++ (spaced_coordinate version peak.y ++ [])
answer_numbers version (answers.Stabbed ids) = []
answer_numbers version (answers.StabCounted n) = spaced_all (n ∷ [])
answer_numbers version (answers.Crossed ids) = []
answer_numbers version (answers.CrossCounted n) = spaced_all (n ∷ [])

-- the numbers of a shape
abbrev pub shape_numbers : Version → model.Shape → List ℕ
shape_numbers version (model.Point x y w) = spaced_coordinate version x ++ (spaced_coordinate version y ++ (spaced w ++ []))
shape_numbers version (model.Segment lo hi y) = spaced_coordinate version lo ++ (spaced_coordinate version hi ++ (spaced_coordinate version y ++ []))

abbrev pub reply_numbers : Version → Reply → List ℕ
reply_numbers version variants.Made = []
reply_numbers version (variants.Updated spent) = []
reply_numbers version (variants.Answered answer asked) = answer_numbers version answer
reply_numbers version (variants.Got shape) = shape_numbers version (model_shape shape)
reply_numbers version (variants.Size n) = spaced_all (n ∷ [])
reply_numbers version (variants.Recent ids) = []
reply_numbers version (variants.Refused cause) = refusal_numbers cause

abbrev pub answer_ids : AnyAnswer → List ℕ
answer_ids (answers.Listed ids) = ids
answer_ids (answers.ListedAbove ids) = ids
answer_ids (answers.Stabbed ids) = ids
answer_ids (answers.Crossed ids) = ids
answer_ids _ = []

abbrev pub listed_ids : Reply → List ℕ
listed_ids (variants.Answered answer asked) = answer_ids answer
listed_ids (variants.Recent ids) = ids
listed_ids _ = []

-- whether it lists nothing or found nothing
abbrev pub answers_none : AnyAnswer → Bool
answers_none (answers.Listed ids) = length ids == 0
answers_none (answers.NearestOne found) = is_none found
answers_none (answers.NearestOnes found) = length found == 0
answers_none (answers.ListedAbove ids) = length ids == 0
answers_none (answers.Highest peak) = is_none peak
answers_none (answers.Stabbed ids) = length ids == 0
answers_none (answers.Crossed ids) = length ids == 0
answers_none _ = false

abbrev pub has_none : Reply → Bool
has_none (variants.Answered answer asked) = answers_none answer
has_none (variants.Recent ids) = length ids == 0
has_none _ = false

abbrev pub none_text : Reply → List ℕ
none_text reply = if has_none reply then codes " none" else []

-- turns where parts are joined at once, with the sum of them and its bound
abbrev pub turns_text : SpentAtOnce → List ℕ
turns_text s = (codes " turns " ++ decimal s.turns) ++ (codes " total" ++ out_of s.total s.turn_bound)

abbrev pub tail_text : Bool → Reply → List ℕ
tail_text ledger reply = if ledger then cost_text (cost_of reply) else []
