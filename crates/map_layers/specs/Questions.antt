-- The questions to a layer, and what they touch.
use Rattle.std.specs.Prelude.{◌≡◌, ℕ, ◌+◌, ◌*◌, ◌<◌, Bool, true, false, length, Result, Ok, Err, IfOk}
use Rattle.query_laws.specs.StepLedger.{Counts}
use Rattle.map_structures.specs.Touches.{PartTouches}
use Rattle.map_model.specs.Answer as answers
use Rattle.map_model.specs.Answer.{Question, Answer, answer_over, index_of, kind_asked}
use Rattle.map_model.specs.Command.{lists_ids}
use Rattle.map_model.specs.Cost.{greatest_level, part_bound}
use Rattle.map_model.specs.Index.{Index, Range, Near, Top, Stab, Cross, has}
use Rattle.map_model.specs.Machine.{is_same_kind}
use Rattle.map_model.specs.State as state
use Rattle.map_model.specs.State.{wait_of}
use Rattle.map_shapes.specs.declared.question_cost.QuestionCost.{QuestionCost}
use Rattle.layer_kinds.specs.Asking.{IsAsking, IsReading, most_of}
use Rattle.range_tree.specs.Costs as range
use Rattle.range_tree.specs.QuestionLaws as ranges
use Rattle.kd_tree.specs.Costs as near
use Rattle.priority_tree.specs.Costs as top
use Rattle.priority_tree.specs.QuestionLaws as tops
use Rattle.interval_tree.specs.Costs as stab
use Rattle.interval_tree.specs.QuestionLaws as stabs
use Rattle.map_layers.specs.declared.faults.AskFault.{AskFault}
use Rattle.map_layers.specs.declared.faults.AskFault.TheVariants.{NoLayer, WrongKind, NoIndex, Building, Unknown, NoMemory}
use Rattle.map_layers.specs.Costs.{IsTouching}
use Rattle.map_layers.specs.Layer.{Held, held_by, IsEveryPart}

-- a question, its answer, how many parts were consulted, and how many live items they have
pub record AnsweredState : Type 0 where
  pub question : Question
  pub answer : Answer
  pub parts : ℕ
  pub live : ℕ

-- what a question about crossings may touch in a part of at most 2 ^ level items, once an index answers it
abbrev pub crossing_touches : ℕ → PartTouches
crossing_touches level = record { part = 32 * ((level + 3) * (level + 3)); hit = 8 * (level + 3); item = 0 }

-- the same in so many parts, with so many hits
abbrev pub most_crossing : (level parts hits : ℕ) → ℕ
most_crossing level parts hits = parts * (crossing_touches level).part + hits * (crossing_touches level).hit

-- what a question touches in a part of at most 2 ^ level items, by its index
abbrev pub touches_by : Index → ℕ → PartTouches
touches_by Range level = range.question_touches level
touches_by Near level = near.question_touches level
touches_by Top level = top.question_touches level
touches_by Stab level = stab.question_touches level
touches_by Cross level = crossing_touches level

-- what a question touches in a part of at most 2 ^ level items
abbrev pub touches_for : Question → ℕ → PartTouches
touches_for question level = touches_by (index_of question) level

-- the most touches in so many parts of at most 2 ^ level items each, of a layer of n items, with such an answer
abbrev pub most_for : (level parts n : ℕ) → Answer → ℕ
most_for level parts n (answers.Counted count) = ranges.most_touches level parts 0
most_for level parts n (answers.Summed sum) = ranges.most_touches level parts 0
most_for level parts n (answers.Listed ids) = ranges.most_touches level parts (length ids)
most_for level parts n (answers.NearestOne found) = near.most_touches parts n
most_for level parts n (answers.NearestOnes found) = near.most_touches parts n
most_for level parts n (answers.ListedAbove ids) = tops.most_touches level parts (length ids)
most_for level parts n (answers.Highest peak) = tops.most_touches level parts 0
most_for level parts n (answers.Stabbed ids) = stabs.most_touches level parts (length ids)
most_for level parts n (answers.StabCounted count) = stabs.most_touches level parts 0
most_for level parts n (answers.Crossed ids) = most_crossing level parts (length ids)
most_for level parts n (answers.CrossCounted count) = most_crossing level parts 0

-- whether a layer is of the kind that a question is about
abbrev pub IsOfKind : state.Layer → Question → Bool → Type 0
IsOfKind layer question b = is_same_kind layer.kind (kind_asked question) ≡ b

-- whether a layer has the index for a question
abbrev pub IsThere : state.Layer → Question → Bool → Type 0
IsThere layer question b = has layer.indexes (index_of question) ≡ b

-- for how many items the index for a question waits
abbrev pub IsWaiting : state.Layer → Question → ℕ → Type 0
IsWaiting layer question n = wait_of layer.waits (index_of question) ≡ n

-- A question about the other kind is refused, then one whose index isn't there, then one whose index waits for items, which are told; and else memory
-- alone may refuse one that lists identifiers.
abbrev pub IsRefusal : {T : Type 0} → state.Layer → Question → Result T AskFault → Type 0
IsRefusal layer question (Ok given) = IsOfKind layer question true × IsThere layer question true × IsWaiting layer question 0
IsRefusal layer question (Err NoLayer) = ⊥
IsRefusal layer question (Err WrongKind) = IsOfKind layer question false
IsRefusal layer question (Err NoIndex) = IsOfKind layer question true × IsThere layer question false
IsRefusal layer question (Err (Building items)) = IsOfKind layer question true × IsThere layer question true × IsWaiting layer question items × (0 < items)
IsRefusal layer question (Err (Unknown id)) = ⊥
IsRefusal layer question (Err NoMemory) =
    IsOfKind layer question true × IsThere layer question true × IsWaiting layer question 0 × (lists_ids question ≡ true)

-- A question to a layer, whose indexes hold so much, is answered over all its items by every complete part of one index, or refused, and so much is
-- touched.
pub record Asks (layer : state.Layer) (held : Held) (question : Question) (result : Result (AnsweredState × QuestionCost) AskFault) (old new : Counts) : Type 0 where
  pub spread : layer.indexes.batch ≡ false
  pub refused : IsRefusal layer question result
  pub answer : IfOk result (λ given. (given.0.question ≡ question) × (given.0.answer ≡ answer_over layer.items question))
  pub every_part : IfOk result (λ given. IsEveryPart (held_by held (index_of question)) given.1.parts
      × (given.1.parts ≡ given.0.parts) × (given.0.live ≡ length layer.items))
  pub cost : IfOk result (λ given. let n = length layer.items in
      IsAsking n (most_for (greatest_level n) given.1.parts n given.0.answer) given.1 old new)
  pub touches : let n = length layer.items in IsTouching (part_bound layer) (most_of (touches_for question (greatest_level n)) n) result old new
  pub reads : IsReading old new
