-- A reply and what it cost as the definitions have them.
use Rattle.map_model.specs.Refusal as refusals
use Rattle.map_model.specs.Reply as replies
use Rattle.map_model.specs.Cost as costs
use Rattle.map_shapes.specs.Shape.{model_shape}
use Rattle.map_shapes.specs.Cost.{update_cost_of, asked_of}
use Rattle.map_questions.specs.Any.{answer_of}
use Rattle.answer_text.specs.declared.refusal.Refusal.{Refusal}
use Rattle.answer_text.specs.declared.refusal.Refusal.TheVariants as causes
use Rattle.answer_text.specs.declared.reply.Reply.{Reply}
use Rattle.answer_text.specs.declared.reply.Reply.TheVariants as variants

-- a cause as the definitions have it
abbrev pub refusal_of : Refusal → refusals.Refusal
refusal_of causes.Line = refusals.Line
refusal_of causes.Command = refusals.Command
refusal_of causes.Fields = refusals.Fields
refusal_of causes.Name = refusals.Name
refusal_of causes.Number = refusals.Number
refusal_of causes.Range = refusals.Range
refusal_of causes.Order = refusals.Order
refusal_of causes.NoLayer = refusals.NoLayer
refusal_of causes.Kind = refusals.Kind
refusal_of causes.Index = refusals.Index
refusal_of (causes.Building items) = refusals.Building items
refusal_of causes.Taken = refusals.Taken
refusal_of causes.NoRoom = refusals.NoRoom
refusal_of (causes.Duplicate id) = refusals.Duplicate id
refusal_of (causes.Unknown id) = refusals.Unknown id
refusal_of causes.Full = refusals.Full
refusal_of causes.Version = refusals.Version
refusal_of causes.NoMemory = refusals.NoMemory

-- a reply without what it cost, as the definitions have it
abbrev pub reply_of : Reply → replies.Reply
reply_of variants.Made = replies.Made
reply_of (variants.Updated spent) = replies.Updated
reply_of (variants.Answered answer asked) = replies.Answered (answer_of answer)
reply_of (variants.Got shape) = replies.Got (model_shape shape)
reply_of (variants.Size n) = replies.Sized n
reply_of (variants.Recent ids) = replies.Latest ids
reply_of (variants.Refused cause) = replies.Refused (refusal_of cause)

-- what a reply tells that it cost, as the definitions have it
abbrev pub cost_of : Reply → costs.Cost
cost_of variants.Made = costs.Untold
cost_of (variants.Updated spent) = update_cost_of spent
cost_of (variants.Answered answer asked) = costs.Asking (asked_of asked)
cost_of (variants.Got shape) = costs.Untold
cost_of (variants.Size n) = costs.Untold
cost_of (variants.Recent ids) = costs.Untold
cost_of (variants.Refused cause) = costs.Untold
