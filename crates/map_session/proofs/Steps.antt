-- What the calls of layers answer is a step of the machine, at a cost that is allowed.
use Rattle.std.proofs.Common.{◌≡◌, ◌∙◌, ℕ, ◌≤◌, true, false, List, Option, Some, None, Result, Ok, Err, inl, inr, refl, sym, subst}
use Rattle.std.specs.Prelude.{IfOk}
use Rattle.query_laws.specs.StepLedger.{Counts}
use Rattle.map_model.specs.State.{Layer, State, layer_named}
use Rattle.map_model.specs.Answer.{Question, Answer}
use Rattle.map_model.specs.Command.{Command, Ask, name_of}
use Rattle.map_model.specs.Refusal.{NoMemory}
use Rattle.map_model.specs.Cost.{Cost, Untold, Asking, Update}
use Rattle.map_model.specs.Reply.{Reply, Answered, Refused}
use Rattle.map_model.specs.Machine.{Outcome, step}
use Rattle.map_model.specs.Output.{Told, AnswersTo, IsCost, update_of}
use Rattle.map_shapes.specs.declared.question_cost.QuestionCost.{QuestionCost}
use Rattle.map_shapes.specs.declared.spent.Spent.{Spent}
use Rattle.map_shapes.specs.Cost.{asked_of}
use Rattle.answer_text.specs.declared.reply.Reply as replies
use Rattle.answer_text.specs.Reply.{reply_of, cost_of}
use Rattle.map_layers.specs.declared.faults.AskFault.{AskFault}
use Rattle.map_layers.specs.declared.faults.UpdateFault.{UpdateFault}
use Rattle.map_layers.specs.declared.faults.CreateFault.{CreateFault}
use Rattle.map_layers.specs.declared.faults.IndexFault.{IndexFault}
use Rattle.map_layers.specs.declared.faults.HasLayers.{HasLayers}
use Rattle.map_layers.specs.Costs.{IsToldIn, IsAskingIn}
use Rattle.map_layers.specs.Replies.{chosen, created, indexed, updated, questioned, IsAnswered}
use Rattle.map_session.specs.Replies.{update_cost}
use Rattle.map_session.specs.Session.{given_by}

-- ---- a step

by_step : (old new : State) (command : Command) (reply : Reply) (cost : Cost) → step old command ≡ record { state = new; reply = reply } → IsCost (layer_named (name_of command) old.layers) (update_of command) reply cost
    → AnswersTo old (Ok (Some command)) (record { told = Some (record { reply = reply; cost = cost }); state = new })
by_step old new command reply cost is allowed = inl (record {
  cost = cost;
  is_cost = subst (λ (o : Outcome). IsCost (layer_named (name_of command) old.layers) (update_of command) o.reply cost) (sym is) allowed;
  is_given = λ i. record { told = Some (record { reply = (sym is i).reply; cost = cost }); state = (sym is i).state };
})

pub answers_from : (old new : State) (command : Command) (reply : Reply) (cost : Cost) → IsAnswered old command new reply → IsCost (layer_named (name_of command) old.layers) (update_of command) reply cost
    → AnswersTo old (Ok (Some command)) (record { told = Some (record { reply = reply; cost = cost }); state = new })
answers_from old new command (Refused NoMemory) cost is allowed = inr (is.0, λ i. record { told = Some (record { reply = Refused NoMemory; cost = allowed i }); state = is.1 i })
answers_from old new command reply cost is allowed = by_step old new command reply cost is allowed

-- the same of the reply that says it
pub given_as : (old new : State) (command : Command) (r : replies.Reply) (reply : Reply) (cost : Cost) → reply_of r ≡ reply → cost_of r ≡ cost → IsAnswered old command new reply
    → IsCost (layer_named (name_of command) old.layers) (update_of command) reply cost → AnswersTo old (Ok (Some command)) (given_by (Some r) new)
given_as old new command r reply cost same_reply same_cost is allowed =
    subst (λ (t : Told). AnswersTo old (Ok (Some command)) (record { told = Some t; state = new })) (λ i. record { reply = sym same_reply i; cost = sym same_cost i })
    (answers_from old new command reply cost is allowed)

-- ---- updates

pub update_allowed : (layer : Option Layer) (update : Update) (outcome : Result Spent UpdateFault) (c c' : Counts) → IfOk outcome (λ spent. IsToldIn layer update spent c c')
    → IsCost layer (Some update) (updated outcome) (update_cost outcome)
update_allowed None update (Ok spent) c c' told = absurd told
update_allowed (Some layer) update (Ok spent) c c' told = told.bounds
update_allowed layer update (Err fault) c c' told = refl

-- ---- questions

asking_allowed : (layer : Option Layer) (most : ℕ → ℕ → ℕ) (c c' : Counts) (answer : Answer) (asked : QuestionCost) (parts : ℕ) → IsAskingIn layer most asked c c'
    → (asked.parts ≤ asked.part_bound → parts ≤ asked.part_bound) → (1 ≤ asked.parts → asked.parts ≤ asked.part_bound → 1 ≤ parts)
    → IsCost layer None (Answered answer) (Asking (record (asked_of asked) { parts = parts }))
asking_allowed None most c c' answer asked parts asking few some = absurd asking
asking_allowed (Some layer) most c c' answer asked parts asking few some = record {
  part_bound_told = asking.bounds.part_bound_told;
  parts_bounded = few asking.bounds.parts_bounded;
  some_part = λ h h'. some (asking.bounds.some_part h h') asking.bounds.parts_bounded;
  each_part = λ at_once. let clash : false ≡ true = sym asking.spread ∙ at_once in absurd cc;
}

-- Of the parts it has only to be told here that they are within the bound, and not none where one was asked.
pub question_answered : (old : State) (name : List ℕ) (question : Question) (most : ℕ → ℕ → ℕ) (c c' : Counts) (told answer : Answer) (asked : QuestionCost) (parts : ℕ) → told ≡ answer
    → IsAnswered old (Ask name question) old (Answered answer) → IsAskingIn (layer_named name old.layers) most asked c c'
    → (asked.parts ≤ asked.part_bound → parts ≤ asked.part_bound) → (1 ≤ asked.parts → asked.parts ≤ asked.part_bound → 1 ≤ parts)
    → AnswersTo old (Ok (Some (Ask name question))) (record {
      told = Some (record { reply = Answered told; cost = Asking (record { parts = parts; part_bound = asked.part_bound; touches = asked.touches }) });
      state = old;
    })
question_answered old name question most c c' told answer asked parts same is asking few some =
    subst (λ a. AnswersTo old (Ok (Some (Ask name question))) (record { told = Some (record { reply = Answered a; cost = Asking (record (asked_of asked) { parts = parts }) }); state = old })) (sym same)
    (answers_from old old (Ask name question) (Answered answer) (Asking (record (asked_of asked) { parts = parts })) is
    (asking_allowed (layer_named name old.layers) most c c' answer asked parts asking few some))

-- ---- other commands

pub chosen_allowed : {T : Type 0} (layer : Option Layer) (outcome : Result T HasLayers) → IsCost layer None (chosen outcome) Untold
chosen_allowed layer (Ok done) = refl
chosen_allowed layer (Err fault) = refl

pub made_allowed : {T : Type 0} (layer : Option Layer) (outcome : Result T CreateFault) → IsCost layer None (created outcome) Untold
made_allowed layer (Ok done) = refl
made_allowed layer (Err fault) = refl

pub indexed_allowed : {T : Type 0} (layer : Option Layer) (outcome : Result T IndexFault) → IsCost layer None (indexed outcome) Untold
indexed_allowed layer (Ok done) = refl
indexed_allowed layer (Err fault) = refl

pub reading_allowed : {T : Type 0} (layer : Option Layer) (reply : T → Reply) → ((t : T) → IsCost layer None (reply t) Untold) → (outcome : Result T AskFault)
    → IsCost layer None (questioned reply outcome) Untold
reading_allowed layer reply each (Ok t) = each t
reading_allowed layer reply each (Err fault) = refl
