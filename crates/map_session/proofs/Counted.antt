-- What the calls of layers count.
use Rattle.std.proofs.Common.{◌≡◌, ◌∙◌, ℕ, ◌+◌, ◌-◌, ◌*◌, ◌≤◌, Bool, true, false, not, ◌&&◌, Option, Some, None, Result, Ok, Err, if◌then◌else◌, refl, sym, ap, subst, arith}
use Rattle.std.specs.Prelude.{⊤, IfOk}
use Rattle.query_laws.specs.StepLedger.{Counts, lap_begun}
use Rattle.map_structures.specs.Touches.{touches_at}
use Rattle.map_layers.specs.declared.faults.AskFault.{AskFault}
use Rattle.map_layers.specs.declared.faults.AskFault.TheVariants as ask
use Rattle.map_layers.specs.declared.faults.UpdateFault.{UpdateFault}
use Rattle.map_layers.specs.declared.faults.UpdateFault.TheVariants.{NoLayer, WrongKind, Duplicate, Unknown, Full, NoMemory}
use Rattle.layer_kinds.specs.Asking.{IsReading, ReadsAtMost}
use Rattle.map_model.specs.Answer.{Question, Answer}
use Rattle.map_model.specs.Command.{Command, name_of, takes_memory}
use Rattle.map_model.specs.Cost.{Cost, Untold, Update, greatest_level, mark_bound}
use Rattle.map_model.specs.Machine.{Outcome, step}
use Rattle.map_model.specs.Reply.{Answered, is_refusal}
use Rattle.map_model.specs.State.{Layer, State, layer_named, live_count}
use Rattle.map_shapes.specs.declared.question_cost.QuestionCost.{QuestionCost}
use Rattle.map_shapes.specs.declared.spent.Spent.{Spent}
use Rattle.map_layers.specs.Costs.{IsInBounds, IsCostIn, IsToldIn, IsAskingIn, IsTouchingIn}
use Rattle.map_layers.specs.Replies.{updated, questioned, IsAnswered}
use Rattle.map_layers.specs.Questions.{touches_for}
use Rattle.map_session.specs.Replies.{update_cost, question_cost}
use Rattle.map_session.specs.Work.{Work, no_work, bounds_in, asking_in, work_in, work_of, IsTold, IsCounted}

-- ---- commands that only memory refuses

abbrev IsAccepted : State → Command → Type 0
IsAccepted old command = is_refusal (step old command).reply ≡ false

unrefused : (b c : Bool) → (b && not c) ≡ true → c ≡ false
unrefused true true h = absurd cc
unrefused true false h = refl
unrefused false c h = absurd cc

-- of a refusal for another cause than memory nothing is asked
abbrev UnlessRefused : {T : Type 0} → Result T UpdateFault → Type 0 → Type 0
UnlessRefused (Ok done) X = X
UnlessRefused (Err NoLayer) X = ⊤
UnlessRefused (Err WrongKind) X = ⊤
UnlessRefused (Err (Duplicate id)) X = ⊤
UnlessRefused (Err (Unknown id)) X = ⊤
UnlessRefused (Err Full) X = ⊤
UnlessRefused (Err NoMemory) X = X

module _ (old new : State) (command : Command) where
  update_accepted : (result : Result Spent UpdateFault) → IsAnswered old command new (updated result) → UnlessRefused result (IsAccepted old command)
  update_accepted (Ok spent) is = ap (λ (o : Outcome). is_refusal o.reply) is
  update_accepted (Err NoLayer) is = tt
  update_accepted (Err WrongKind) is = tt
  update_accepted (Err (Duplicate id)) is = tt
  update_accepted (Err (Unknown id)) is = tt
  update_accepted (Err Full) is = tt
  update_accepted (Err NoMemory) is = unrefused (takes_memory command) (is_refusal (step old command).reply) is.0

  accepted_work : (layer : Option Layer) → layer_named (name_of command) old.layers ≡ layer → IsAccepted old command → work_of old command ≡ work_in command layer
  accepted_work layer is accepted =
      ap (λ b. if b then no_work else work_in command (layer_named (name_of command) old.layers)) accepted ∙ ap (work_in command) is

module _ (work : Work) {before after : Counts} where
  -- nothing is counted
  quiet : after ≡ lap_begun before → IsCounted work Untold before after
  quiet same = record {
    turns_kept = omega (arith, ap (λ s. s.turns) same);
    marks_kept = omega (arith, ap (λ s. s.marks) same);
    touches_kept = omega (arith, ap (λ s. s.touches) same);
    consulted_kept = omega (arith, ap (λ s. s.consulted) same);
    few_turns = omega (arith, ap (λ s. s.turns) same);
    few_marks = omega (arith, ap (λ s. s.marks) same);
    few_touches = omega (arith, ap (λ s. s.touches) same);
    few_consulted = omega (arith, ap (λ s. s.consulted) same);
    told = tt;
  }

times : (a b n : ℕ) → a ≤ b → a * n ≤ b * n
times a b n less = grind (arith, less)

module _ {before after : Counts} where
  -- an update within its bounds
  within : (update : Update) (layer : Layer) (cost : Cost) → IsInBounds layer update (lap_begun before) after → IsTold cost before after
      → IsCounted (bounds_in update (Some layer)) cost before after
  within update layer cost h told =
      let touches = touches_at (greatest_level (live_count layer)) in
      let marked = times (after.marks - before.marks) (mark_bound update layer) touches h.few_marks in
      record {
        turns_kept = omega (arith, h.spent.turns_spent);
        marks_kept = omega (arith, h.spent.marks_spent);
        touches_kept = h.spent.touches_kept;
        consulted_kept = omega (arith, h.spent.none_consulted);
        few_turns = omega (arith, h.few_turns);
        few_marks = omega (arith, h.few_marks);
        few_touches = omega (arith, h.spent.touches_bound, h.few_turns, marked);
        few_consulted = omega (arith, h.spent.none_consulted);
        told = told;
      }

  -- a question that consults so many parts and touches so much
  reading : (question : Question) (layer : Layer) (cost : Cost) → ReadsAtMost (asking_in question (Some layer)).consulted (asking_in question (Some layer)).touches before after → IsReading (lap_begun before) after
      → IsTold cost before after → IsCounted (asking_in question (Some layer)) cost before after
  reading question layer cost few h told = record {
    turns_kept = omega (arith, h.turns);
    marks_kept = omega (arith, h.marks);
    touches_kept = h.touches;
    consulted_kept = h.consulted;
    few_turns = omega (arith, h.turns);
    few_marks = omega (arith, h.marks);
    few_touches = few.1;
    few_consulted = few.0;
    told = told;
  }

-- an update is one lap, whatever becomes of it
pub update_lap : {T : Type 0} (before after : Counts) (o : Option Layer) (update : Update) (result : Result T UpdateFault) → IsCostIn o update result (lap_begun before) after
    → after.lap_start ≡ (lap_begun before).lap_start
update_lap before after None update result cost = ap (λ s. s.lap_start) cost
update_lap before after (Some layer) update (Ok done) cost = cost.spent.same_lap
update_lap before after (Some layer) update (Err NoLayer) cost = ap (λ s. s.lap_start) cost
update_lap before after (Some layer) update (Err WrongKind) cost = ap (λ s. s.lap_start) cost
update_lap before after (Some layer) update (Err (Duplicate id)) cost = ap (λ s. s.lap_start) cost
update_lap before after (Some layer) update (Err (Unknown id)) cost = ap (λ s. s.lap_start) cost
update_lap before after (Some layer) update (Err Full) cost = ap (λ s. s.lap_start) cost
update_lap before after (Some layer) update (Err NoMemory) cost = cost.spent.same_lap

-- ---- the calls

module _ (old new : State) (command : Command) {before after : Counts} where
  module _ (update : Update) (takes : (layer : Option Layer) → work_in command layer ≡ bounds_in update layer) where
    update_by : (o : Option Layer) → layer_named (name_of command) old.layers ≡ o → (result : Result Spent UpdateFault) → UnlessRefused result (IsAccepted old command) → IsCostIn o update result (lap_begun before) after
        → IfOk result (λ spent. IsToldIn o update spent (lap_begun before) after) → IsCounted (work_of old command) (update_cost result) before after
    update_by None is (Ok spent) accepted cost told = absurd told
    update_by None is (Err fault) accepted cost told = quiet (work_of old command) cost
    update_by (Some layer) is (Ok spent) accepted cost told =
        subst (λ w. IsCounted w (update_cost {F = UpdateFault} (Ok spent)) before after) (sym (accepted_work old new command (Some layer) is accepted ∙ takes (Some layer)))
        (within update layer (update_cost {F = UpdateFault} (Ok spent)) cost (told.turns, told.marks, cost.spent.none_consulted))
    update_by (Some layer) is (Err NoLayer) accepted cost told = quiet (work_of old command) cost
    update_by (Some layer) is (Err WrongKind) accepted cost told = quiet (work_of old command) cost
    update_by (Some layer) is (Err (Duplicate id)) accepted cost told = quiet (work_of old command) cost
    update_by (Some layer) is (Err (Unknown id)) accepted cost told = quiet (work_of old command) cost
    update_by (Some layer) is (Err Full) accepted cost told = quiet (work_of old command) cost
    update_by (Some layer) is (Err NoMemory) accepted cost told =
        subst (λ w. IsCounted w Untold before after) (sym (accepted_work old new command (Some layer) is accepted ∙ takes (Some layer))) (within update layer Untold cost tt)

    pub update_counted : (result : Result Spent UpdateFault) → IsAnswered old command new (updated result) → IsCostIn (layer_named (name_of command) old.layers) update result (lap_begun before) after
        → IfOk result (λ spent. IsToldIn (layer_named (name_of command) old.layers) update spent (lap_begun before) after) → IsCounted (work_of old command) (update_cost result) before after
    update_counted result is cost told = update_by (layer_named (name_of command) old.layers) refl result (update_accepted old new command result is) cost told

  module _ {T : Type 0} (question : Question) (takes : (layer : Option Layer) → work_in command layer ≡ asking_in question layer) (most : T × QuestionCost → ℕ → ℕ → ℕ) (answer : T × QuestionCost → Answer) where
    question_by : (o : Option Layer) → layer_named (name_of command) old.layers ≡ o → (result : Result (T × QuestionCost) AskFault) → IsAnswered old command old (questioned (λ given. Answered (answer given)) result)
        → IsTouchingIn o (touches_for question) result (lap_begun before) after → IsReading (lap_begun before) after
        → IfOk result (λ given. IsAskingIn o (most given) given.1 (lap_begun before) after) → IsCounted (work_of old command) (question_cost result) before after
    question_by None is (Ok given) answered touching reads told = absurd told
    question_by None is (Err fault) answered touching reads told = quiet (work_of old command) touching
    question_by (Some layer) is (Ok given) answered touching reads told =
        subst (λ w. IsCounted w (question_cost {F = AskFault} (Ok given)) before after)
        (sym (accepted_work old new command (Some layer) is (ap (λ (o : Outcome). is_refusal o.reply) answered) ∙ takes (Some layer)))
        (reading question layer (question_cost {F = AskFault} (Ok given)) touching reads (told.turns, told.marks, told.touches, told.consulted))
    question_by (Some layer) is (Err ask.NoLayer) answered touching reads told = quiet (work_of old command) touching
    question_by (Some layer) is (Err ask.WrongKind) answered touching reads told = quiet (work_of old command) touching
    question_by (Some layer) is (Err ask.NoIndex) answered touching reads told = quiet (work_of old command) touching
    question_by (Some layer) is (Err (ask.Building items)) answered touching reads told = quiet (work_of old command) touching
    question_by (Some layer) is (Err (ask.Unknown id)) answered touching reads told = quiet (work_of old command) touching
    question_by (Some layer) is (Err ask.NoMemory) answered touching reads told =
        subst (λ w. IsCounted w Untold before after)
        (sym (accepted_work old new command (Some layer) is (unrefused (takes_memory command) (is_refusal (step old command).reply) answered.0) ∙ takes (Some layer)))
        (reading question layer Untold touching reads tt)

    pub question_counted : (result : Result (T × QuestionCost) AskFault) → IsAnswered old command old (questioned (λ given. Answered (answer given)) result)
        → IsTouchingIn (layer_named (name_of command) old.layers) (touches_for question) result (lap_begun before) after → IsReading (lap_begun before) after
        → IfOk result (λ given. IsAskingIn (layer_named (name_of command) old.layers) (most given) given.1 (lap_begun before) after) → IsCounted (work_of old command) (question_cost result) before after
    question_counted result answered touching reads told = question_by (layer_named (name_of command) old.layers) refl result answered touching reads told
