use Rattle.std.proofs.Common.{Ok, Err, refl, ap, arith}
use Rattle.answer_text.specs.declared.reply.Reply.TheVariants as replies
use Rattle.map_model.specs.Command.{Ask}
use Rattle.map_model.specs.Reply.{Refused}
use Rattle.map_questions.specs.Any.{question_of}
use Rattle.map_layers.specs.Layers.{map_of}
use Rattle.map_layers.specs.Questions.{most_for}
use Rattle.map_session.proofs.Counted.{question_counted}
use Rattle.map_session.proofs.Steps.{given_as, question_answered}
use Rattle.map_session.proofs.calling.answer.Goals as goal

pub returns-in-Ok-clause-answered : goal.returns-in-Ok-clause-answered
returns-in-Ok-clause-answered g c =
    question_answered (map_of c.args.layers.now) c.args.name.now (question_of c.args.question.now) _ _ _ _ _ c.in-Ok.asked _ c.into_answer.ensures c.in-Ok.ensures.answered c.in-Ok.ensures.cost
    (λ few. omega arith) (λ some few. omega arith)

-- field by field, since nothing of it speaks of the parts that are told
pub returns-in-Ok-clause-counted : goal.returns-in-Ok-clause-counted
returns-in-Ok-clause-counted g c =
    let map = map_of c.args.layers.now in
    let question = question_of c.args.question.now in
    let h = question_counted map map (Ask c.args.name.now question) {before = c.args.steps.now} {after = c.ask.new.steps} question (λ layer. refl) (λ given level n. most_for level given.1.parts n given.0.answer) (λ given. given.0.answer)
    (Ok (c.in-Ok.given, c.in-Ok.asked)) c.in-Ok.ensures.answered c.in-Ok.ensures.touches c.in-Ok.ensures.reads c.in-Ok.ensures.cost in
    record {
      turns_kept = h.turns_kept;
      marks_kept = h.marks_kept;
      touches_kept = h.touches_kept;
      consulted_kept = h.consulted_kept;
      few_turns = h.few_turns;
      few_marks = h.few_marks;
      few_touches = h.few_touches;
      few_consulted = h.few_consulted;
      told = h.told;
    }

pub returns-in-Err-clause-answered : goal.returns-in-Err-clause-answered
returns-in-Err-clause-answered g c =
    let map = map_of c.args.layers.now in
    given_as map map (Ask c.args.name.now (question_of c.args.question.now)) (replies.Refused c.refusal_of_question.result) _ _ (ap Refused c.refusal_of_question.ensures) refl
    c.in-Err.ensures.answered refl

pub returns-in-Err-clause-counted : goal.returns-in-Err-clause-counted
returns-in-Err-clause-counted g c =
    let map = map_of c.args.layers.now in
    let question = question_of c.args.question.now in
    question_counted map map (Ask c.args.name.now question) {before = c.args.steps.now} {after = c.ask.new.steps} question (λ layer. refl) (λ given level n. most_for level given.1.parts n given.0.answer) (λ given. given.0.answer)
    (Err c.in-Err.fault) c.in-Err.ensures.answered c.in-Err.ensures.touches c.in-Err.ensures.reads c.in-Err.ensures.cost
