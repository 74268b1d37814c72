use Rattle.std.proofs.Common.{◌≡◌, ◌≤◌, ◌∙◌, Bool, true, false, Ok, Some, refl, ap, subst, arith}
use mir.Val.{bool_byte}
use Rattle.map_model.specs.Index.{one_if}
use Rattle.map_model.specs.Reply.{is_refusal}
use Rattle.script_lang.specs.Command.{command_of}
use Rattle.map_model.specs.Output.{AnswersTo}
use Rattle.answer_text.specs.Reply.{reply_of, cost_of}
use Rattle.map_layers.specs.Layers.{LayersState, map_of}
use Rattle.map_session.specs.Work.{work_said, is_update_said, IsCounted, TellsEveryPart}
use Rattle.map_session.specs.Session.{given_by}
use Rattle.map_session.proofs.session.Session.command.Goals as goal

byte : (b : Bool) → bool_byte b ≡ one_if b
byte true = refl
byte false = refl

few : (b : Bool) → one_if b ≤ 1
few true = omega arith
few false = omega arith

pub returns-clause-refused : goal.returns-clause-refused
returns-clause-refused g c =
    let one : c.from.result ≡ one_if (is_refusal (reply_of c.execute-reply.result)) = c.from.ensures ∙ byte c.refused.result ∙ ap one_if c.refused.ensures in
    omega (arith, ap (λ v. v.refused) c.self.view_is, one)

pub returns-clause-answered : goal.returns-clause-answered
returns-clause-answered g c =
    subst (λ (l : LayersState). AnswersTo (map_of l) (Ok (Some (command_of c.args.command.now))) (given_by (Some c.execute-reply.result) (map_of c.execute-reply.new.layers)))
    (ap (λ v. v.layers) c.self.view_is) c.execute-reply.ensures.answered

pub returns-clause-counted : goal.returns-clause-counted
returns-clause-counted g c =
    subst (λ (l : LayersState). IsCounted (work_said (map_of l) (Ok (Some (command_of c.args.command.now)))) (cost_of c.execute-reply.result) c.args.steps.now c.execute-reply.new.steps)
    (ap (λ v. v.layers) c.self.view_is) c.execute-reply.ensures.counted

pub returns-clause-parts : goal.returns-clause-parts
returns-clause-parts g c =
    subst (λ (l : LayersState). TellsEveryPart l (Ok (Some (command_of c.args.command.now))) (cost_of c.execute-reply.result)) (ap (λ v. v.layers) c.self.view_is) c.execute-reply.ensures.parts

pub invariant_of-self : goal.invariant_of-self
invariant_of-self g c = (
  omega (arith, c.self.invariant.0, c.from.ensures, byte c.refused.result, few c.refused.result),
  omega (arith, c.self.invariant.1, c.execute-reply.ensures.updates, few (is_update_said (Ok (Some (command_of c.args.command.now))))),
)
