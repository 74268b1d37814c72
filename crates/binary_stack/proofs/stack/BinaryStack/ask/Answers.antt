use Rattle.std.proofs.Common.{◌≡◌, ◌+◌, subst}
use Rattle.std.specs.Prelude.{IfOk}
use Rattle.binary_stack.specs.Levels.{parts_of, live_items}
use Rattle.binary_stack.proofs.Joining.{asked_over}
use Rattle.binary_stack.proofs.stack.BinaryStack.ask.Goals as goal

pub returns-clause-joined : goal.returns-clause-joined
returns-clause-joined g c =
    let laws = g.met.Q.Question.decomposable in
    let contents = g.B.Part.Part.contents in
    subst (λ ls. IfOk c.ask_levels.result (λ _. c.ask_levels.new.asking ≡ asked_over laws c.args.asking.now (live_items contents ls) (parts_of ls)))
    c.asked_levels.ensures.value c.ask_levels.ensures.joined

pub returns-clause-consulted : goal.returns-clause-consulted
returns-clause-consulted g c =
    subst (λ ls. IfOk c.ask_levels.result (λ _. c.ask_levels.new.steps.consulted ≡ c.args.steps.now.consulted + parts_of ls))
    c.asked_levels.ensures.value c.ask_levels.ensures.consulted
