use Rattle.std.proofs.Common.{◌≡◌, IfOk, ap, sym, subst, arith}
use Rattle.query_laws.specs.StepLedger.{Consults}
use Rattle.query_laws.proofs.Counting.{Consults-nothing}
use Rattle.binary_stack.specs.Levels.{parts_in, touches_in, live_in}
use Rattle.binary_stack.proofs.Joining.{asked_over, asked_over-nothing}
use Rattle.binary_stack.proofs.asking.ask_level.Goals as goal

pub returns-in-Some-clause-joined : goal.returns-in-Some-clause-joined
returns-in-Some-clause-joined g c =
    let laws = g.met.Q.Question.decomposable in
    let contents = g.P.Part.contents in
    subst (λ l. IfOk c.part.result (λ _. c.part.new.self ≡ asked_over laws c.args.asking.now (live_in contents l) (parts_in l))) (sym c.in-Some.is)
    c.part.ensures.joined

pub returns-in-Some-clause-consulted : goal.returns-in-Some-clause-consulted
returns-in-Some-clause-consulted g c = omega (arith, c.part.ensures.consulted, ap parts_in c.in-Some.is)

pub returns-in-Some-clause-cost : goal.returns-in-Some-clause-cost
returns-in-Some-clause-cost g c =
    subst (λ l. Consults c.args.steps.now c.part.new.steps (parts_in l) (touches_in (g.P.Answers.ask_touches c.args.asking.now.question) l)) (sym c.in-Some.is)
    c.part.ensures.cost

pub returns-in-None-clause-joined : goal.returns-in-None-clause-joined
returns-in-None-clause-joined g c =
    let laws = g.met.Q.Question.decomposable in
    let contents = g.P.Part.contents in
    let now = c.args.asking.now in
    subst (λ l. now ≡ asked_over laws now (live_in contents l) (parts_in l)) (sym c.in-None.is) (sym (asked_over-nothing laws now c.requires.lawful))

pub returns-in-None-clause-consulted : goal.returns-in-None-clause-consulted
returns-in-None-clause-consulted g c = omega (arith, ap parts_in c.in-None.is)

pub returns-in-None-clause-cost : goal.returns-in-None-clause-cost
returns-in-None-clause-cost g c =
    let touches = g.P.Answers.ask_touches c.args.asking.now.question in
    subst (λ l. Consults c.args.steps.now c.args.steps.now (parts_in l) (touches_in touches l)) (sym c.in-None.is) (Consults-nothing c.args.steps.now)
