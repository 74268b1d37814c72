use Rattle.std.proofs.Common.{◌≡◌, ◌+◌, ◌^◌, ◌<◌, ◌∙◌, IsTrue, refl, ap, sym, subst, arith}
use Rattle.std.proofs.lemmas.Result.{IfOk-weaker}
use Rattle.query_laws.specs.StepLedger.{Consults}
use Rattle.query_laws.proofs.Counting.{Consults-then}
use Rattle.binary_stack.specs.Levels.{parts_in, parts_of, touches_of, live_in, live_items}
use Rattle.binary_stack.proofs.Distinct.{none_of}
use Rattle.binary_stack.proofs.Joining.{asked_over, asked_over-then, asked_over-nothing}
use Rattle.binary_stack.proofs.asking.+ask_levels.Goals as goal

pub ask_levels-requires : goal.ask_levels-requires
ask_levels-requires g t c κs lives =
    let more = lives.1.1.1 in
    let mid = c.in_ok-ask_level-in-Some.ensures.joined in
    let question = ap (λ a. a.question) mid in
    let room : c.ask_level.new.asking.parts + parts_of c.in-Some.above.now < 2 ^ 32 =
    omega (arith, c.requires.room, ap parts_of c.in-Some.ensures.cases.0, ap (λ a. a.parts) mid) in
    let going = ap (λ a. a.is_given_up) mid ∙ c.requires.going in
    let lawful = subst (λ q. g.Q.Question.lawful q c.ask_level.new.asking.so_far) (sym question) c.ask_level.ensures.lawful in (
      omega (arith, c.decreases, c.in-Some.ensures.cases.1),
      (lives.0, (lives.1.0, (lives.1.1.0, (more.0, (more.1.0, (more.1.1, (going, (lawful, room)))))))),
    )

pub returns-in_err-ask_level-in-Some-clause-refused : goal.returns-in_err-ask_level-in-Some-clause-refused
returns-in_err-ask_level-in-Some-clause-refused g t c _ = c.in_err-ask_level-in-Some.ensures.refused refl

pub returns-in_ok-ask_level-in-Some-clause-refused : goal.returns-in_ok-ask_level-in-Some-clause-refused
returns-in_ok-ask_level-in-Some-clause-refused g t c failed =
    subst IsTrue (ap (λ a. a.refusable) c.in_ok-ask_level-in-Some.ensures.joined) (c.ask_levels.ensures.refused failed)

pub returns-in_ok-ask_level-in-Some-clause-joined : goal.returns-in_ok-ask_level-in-Some-clause-joined
returns-in_ok-ask_level-in-Some-clause-joined g t c =
    let contents = g.P.Part.contents in
    let laws = g.met.Q.Question.decomposable in
    let level = c.in-Some.level.now in
    let above = c.in-Some.above.now in
    let split = sym c.in-Some.ensures.cases.0 in
    IfOk-weaker c.ask_levels.result _ _
    (λ _ e. asked_over-then laws c.args.asking.now c.ask_level.new.asking c.ask_levels.new.asking (live_in contents level) (live_items contents above)
    (parts_in level) (parts_of above) c.requires.lawful c.in_ok-ask_level-in-Some.ensures.joined e (ap (live_items contents) split) (ap parts_of split))
    c.ask_levels.ensures.joined

pub returns-in_ok-ask_level-in-Some-clause-consulted : goal.returns-in_ok-ask_level-in-Some-clause-consulted
returns-in_ok-ask_level-in-Some-clause-consulted g t c =
    let split = ap parts_of c.in-Some.ensures.cases.0 in
    IfOk-weaker c.ask_levels.result _ _ (λ _ e. omega (arith, e, c.ask_level.ensures.consulted, split)) c.ask_levels.ensures.consulted

pub returns-in_ok-ask_level-in-Some-clause-cost : goal.returns-in_ok-ask_level-in-Some-clause-cost
returns-in_ok-ask_level-in-Some-clause-cost g t c =
    let old = c.args.steps.now in
    let new = c.ask_levels.new.steps in
    let touches = g.P.Answers.ask_touches c.args.asking.now.question in
    let question = ap (λ a. a.question) c.in_ok-ask_level-in-Some.ensures.joined in
    let rest = subst (λ q. Consults c.ask_level.new.steps new (parts_of c.in-Some.above.now) (touches_of (g.P.Answers.ask_touches q) c.in-Some.above.now)) question
    c.ask_levels.ensures.cost in
    subst (λ ls. Consults old new (parts_of ls) (touches_of touches ls)) (sym c.in-Some.ensures.cases.0) (Consults-then c.ask_level.ensures.cost rest)

pub returns-in-None-clause-joined : goal.returns-in-None-clause-joined
returns-in-None-clause-joined g t c =
    let laws = g.met.Q.Question.decomposable in
    let now = c.args.asking.now in
    subst (λ ls. now ≡ asked_over laws now (live_items g.P.Part.contents ls) (parts_of ls))
    (sym (none_of c.args.levels.now (omega (arith, c.in-None.ensures.cases)))) (sym (asked_over-nothing laws now c.requires.lawful))

pub returns-in-None-clause-consulted : goal.returns-in-None-clause-consulted
returns-in-None-clause-consulted g t c = omega (arith, ap parts_of (none_of c.args.levels.now (omega (arith, c.in-None.ensures.cases))))
