use Rattle.std.proofs.Common.{◌≡◌, ◌++◌, [], length, sym, ◌∙◌, subst, ap}
use Rattle.std.proofs.lemmas.Bool.{eqb-true}
use Rattle.std.proofs.lemmas.List.{nil_from_length}
use Rattle.std.proofs.lemmas.Result.{err_from_is_err_and}
use Rattle.map_model.specs.Grammar.{parse}
use Rattle.map_session.specs.Answering.{moment, AnswersLine, StopsInLine}
use Rattle.map_session.specs.Session.{map_in}
use Rattle.map_session.proofs.Underway.{empty_front, said_alike, ended_said}
use Rattle.map_session.proofs.answering.end_line.Goals as goal

pub returns-in_err-line-2-clause-stopped : goal.returns-in_err-line-2-clause-stopped
returns-in_err-line-2-clause-stopped g c =
    let p = err_from_is_err_and c.from_residual-in_err-line-2.result c.from_residual-in_err-line-2.ensures.1 in
    let fault = c.in_err-line-2.ensures.fault in
    let version = (map_in c.args.session.now).version in
    rw p.1 (λ line is. record {
      given = fault.0;
      executed = said_alike c.args.session.now _ c.as_slice.result.now (line ++ c.args.end.now) _ _ _ (ap (parse version) (c.as_slice.ensures ∙ c.push.ensures) ∙ ended_said version c.args.begun.now line c.args.end.now is) fault.1;
      cut_off = fault.2;
    })

pub returns-clause-answered : goal.returns-clause-answered
returns-clause-answered g c = λ line is.
    let done = c.in_ok-line-2.ensures.done in
    let version = (map_in c.args.session.now).version in
    record {
      given = done.0;
      executed = said_alike c.args.session.now _ c.as_slice.result.now (line ++ c.args.end.now) _ _ _ (ap (parse version) (c.as_slice.ensures ∙ c.push.ensures) ∙ ended_said version c.args.begun.now line c.args.end.now is) done.1;
      delivered = done.3;
    }

-- no line was begun

pub returns-then-is_empty-clause-cleared : goal.returns-then-is_empty-clause-cleared
returns-then-is_empty-clause-cleared g c =
    let none : length c.args.begun.now ≡ 0 = eqb-true (length c.args.begun.now) 0 (sym c.if-is_empty.ensures) in
    nil_from_length c.args.begun.now none

pub returns-in_err-line-clause-stopped : goal.returns-in_err-line-clause-stopped
returns-in_err-line-clause-stopped g c =
    let none : length c.args.begun.now ≡ 0 = eqb-true (length c.args.begun.now) 0 (sym c.if-is_empty.ensures) in
    let p = err_from_is_err_and c.from_residual.result c.from_residual.ensures.1 in
    let fault = c.in_err-line.ensures.fault in
    rw p.1 (λ line is.
    let empty : line ≡ [] = empty_front line (ap length (sym is) ∙ none) in
    subst (λ l. StopsInLine (moment c.args.session.now (g.K.Sink.told c.args.sink.now) c.args.steps.now) (l ++ c.args.end.now)
    (moment c.line.new.self (g.K.Sink.told c.line.new.sink) c.line.new.steps))
    (sym empty) (record { given = fault.0; executed = fault.1; cut_off = fault.2 }))

pub returns-then-is_empty-clause-answered : goal.returns-then-is_empty-clause-answered
returns-then-is_empty-clause-answered g c = λ line is.
    let none : length c.args.begun.now ≡ 0 = eqb-true (length c.args.begun.now) 0 (sym c.if-is_empty.ensures) in
    let empty : line ≡ [] = empty_front line (ap length (sym is) ∙ none) in
    let done = c.in_ok-line.ensures.done in
    subst (λ l. AnswersLine (moment c.args.session.now (g.K.Sink.told c.args.sink.now) c.args.steps.now) (l ++ c.args.end.now)
    (moment c.line.new.self (g.K.Sink.told c.line.new.sink) c.line.new.steps))
    (sym empty) (record { given = done.0; executed = done.1; delivered = done.3 })
