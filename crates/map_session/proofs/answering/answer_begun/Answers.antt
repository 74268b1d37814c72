use Rattle.std.proofs.Common.{◌≡◌, ◌<◌, length, sym, ap, ◌∙◌, pos_of_ne-zero}
use Rattle.std.proofs.lemmas.Bool.{eqb-false, eqb-true}
use Rattle.std.proofs.lemmas.Result.{err_from_is_err_and}
use Rattle.map_model.specs.Grammar.{parse}
use Rattle.map_session.specs.Answering.{Moment, moment}
use Rattle.map_session.specs.Session.{map_in}
use Rattle.map_session.proofs.Underway.{said_alike, ended_whole, ended_last, stopped_last}
use Rattle.map_session.proofs.answering.answer_begun.Goals as goal

pub returns-in_err-line-clause-stopped : goal.returns-in_err-line-clause-stopped
returns-in_err-line-clause-stopped g c =
    let p = err_from_is_err_and c.from_residual.result c.from_residual.ensures.1 in
    let begun = c.args.begun.now in
    let some : 0 < length begun = pos_of_ne-zero (eqb-false (length begun) 0 (sym c.is_empty.ensures ∙ c.if-not-is_empty.true)) in
    let fault = c.in_err-line.ensures.fault in
    let new : Moment = moment c.line.new.self (g.K.Sink.told c.line.new.sink) c.line.new.steps in
    rw p.1 (λ start text so_far. stopped_last start _ text begun so_far new some (record {
      given = fault.0;
      executed = said_alike c.args.session.now _ c.as_slice.result.now begun _ _ _ (ap (parse (map_in c.args.session.now).version) c.as_slice.ensures) fault.1;
      cut_off = fault.2;
    }))

pub returns-in_ok-line-clause-answered : goal.returns-in_ok-line-clause-answered
returns-in_ok-line-clause-answered g c = λ start text so_far.
    let begun = c.args.begun.now in
    let some : 0 < length begun = pos_of_ne-zero (eqb-false (length begun) 0 (sym c.is_empty.ensures ∙ c.if-not-is_empty.true)) in
    let done = c.in_ok-line.ensures.done in
    let new : Moment = moment c.line.new.self (g.K.Sink.told c.line.new.sink) c.line.new.steps in
    ended_last start _ text begun so_far new some (record {
      given = done.0;
      executed = said_alike c.args.session.now _ c.as_slice.result.now begun _ _ _ (ap (parse (map_in c.args.session.now).version) c.as_slice.ensures) done.1;
      delivered = done.3;
    })

pub returns-else-not-is_empty-clause-answered : goal.returns-else-not-is_empty-clause-answered
returns-else-not-is_empty-clause-answered g c = λ start text so_far.
    let begun = c.args.begun.now in
    let none : length begun ≡ 0 = eqb-true (length begun) 0 (sym c.is_empty.ensures ∙ c.if-not-is_empty.false) in
    ended_whole start _ text begun so_far none
