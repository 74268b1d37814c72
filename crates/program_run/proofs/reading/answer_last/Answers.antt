use Rattle.map_session.specs.Answering.{Moment, moment}
use Rattle.program_run.proofs.Underway.{stopped_last_run}
use Rattle.program_run.proofs.reading.answer_last.Goals as goal

pub returns-in-Err-clause-ended : goal.returns-in-Err-clause-ended
returns-in-Err-clause-ended g c = λ rest start taken rest' r end.
    let new : Moment = moment c.answer_begun.new.session (g.K.Sink.told c.answer_begun.new.sink) c.answer_begun.new.steps in
    stopped_last_run rest rest' start _ taken c.args.begun.now r new c.in-Err.ensures.stopped
