use Rattle.std.proofs.Common.{subst}
use Rattle.map_session.specs.Answering.{Moment, moment}
use Rattle.program_run.specs.Run.{AnswersScript}
use Rattle.program_run.proofs.Endings.{script_fault, script_kept}
use Rattle.program_run.proofs.Pieces.{no_pieces}
use Rattle.program_run.proofs.ended.run_job.Goals as goal

pub returns-in-Ok-Script-clause-write_fault : goal.returns-in-Ok-Script-clause-write_fault
returns-in-Ok-Script-clause-write_fault g c = λ failed.
    let done = c.answer_script-status in
    let start : Moment = moment c.new-session.result (g.K.Sink.told c.args.sink.now) c.args.steps.now in
    let now : Moment = moment done.new.session (g.K.Sink.told done.new.sink) done.new.steps in
    script_fault _ _ start now
    (subst (λ status. AnswersScript (g.S.Source.rest c.args.source.now) (g.S.Source.rest done.new.source) start status now) failed done.ensures.ended)

pub returns-in-Ok-Script-clause-no_write_fault : goal.returns-in-Ok-Script-clause-no_write_fault
returns-in-Ok-Script-clause-no_write_fault g c = λ kept.
    let done = c.answer_script-status in
    let start : Moment = moment c.new-session.result (g.K.Sink.told c.args.sink.now) c.args.steps.now in
    let now : Moment = moment done.new.session (g.K.Sink.told done.new.sink) done.new.steps in
    script_kept _ _ start now done.result done.ensures.ended kept

pub returns-in-Ok-Made-clause-pieces : goal.returns-in-Ok-Made-clause-pieces
returns-in-Ok-Made-clause-pieces g c = no_pieces _ _

pub returns-in-Err-Usage-clause-pieces : goal.returns-in-Err-Usage-clause-pieces
returns-in-Err-Usage-clause-pieces g c = no_pieces _ _

pub returns-in-Err-NoMemory-clause-pieces : goal.returns-in-Err-NoMemory-clause-pieces
returns-in-Err-NoMemory-clause-pieces g c = no_pieces _ _
