use Rattle.std.proofs.Common.{List, ℕ, Option, map, subst}
use Rattle.std.specs.String.{string_bytes}
use Rattle.map_session.specs.Answering.{Moment, moment}
use Rattle.program_run.specs.Run.{HasRun}
use Rattle.program_run.proofs.Endings.{complete_run, limited_run}
use Rattle.program_run.proofs.ended.run.Goals as goal

pub returns : goal.returns
returns g c =
    let words = map string_bytes c.args.words.now in
    let told = g.K.Sink.told c.args.sink.now in
    let counts = c.args.steps.now in
    let rest' = g.S.Source.rest c.run_job.new.source in
    let status = c.run_job.result.status in
    let now : Moment = moment c.run_job.result.session (g.K.Sink.told c.run_job.new.sink) c.run_job.new.steps in
    let ran : HasRun words (g.S.Source.rest c.args.source.now) rest' told counts status now =
    (c.read_words-job.result, c.read_words-job.ensures, c.run_job.ensures.ended) in
    record {
      ran = ran;
      read_fault = c.run_job.ensures.read_fault;
      write_fault = c.run_job.ensures.write_fault;
      no_read_fault = c.run_job.ensures.no_read_fault;
      no_write_fault = c.run_job.ensures.no_write_fault;
      complete = λ left is. complete_run words left rest' told counts status now (subst (λ (r : Option (List ℕ)). HasRun words r rest' told counts status now) is ran);
      limit = λ left is. limited_run words left rest' told counts status now (subst (λ (r : Option (List ℕ)). HasRun words r rest' told counts status now) is ran);
      pieces = c.run_job.ensures.pieces;
    }
