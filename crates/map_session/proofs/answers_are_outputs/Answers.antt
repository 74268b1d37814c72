use Rattle.map_session.specs.Session.{map_in}
use Rattle.map_session.proofs.Lines.{stopped_is_interrupted}
use Rattle.map_session.proofs.SumsUp.{within_is_output, sums_up}
use Rattle.map_session.proofs.answers_are_outputs.Goals as goal

pub returns : goal.returns
returns c = record {
  answered = λ start now script runs.
      let all = sums_up start script now runs in (
        all.bytes,
        all.delivered.written,
        within_is_output start.session.ledger (map_in start.session) (map_in now.session) script all.bytes all.work all.output,
      );
  stopped = stopped_is_interrupted;
}
