use Rattle.std.proofs.Common.{◌≡◌, ◌≤◌, ◌-◌}
use Rattle.map_session.specs.Answering.{moment}
use Rattle.program_run.specs.Run.{script_limit, FillsPieces, IsReading}
use Rattle.program_run.proofs.reading.answer_script.Given as goal

-- what was taken so far is answered as far as its lines ended, and no read failed
abbrev pub invariant-loop-given : goal.invariant-loop-given
invariant-loop-given g l = record {
  reading : IsReading (g.S.Source.rest l.initial.source) (moment l.initial.session (g.K.Sink.told l.initial.sink) l.initial.steps) l.taken (g.S.Source.rest l.source) l.begun
      (moment l.session (g.K.Sink.told l.sink) l.steps);
  lines : l.session.lines ≤ l.taken;
  pieces : FillsPieces (g.S.Source.filled l.initial.source) (g.S.Source.filled l.source) l.taken;
  succeeded : g.S.Source.faults l.source ≡ g.S.Source.faults l.initial.source;
}

abbrev pub decreases-loop-given : goal.decreases-loop-given
decreases-loop-given g l = script_limit - l.taken
