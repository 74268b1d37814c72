use Rattle.std.proofs.Common.{List, ℕ, refl, sym, subst, arith, ◌∙◌}
use Rattle.map_session.specs.Answering.{Moment, moment}
use Rattle.program_run.specs.Run.{IsReading}
use Rattle.program_run.proofs.Pieces.{pieces_at_first}
use Rattle.program_run.proofs.Underway.{reading_at_first}
use Rattle.program_run.proofs.reading.answer_script.Goals as goal

pub loop-given-init : goal.loop-given-init
loop-given-init g c =
    let rest = g.S.Source.rest c.args.source.now in
    let start : Moment = moment c.args.session.now (g.K.Sink.told c.args.sink.now) c.args.steps.now in
    record {
      reading = subst (λ (begun : List ℕ). IsReading rest start 0 rest begun start) (sym c.new-begun.ensures) (reading_at_first rest start);
      lines = omega (arith, c.requires);
      pieces = pieces_at_first (g.S.Source.filled c.args.source.now);
      succeeded = refl;
    }

pub loop-given-preserved : goal.loop-given-preserved
loop-given-preserved g c = record {
  reading = c.in-Ok.ensures.went_on _ _ c.loop-given.invariant.reading;
  lines = c.in-Ok.ensures.lines;
  pieces = c.in-Ok.ensures.pieces _ c.loop-given.invariant.pieces;
  succeeded = c.in-Ok.ensures.succeeded (λ e. let none : ⊥ = cc e in none) ∙ c.loop-given.invariant.succeeded;
}

pub returns-in-Err-clause-ended : goal.returns-in-Err-clause-ended
returns-in-Err-clause-ended g c = c.in-Err.ensures.ended _ _ c.loop-given.invariant.reading

pub returns-in-Err-clause-pieces : goal.returns-in-Err-clause-pieces
returns-in-Err-clause-pieces g c = c.in-Err.ensures.last_piece _ _ _ c.loop-given.invariant.reading c.loop-given.invariant.pieces
