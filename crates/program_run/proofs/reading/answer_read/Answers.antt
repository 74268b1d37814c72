use Rattle.std.proofs.Common.{rules, ◌≡◌, ◌+◌, ◌<◌, ◌≤◌, ℕ, List, [], length, take, arith, subst, ◌∙◌, length-take-le}
use Rattle.std.proofs.lemmas.List.{nil_from_length}
use Rattle.std.specs.Io.KnownBytes.{Consumes}
use Rattle.map_session.specs.Answering.{Moment, moment}
use Rattle.program_run.specs.Run.{script_limit}
use Rattle.program_run.proofs.Pieces.{pieces_more, last_piece}
use Rattle.program_run.proofs.Underway.{reading_still, reading_on, too_long_run, stopped_run}
use Rattle.program_run.proofs.reading.answer_read.Goals as goal

pub returns-then-given-eq0-clause-ended : goal.returns-then-given-eq0-clause-ended
returns-then-given-eq0-clause-ended g c = λ rest start r.
    let given = c.in-Ok.given in
    let into = c.read.new.into in
    let zero : given ≡ 0 = first_of (omega arith, search rules) in
    let fits : given ≤ length into = first_of (omega arith, search rules) in
    let some : 0 < length into = first_of (omega arith, grind arith, search rules) in
    let none : take given into ≡ [] = nil_from_length (take given into) (length-take-le given into fits ∙ zero) in
    let before = g.S.Source.rest c.args.source.now in
    let after = g.S.Source.rest c.read.new.self in
    let still = reading_still rest before start _ c.args.taken c.args.begun.now r after (subst (λ (bytes : List ℕ). Consumes before after bytes) none c.in-Ok.ensures.taken.0) in
    c.answer_last.ensures.ended rest start c.args.taken after still (c.in-Ok.ensures.taken.1 zero some)

pub returns-then-taken-eq-SCRIPT_LIMIT-clause-ended : goal.returns-then-taken-eq-SCRIPT_LIMIT-clause-ended
returns-then-taken-eq-SCRIPT_LIMIT-clause-ended g c = λ rest start r.
    let given = c.in-Ok.given in
    let into = c.read.new.into in
    let full : c.args.taken ≡ script_limit = first_of (omega arith, search rules) in
    let fits : given ≤ length into = first_of (omega arith, search rules) in
    let one : given ≡ 1 = first_of (omega arith, grind arith, search rules) in
    too_long_run rest (g.S.Source.rest c.args.source.now) start _ c.args.taken c.args.begun.now r (g.S.Source.rest c.read.new.self) (take given into) c.in-Ok.ensures.taken.0
    (length-take-le given into fits ∙ one) full

pub returns-in-Ok-answer_piece-clause-went_on : goal.returns-in-Ok-answer_piece-clause-went_on
returns-in-Ok-answer_piece-clause-went_on g c = λ rest start r.
    let given = c.in-Ok.given in
    let into = c.read.new.into in
    let fits : given ≤ length into = first_of (omega arith, search rules) in
    let within : c.args.taken + given ≤ script_limit = first_of (omega arith, grind arith, search rules) in
    let new : Moment = moment c.answer_piece.new.session (g.K.Sink.told c.answer_piece.new.sink) c.answer_piece.new.steps in
    reading_on rest (g.S.Source.rest c.args.source.now) start _ c.args.taken c.args.begun.now r (g.S.Source.rest c.read.new.self) (take given into) c.in-Ok.ensures.taken.0
    new given c.answer_piece.new.begun (length-take-le given into fits) within c.in-Ok-answer_piece.ensures.answered

pub returns-in-Err-clause-ended : goal.returns-in-Err-clause-ended
returns-in-Err-clause-ended g c = λ rest start r.
    let given = c.in-Ok.given in
    let into = c.read.new.into in
    let fits : given ≤ length into = first_of (omega arith, search rules) in
    let size : length (take given into) ≡ given = length-take-le given into fits in
    let small : given ≤ 4096 = first_of (omega arith, grind arith, search rules) in
    let within : c.args.taken + given ≤ script_limit = first_of (omega arith, grind arith, search rules) in
    let new : Moment = moment c.answer_piece.new.session (g.K.Sink.told c.answer_piece.new.sink) c.answer_piece.new.steps in
    stopped_run rest (g.S.Source.rest c.args.source.now) start _ c.args.taken c.args.begun.now r (g.S.Source.rest c.read.new.self) (take given into) c.in-Ok.ensures.taken.0
    new (omega (arith, size, small)) (omega (arith, size, within)) c.in-Err.ensures.stopped

pub returns-then-given-eq0-clause-last_piece : goal.returns-then-given-eq0-clause-last_piece
returns-then-given-eq0-clause-last_piece g c = λ rest start first r front.
    last_piece rest (g.S.Source.rest c.args.source.now) (g.S.Source.rest c.read.new.self) start _ c.args.taken c.args.begun.now (take c.in-Ok.given c.read.new.into) r
    c.in-Ok.ensures.taken.0 first (g.S.Source.filled c.args.source.now) (g.S.Source.filled c.read.new.self) front _ _ c.in-Ok.ensures.filled

pub returns-then-taken-eq-SCRIPT_LIMIT-clause-last_piece : goal.returns-then-taken-eq-SCRIPT_LIMIT-clause-last_piece
returns-then-taken-eq-SCRIPT_LIMIT-clause-last_piece g c = λ rest start first r front.
    last_piece rest (g.S.Source.rest c.args.source.now) (g.S.Source.rest c.read.new.self) start _ c.args.taken c.args.begun.now (take c.in-Ok.given c.read.new.into) r
    c.in-Ok.ensures.taken.0 first (g.S.Source.filled c.args.source.now) (g.S.Source.filled c.read.new.self) front _ _ c.in-Ok.ensures.filled

pub returns-in-Err-clause-last_piece : goal.returns-in-Err-clause-last_piece
returns-in-Err-clause-last_piece g c = λ rest start first r front.
    last_piece rest (g.S.Source.rest c.args.source.now) (g.S.Source.rest c.read.new.self) start _ c.args.taken c.args.begun.now (take c.in-Ok.given c.read.new.into) r
    c.in-Ok.ensures.taken.0 first (g.S.Source.filled c.args.source.now) (g.S.Source.filled c.read.new.self) front _ _ c.in-Ok.ensures.filled

pub returns-in-Ok-answer_piece-clause-pieces : goal.returns-in-Ok-answer_piece-clause-pieces
returns-in-Ok-answer_piece-clause-pieces g c = λ first front.
    let within : c.args.taken + c.in-Ok.given ≤ script_limit = first_of (omega arith, grind arith, search rules) in
    let some : 1 ≤ c.in-Ok.given = first_of (omega arith, grind arith, search rules) in
    pieces_more first (g.S.Source.filled c.args.source.now) (g.S.Source.filled c.read.new.self) c.args.taken c.in-Ok.given _ within some
    (first_of (omega arith, grind arith, search rules)) front c.in-Ok.ensures.filled
