use Rattle.std.proofs.Common.{◌≡◌, ◌≤◌, ◌+◌, ◌++◌, ℕ, List, length}
use Rattle.map_session.specs.Answering.{Moment, moment, IsUnderway}
use Rattle.map_session.proofs.answering.answer_piece.Given as goal

-- the lines so far are answered, and the rest of the piece is left
abbrev pub invariant-loop-line : goal.invariant-loop-line
invariant-loop-line g l =
    (done : List ℕ) × (l.piece ≡ done ++ l.rest) × (l.session.lines + length l.rest ≤ l.initial.session.lines + length l.piece)
    × ((start : Moment) (text : List ℕ) → IsUnderway start text l.initial.begun (moment l.initial.session (g.K.Sink.told l.initial.sink) l.initial.steps)
    → IsUnderway start (text ++ done) l.begun (moment l.session (g.K.Sink.told l.sink) l.steps))

abbrev pub decreases-loop-line : goal.decreases-loop-line
decreases-loop-line g l = length l.rest
