-- The numbers so far were gathered.
use Rattle.std.proofs.Common.{take, flat_map}
use Rattle.answer_text.specs.Pieces.{Gathers}
use Rattle.answer_text.specs.Texts.{spaced_number}
use Rattle.answer_text.proofs.writing.put_numbers.Given as goal

abbrev pub invariant-loop-number : goal.invariant-loop-number
invariant-loop-number g l = Gathers (g.K.Sink.told l.initial.sink) (g.K.Sink.told l.sink) l.initial.piece.items l.piece.items (flat_map spaced_number (take l.number-index l.numbers))
