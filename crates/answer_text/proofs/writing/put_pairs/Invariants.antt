-- The points so far were gathered.
use Rattle.std.proofs.Common.{take, flat_map}
use Rattle.answer_text.specs.Pieces.{Gathers}
use Rattle.answer_text.specs.Texts.{found_text}
use Rattle.answer_text.proofs.writing.put_pairs.Given as goal

abbrev pub invariant-loop-k : goal.invariant-loop-k
invariant-loop-k g l = Gathers (g.K.Sink.told l.initial.sink) (g.K.Sink.told l.sink) l.initial.piece.items l.piece.items (flat_map found_text (take l.k l.fn.found))
