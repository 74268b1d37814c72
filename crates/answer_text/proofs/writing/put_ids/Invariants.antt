-- The identifiers so far were gathered.
use Rattle.std.proofs.Common.{take}
use Rattle.answer_text.specs.Pieces.{Gathers}
use Rattle.answer_text.specs.Texts.{spaced_all}
use Rattle.answer_text.proofs.writing.put_ids.Given as goal

abbrev pub invariant-loop-id : goal.invariant-loop-id
invariant-loop-id g l = Gathers (g.K.Sink.told l.initial.sink) (g.K.Sink.told l.sink) l.initial.piece.items l.piece.items (spaced_all (take l.id-index l.ids))
