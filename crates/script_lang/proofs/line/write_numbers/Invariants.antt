-- The numbers so far were written.
use Rattle.std.proofs.Common.{◌≡◌, ◌∷◌, map, take}
use Rattle.map_model.specs.Line.{spaced_words}
use Rattle.script_lang.specs.Written.{number_text}
use Rattle.script_lang.proofs.line.write_numbers.Given as goal

abbrev pub invariant-loop-number : goal.invariant-loop-number
invariant-loop-number l = l.line.items ≡ spaced_words (l.word ∷ l.fn.name ∷ map number_text (take l.number-index l.numbers))
