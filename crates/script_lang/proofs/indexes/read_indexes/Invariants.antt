-- What is left, behind what was read, gives what all of it gives.
use Rattle.std.proofs.Common.{◌≡◌, length}
use Rattle.map_model.specs.Words.{words}
use Rattle.script_lang.specs.Indexes.{with_index_words}
use Rattle.script_lang.proofs.indexes.read_indexes.Given as goal

abbrev pub invariant-loop-word : goal.invariant-loop-word
invariant-loop-word l = with_index_words (words l.rest) l.indexes ≡ with_index_words (words l.text) l.initial.indexes

abbrev pub decreases-loop-word : goal.decreases-loop-word
decreases-loop-word l = length l.rest
