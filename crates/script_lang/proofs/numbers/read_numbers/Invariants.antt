-- What is left gives what all of it gives, and each coordinate that is left has a place.
use Rattle.std.proofs.Common.{◌≡◌, ◌+◌, ◌≤◌, length, count_by, drop}
use Rattle.map_model.specs.Words.{words}
use Rattle.map_shapes.specs.Version.{version_of}
use Rattle.script_lang.specs.Form.{is_place}
use Rattle.script_lang.specs.Numbers.{with_words, no_numbers}
use Rattle.script_lang.proofs.numbers.read_numbers.Given as goal

abbrev pub invariant-loop-field : goal.invariant-loop-field
invariant-loop-field l = record {
  read : with_words (version_of l.version) (drop l.field-index l.fields) (words l.rest) l.numbers ≡ with_words (version_of l.version) l.fields (words l.text) no_numbers;
  room : length l.numbers.places + count_by is_place (drop l.field-index l.fields) ≤ 4;
}
