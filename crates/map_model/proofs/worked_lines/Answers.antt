use Rattle.std.proofs.Common.{refl}
use Rattle.std.specs.Fmt.{digits}
use Rattle.map_model.specs.Form.{form, verbs}
use Rattle.map_model.specs.Grammar.{command_of}
use Rattle.map_model.proofs.worked_lines.Goals as goal

pub returns : goal.returns
unfolding digits form verbs command_of
returns c = record { blank = refl; comment_of_any_bytes = refl; nul = refl; tabs = refl; two_returns = refl; delete = refl; longest = refl; too_long = refl; longest_comment = refl; too_long_comment = refl; capital = refl; one_word = refl; three_words = refl; long_name = refl; plus = refl; minus = refl; past_64_bits = refl; leading_zeros = refl; number_before_range = refl; range_before_order = refl; order = refl; kind_without_index = refl }
