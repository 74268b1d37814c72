use Rattle.std.proofs.Common.{refl}
use Rattle.std.specs.Fmt.{digits}
use Rattle.map_model.specs.Form.{form, verbs}
use Rattle.map_model.specs.Grammar.{command_of}
use Rattle.map_model.proofs.worked_rows.Goals as goal

pub returns : goal.returns
unfolding digits form verbs command_of
returns c = record { empty = refl; silent = refl; refused = refl; whole = refl; counted = refl; largest = refl; nearest = refl; farthest = refl; dropped = refl; added_again = refl; first_faults = refl; segments = refl; highest = refl; signed = refl; versions = refl; highest_signed = refl; moved = refl; full = refl; layers = refl; town = refl; late = refl; late_of_none = refl; late_moves = refl; other_index = refl; late_dropped = refl }
