use Rattle.std.proofs.Common.{refl}
use Rattle.map_model.proofs.ReplyLines.{told_text, told_one_line, begins_no}
use Rattle.map_model.proofs.replies_are_lines.Goals as goal

pub returns : goal.returns
returns c = record { one_line = λ version ledger reply cost. (told_text version ledger reply cost, refl, told_one_line version ledger reply cost); refusals = begins_no }
