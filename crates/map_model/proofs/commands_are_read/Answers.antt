use Rattle.map_model.proofs.RoundTrip.{parse-command_line}
use Rattle.map_model.proofs.commands_are_read.Goals as goal

pub returns : goal.returns
returns c = parse-command_line
