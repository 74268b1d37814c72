use Rattle.map_model.proofs.LawfulCommands.{IsCommand-parsed}
use Rattle.map_model.proofs.read_commands_are_lawful.Goals as goal

pub returns : goal.returns
returns c = IsCommand-parsed
