use Rattle.map_session.proofs.Ledger.{script_adds_up, commands_add_up}
use Rattle.map_session.proofs.ledger_adds_up.Goals as goal

pub returns : goal.returns
returns c = record { lines = script_adds_up; commands = commands_add_up }
