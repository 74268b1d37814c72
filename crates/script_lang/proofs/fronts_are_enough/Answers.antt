use Rattle.script_lang.proofs.Fronts.{parse-front}
use Rattle.script_lang.proofs.fronts_are_enough.Goals as goal

pub returns : goal.returns
returns c = parse-front
