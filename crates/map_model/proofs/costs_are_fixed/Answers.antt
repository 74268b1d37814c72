use Rattle.map_model.proofs.CostsFixed.{line_fixes_cost, spent_fits, joined_fits, asked_fits}
use Rattle.map_model.proofs.costs_are_fixed.Goals as goal

pub returns : goal.returns
returns c = record { fixed = line_fixes_cost; updates = spent_fits; joins = joined_fits; questions = asked_fits }
