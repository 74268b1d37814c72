use Rattle.std.proofs.Common.{◌+◌, ◌*◌, arith}
use Rattle.map_model.specs.Cost.{greatest_level}
use Rattle.map_model.proofs.Levels.{IsLog-halvings}
use Rattle.map_model.proofs.greatest_level_is_greatest.Goals as goal

pub returns : goal.returns
unfolding greatest_level
returns c = λ n fits. IsLog-halvings 63 (2 * n + 10) (omega arith) (omega arith)
