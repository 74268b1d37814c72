-- What contracts see of the tally of a question for the nearest k.
use Rattle.std.specs.Prelude.{ℕ, List}
use Rattle.map_model.specs.Found.{Found}

-- a tally for the nearest points: how many it keeps, and those that it has, the nearest first
pub record NearestSoFar : Type 0 where
  pub k : ℕ
  pub found : List Found
