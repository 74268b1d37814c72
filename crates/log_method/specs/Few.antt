-- How much of one level a stack has and may want.
use Rattle.std.specs.Prelude.{ℕ, ◌+◌, ◌≤◌, List}
use Rattle.log_levels.specs.Slots.{Slots}
use Rattle.log_levels.specs.Trades.{used_at, built_at, due_at, wanted_at}

-- of each level they have five builders at most, with those that the next two ticks may take, and tables for two constructions
pub record HaveFew {P Item : Type 0} (levels : List (Slots P Item)) : Type 0 where
  pub builders : (k : ℕ) → used_at k levels + wanted_at 2 k levels ≤ 5
  pub tables : (k : ℕ) → built_at k levels + due_at 2 k levels ≤ 2
