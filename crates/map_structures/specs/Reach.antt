-- Coordinates below a bound, or up to it.
use Rattle.std.specs.Prelude.{ℕ, Bool, nat_lt, nat_le}
use Rattle.map_structures.specs.declared.reach.Reach.{Reach}
use Rattle.map_structures.specs.declared.reach.Reach.TheVariants.{Below, UpTo}

-- the coordinate is one of those below the bound, or up to it
abbrev pub reaches : Reach → ℕ → Bool
reaches (Below bound) coordinate = nat_lt coordinate bound
reaches (UpTo bound) coordinate = nat_le coordinate bound
