-- A store that frees memory of one level.
use Rattle.std.specs.Prelude.{◌≡◌, ℕ, ◌+◌, ◌≤◌, ◌==◌}
use Rattle.part_store.specs.Shelves.{one_if, kept_at, lent_at, held_at}
use Rattle.part_store.specs.Store.{Stored}

-- of each level no less is in memory, lent or not, but for a builder of one level at most, and the tables of one construction into it
pub record FreesOneOf (level : ℕ) (old new : Stored) : Type 0 where
  pub builders : (k : ℕ) → held_at k old.builders ≤ held_at k new.builders + one_if (k == level)
  pub tables : (k : ℕ) → held_at k old.tables ≤ held_at k new.tables + one_if (k == level)

-- a builder of a level, or the tables of a construction into it, is freed at most, and nothing else changes
pub record FreesOneAt (level : ℕ) (old new : Stored) : Type 0 where
  pub lent : (k : ℕ) → lent_at k new.builders ≡ lent_at k old.builders
  pub lent_tables : (k : ℕ) → lent_at k new.tables ≡ lent_at k old.tables
  pub at : (k : ℕ) → kept_at k old.builders ≤ kept_at k new.builders + one_if (k == level)
  pub at_tables : (k : ℕ) → kept_at k old.tables ≤ kept_at k new.tables + one_if (k == level)
  pub no_more : (k : ℕ) → kept_at k new.builders ≤ kept_at k old.builders
