-- What moves of memory do to a store, and to what a stack has of it.
use Rattle.std.specs.Prelude.{◌≡◌, ℕ, ◌+◌, ◌-◌, ◌≤◌, List}
use Rattle.part_store.specs.Shelves.{kept_at, lent_at, held_at}
use Rattle.part_store.specs.Store.{Stored}
use Rattle.log_levels.specs.Slots.{Slots}
use Rattle.log_levels.specs.Trades.{used_at, built_at}

-- of each level no less is in memory, lent or not
pub record HoldsNoLess (old new : Stored) : Type 0 where
  pub builders : (k : ℕ) → held_at k old.builders ≤ held_at k new.builders
  pub tables : (k : ℕ) → held_at k old.tables ≤ held_at k new.tables

-- A stack takes and gives back, and memory is taken for it. What more it has is lent more. Of each level the store keeps, and the stack has, no
-- more builders together than before, or five.
pub record LendsFew {P Item : Type 0} (levels : List (Slots P Item)) (store : Stored) (levels' : List (Slots P Item)) (store' : Stored) : Type 0 where
  pub no_less : HoldsNoLess store store'
  pub lent : (k : ℕ) → lent_at k store'.builders + used_at k levels ≡ lent_at k store.builders + used_at k levels'
  pub lent_tables : (k : ℕ) → lent_at k store'.tables + built_at k levels ≡ lent_at k store.tables + built_at k levels'
  pub few : (k : ℕ) → let before = kept_at k store.builders + used_at k levels in
      kept_at k store'.builders + used_at k levels' ≤ before + (5 - before)
