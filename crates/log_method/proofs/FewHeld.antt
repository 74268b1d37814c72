-- How much of a level is in memory, where a store lends to one stack.
use Rattle.std.proofs.Common.{◌==◌, ℕ, ◌+◌, ◌≤◌, Bool, true, false, List, if◌then◌else◌, arith}
use Rattle.part_store.specs.Store.{Stored, tables_for}
use Rattle.log_levels.specs.Slots.{Slots}
use Rattle.log_levels.specs.Trades.{due_at, wanted_at}
use Rattle.log_method.specs.Few.{HaveFew}
use Rattle.log_method.specs.Preparing.{AreKept, HasTaken, LendsOnly, HoldsFew}
use Rattle.log_method.proofs.Taking.{used_kept, built_kept}

module _ {P Item : Type 0} where
  -- tables are wanted for constructions alone
  tables_due : (k : ℕ) (levels : List (Slots P Item)) → tables_for k (wanted_at 2 k levels) ≤ due_at 2 k levels
  tables_due k levels = at (k == 0)
    where
      at : (b : Bool) → (if b then 0 else ((if b then 2 else 0) + due_at 2 k levels)) ≤ due_at 2 k levels
      at true = omega arith
      at false = omega arith

  -- of a level no more is held after a preparation than levels have and may want, unless more was
  pub few_held : (old new : List (Slots P Item)) (store store' : Stored) → HaveFew new → AreKept old new
      → HasTaken (λ k. wanted_at 2 k new) store store' → LendsOnly old store → HoldsFew store store'
  few_held old new store store' few kept taken only = record {
    builders = λ k. omega (
      arith,
      taken.builders.no_more k,
      taken.builders.lent k,
      only.builders k,
      used_kept old new kept k,
      few.builders k,
    );
    tables = λ k. omega (
      arith,
      taken.tables.no_more k,
      taken.tables.lent k,
      only.tables k,
      built_kept old new kept k,
      tables_due k new,
      few.tables k,
    );
  }
