-- Stacks that are put out of use, and one of their parts that is given back.
use Rattle.std.specs.Prelude.{◌≡◌, ℕ, ◌+◌, ◌-◌, ◌*◌, ◌^◌, ◌<◌, ◌≤◌, ◌==◌, ◌++◌, ◌∷◌, [], List, Option, if◌then◌else◌, nat_lt}
use Rattle.part_store.specs.Shelves.{one_if, kept_at, lent_at, held_at}
use Rattle.part_store.specs.Store.{Stored, KeepsBoth, tables_for}
use Rattle.builder_trait.specs.Parts.{Contents}
use Rattle.log_levels.specs.Trades.{used_at, built_at, wanted_at}
use Rattle.log_method.specs.Stack.{Stacked}
use Rattle.log_method.specs.Retired.{used_of}
use Rattle.chain_walk.specs.Walk.{Walked as Shadow, live_in}
use Rattle.global_rebuild.specs.Index.{in_both, in_retired, IsSpare, IsCleared}
use Rattle.global_rebuild.specs.Memory.{FreesOneAt}

module _ {P Item : Type 0} where
  -- a stack is put out of use after others, where a part of it is in memory
  abbrev pub with_retired : List (Stacked P Item) → Stacked P Item → List (Stacked P Item)
  with_retired retired s = if nat_lt 0 (used_of s.levels) then retired ++ s ∷ [] else retired

  -- a part of a level is given back to the store by retired stacks, where they have any: of that level alone more builders may be kept, by one
  pub record GivesBack (level : ℕ) (retired : List (Stacked P Item)) (store : Stored) (retired' : List (Stacked P Item)) (store' : Stored) : Type 0 where
    pub one : in_retired used_of retired' ≡ in_retired used_of retired - 1
    pub keeps : KeepsBoth store store'
    pub lent : (k : ℕ) → lent_at k store'.builders + in_retired (used_at k) retired ≡ lent_at k store.builders + in_retired (used_at k) retired'
    pub lent_tables : (k : ℕ) → lent_at k store'.tables + in_retired (built_at k) retired ≡ lent_at k store.tables + in_retired (built_at k) retired'
    pub kept : (k : ℕ) → kept_at k store'.builders ≤ kept_at k store.builders + one_if (k == level)

  -- nothing changes, or spare memory of one level is freed
  pub data FreesSpare (contents : P → Contents Item) (main : Stacked P Item) (shadow : Option (Shadow P Item)) (old new : Stored) : Type 0 where
    none : new ≡ old → FreesSpare contents main shadow old new
    one : (level : ℕ) → FreesOneAt level old new → IsSpare contents level main shadow new → FreesSpare contents main shadow old new

  -- something is freed that isn't taken again: a builder of a level where ten are left, or as many as two ticks may take, or tables of a level of
  -- which they take none; or nothing is freed, and no memory is kept of a level above the greatest of an index of its size
  pub data FreesUnwanted (contents : P → Contents Item) (main : Stacked P Item) (shadow : Option (Shadow P Item)) (old new : Stored) : Type 0 where
    crowded : (level : ℕ) → held_at level new.builders < held_at level old.builders → 10 ≤ kept_at level new.builders + in_both (used_at level) main shadow
        → FreesUnwanted contents main shadow old new
    one_builder : (level : ℕ) → held_at level new.builders < held_at level old.builders → 2 * live_in contents main + 10 < 2 ^ level
        → in_both (wanted_at 2 level) main shadow ≤ kept_at level new.builders → FreesUnwanted contents main shadow old new
    one_tables : (level : ℕ) → held_at level new.tables < held_at level old.tables → 2 * live_in contents main + 10 < 2 ^ level
        → in_both (wanted_at 2 level) main shadow ≡ 0 → FreesUnwanted contents main shadow old new
    cleared_before : new ≡ old → IsCleared contents main shadow old → FreesUnwanted contents main shadow old new

  -- memory is taken for both stacks, which have as much of the store: of each level no less is kept, with what they have no more than ten
  -- builders, where there weren't more, and no more than they want, where there wasn't more; of higher levels they want as much
  pub record TakeMemory (main : Stacked P Item) (shadow : Option (Shadow P Item)) (store : Stored) (main' : Stacked P Item)
      (shadow' : Option (Shadow P Item)) (store' : Stored) : Type 0 where
    pub used : (k : ℕ) → in_both (used_at k) main' shadow' ≡ in_both (used_at k) main shadow
    pub built : (k : ℕ) → in_both (built_at k) main' shadow' ≡ in_both (built_at k) main shadow
    pub lent : (k : ℕ) → lent_at k store'.builders ≡ lent_at k store.builders
    pub lent_tables : (k : ℕ) → lent_at k store'.tables ≡ lent_at k store.tables
    pub kept : (k : ℕ) → kept_at k store.builders ≤ kept_at k store'.builders
    pub kept_tables : (k : ℕ) → kept_at k store.tables ≤ kept_at k store'.tables
    pub few : (k : ℕ) → let before = kept_at k store.builders + in_both (used_at k) main shadow in
        kept_at k store'.builders + in_both (used_at k) main' shadow' ≤ before + (10 - before)
    pub no_more : (k : ℕ) → kept_at k store'.builders ≤ kept_at k store.builders + (in_both (wanted_at 2 k) main' shadow' - kept_at k store.builders)
    pub no_more_tables : (k : ℕ) → kept_at k store'.tables ≤ kept_at k store.tables
        + (tables_for k (in_both (wanted_at 2 k) main' shadow') - kept_at k store.tables)
    pub wanted : (k : ℕ) → 4 ≤ k → in_both (wanted_at 2 k) main' shadow' ≡ in_both (wanted_at 2 k) main shadow
