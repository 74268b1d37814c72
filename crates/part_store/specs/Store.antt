-- What contracts see of a store: builders, and tables for their merges.
use Rattle.std.specs.Prelude.{◌≡◌, ◌≢◌, ℕ, ◌+◌, ◌<◌, ◌≤◌, ◌==◌, List, if◌then◌else◌}
use Rattle.part_store.specs.Shelves.{Shelved, kept_at, Keeps, Lends, TakesBack, TakesUpTo, GivesUp}

-- a store: of each level builders, of which parts are made, and tables of constructions
pub record Stored : Type 0 where
  pub builders : List Shelved
  pub tables : List Shelved

-- of each level as many builders and tables, lent or not
pub record KeepsBoth (old new : Stored) : Type 0 where
  pub builders : Keeps old.builders new.builders
  pub tables : Keeps old.tables new.tables

-- a builder of a level more is lent, and tables for it
pub record LendsRoom (level : ℕ) (old new : Stored) : Type 0 where
  pub builders : Lends level old.builders new.builders
  pub tables : Lends level old.tables new.tables

-- a builder of a level more is lent
pub record LendsBuilder (level : ℕ) (old new : Stored) : Type 0 where
  pub builders : Lends level old.builders new.builders
  pub tables : new.tables ≡ old.tables

-- a builder of a level less is lent
pub record TakesPart (level : ℕ) (old new : Stored) : Type 0 where
  pub builders : TakesBack level old.builders new.builders
  pub tables : new.tables ≡ old.tables

-- a builder of a level less is lent, and tables for it
pub record TakesRoom (level : ℕ) (old new : Stored) : Type 0 where
  pub builders : TakesBack level old.builders new.builders
  pub tables : TakesBack level old.tables new.tables

-- tables of a level less are lent
pub record TakesTables (level : ℕ) (old new : Stored) : Type 0 where
  pub builders : new.builders ≡ old.builders
  pub tables : TakesBack level old.tables new.tables

-- of so many constructions into a level so many have tables: none of the lowest level, where parts have one item
abbrev pub tables_for : ℕ → ℕ → ℕ
tables_for level n = if level == 0 then 0 else n

-- so many constructions into a level find their memory
pub record HasRooms (level n : ℕ) (store : Stored) : Type 0 where
  pub builders : n ≤ kept_at level store.builders
  pub tables : tables_for level n ≤ kept_at level store.tables

-- no more of a level is taken than so many constructions want beyond what was kept, and nothing else changes
pub record StocksUpTo (level n : ℕ) (old new : Stored) : Type 0 where
  pub builders : TakesUpTo level n old.builders new.builders
  pub tables : TakesUpTo level (tables_for level n) old.tables new.tables

-- a builder of a level is freed, if one was kept, and if none was, tables of it
pub record FreesOne (level : ℕ) (old new : Stored) : Type 0 where
  pub builder : kept_at level old.builders ≢ 0 → GivesUp level old.builders new.builders × (new.tables ≡ old.tables)
  pub tables : kept_at level old.builders ≡ 0 → (new.builders ≡ old.builders) × GivesUp level old.tables new.tables

-- how much is kept of level k
abbrev pub kept_in : ℕ → Stored → ℕ
kept_in k store = kept_at k store.builders + kept_at k store.tables

-- nothing is kept from a level on
abbrev pub IsEmptyFrom : ℕ → Stored → Type 0
IsEmptyFrom level store = (k : ℕ) → level ≤ k → kept_in k store ≡ 0

-- something is kept of a level, and nothing of those above it
pub record IsHighest (level : ℕ) (store : Stored) : Type 0 where
  pub some : 0 < kept_in level store
  pub above : IsEmptyFrom (level + 1) store
