-- What contracts see of memory that is kept by level.
use Rattle.std.specs.Prelude.{◌≡◌, ℕ, ◌+◌, ◌-◌, ◌<◌, ◌≤◌, ◌==◌, Bool, List, if◌then◌else◌, get_or, length}

-- the memory of a level: so many are kept, and so many are lent
pub record Shelved : Type 0 where
  pub level : ℕ
  pub kept : ℕ
  pub lent : ℕ

abbrev pub one_if : Bool → ℕ
one_if b = if b then 1 else 0

-- the shelf of level k, an empty one where there is none
abbrev pub shelf_at : ℕ → List Shelved → Shelved
shelf_at k shelves = get_or shelves k (record { level = 0; kept = 0; lent = 0 })

-- how many of level k are kept
abbrev pub kept_at : ℕ → List Shelved → ℕ
kept_at k shelves = (shelf_at k shelves).kept

-- how many of level k are lent
abbrev pub lent_at : ℕ → List Shelved → ℕ
lent_at k shelves = (shelf_at k shelves).lent

-- how many of level k there are, lent or not
abbrev pub held_at : ℕ → List Shelved → ℕ
held_at k shelves = kept_at k shelves + lent_at k shelves

-- of each level as much, lent or not
abbrev pub Keeps : List Shelved → List Shelved → Type 0
Keeps old new = (k : ℕ) → held_at k new ≡ held_at k old

-- one of a level more is lent
pub record Lends (level : ℕ) (old new : List Shelved) : Type 0 where
  pub keeps : Keeps old new
  pub lent : (k : ℕ) → lent_at k new ≡ lent_at k old + one_if (k == level)

-- one of a level less is lent
pub record TakesBack (level : ℕ) (old new : List Shelved) : Type 0 where
  pub keeps : Keeps old new
  pub lent : (k : ℕ) → lent_at k new + one_if (k == level) ≡ lent_at k old

-- no more of a level is taken than is wanted there beyond what was kept, and nothing else changes
pub record TakesUpTo (level wanted : ℕ) (old new : List Shelved) : Type 0 where
  pub lent : (k : ℕ) → lent_at k new ≡ lent_at k old
  pub no_less : (k : ℕ) → kept_at k old ≤ kept_at k new
  pub no_more : (k : ℕ) → kept_at k new ≤ kept_at k old + (if k == level then wanted - kept_at k old else 0)

-- one that was kept of a level is freed, if one was, and nothing else changes
pub record GivesUp (level : ℕ) (old new : List Shelved) : Type 0 where
  pub lent : (k : ℕ) → lent_at k new ≡ lent_at k old
  pub kept : (k : ℕ) → kept_at k new ≡ kept_at k old - one_if (k == level)

-- each shelf is at the place of its number
abbrev pub AreInPlace : List Shelved → Type 0
AreInPlace shelves = (k : ℕ) → k < length shelves → (shelf_at k shelves).level ≡ k
