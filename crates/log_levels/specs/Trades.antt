-- What levels have of a store, and what the next ticks may take of it.
use Rattle.std.specs.Prelude.{◌≡◌, ◌==◌, ℕ, ◌+◌, ◌^◌, ◌≤◌, ◌<◌, ◌&&◌, ◌||◌, Bool, false, not, List, [], ◌∷◌, if◌then◌else◌, IfSome, length, nat_le}
use Rattle.std.specs.Option.{is_some}
use Rattle.part_store.specs.Shelves.{one_if, kept_at, lent_at}
use Rattle.partial_build.specs.Construction.{IsBegun}
use Rattle.part_store.specs.Store.{Stored, KeepsBoth, LendsRoom}
use Rattle.log_levels.specs.Slots.{Slots, ticks_of, waiting_in}

-- a room for a construction into a level is kept
pub record HasRoom (level : ℕ) (store : Stored) : Type 0 where
  pub builder : 0 < kept_at level store.builders
  pub tables : 0 < kept_at level store.tables

module _ {P Item : Type 0} where
  -- 1 where a construction runs into a level
  abbrev pub runs_in : Slots P Item → ℕ
  runs_in l = one_if (is_some l.construction)

  -- how many builders a level has: those of its parts, and of its construction
  abbrev pub used_in : Slots P Item → ℕ
  used_in l = length l.parts + runs_in l

  -- how many builders levels of number k have
  abbrev pub used_at : ℕ → List (Slots P Item) → ℕ
  used_at k [] = 0
  used_at k (l ∷ above) = (if k == l.level then used_in l else 0) + used_at k above

  -- of how many constructions they have the tables
  abbrev pub built_at : ℕ → List (Slots P Item) → ℕ
  built_at k [] = 0
  built_at k (l ∷ above) = (if k == l.level then runs_in l else 0) + built_at k above

  -- all that levels have is lent, to them and maybe to others
  pub record AreLent (levels : List (Slots P Item)) (store : Stored) : Type 0 where
    pub builders : (k : ℕ) → used_at k levels ≤ lent_at k store.builders
    pub tables : (k : ℕ) → built_at k levels ≤ lent_at k store.tables

  -- a part may arrive at a level within so many ticks, one or two, above which a construction then begins: within one tick only as the second
  abbrev pub is_due : ℕ → Slots P Item → Bool
  is_due ticks l = nat_le (2 ^ l.level) (ticks_of l + ticks) && (nat_le 2 ticks || (length l.parts == 1))

  -- how many constructions into level k may begin within so many ticks
  abbrev pub due_at : ℕ → ℕ → List (Slots P Item) → ℕ
  due_at ticks k [] = 0
  due_at ticks k (l ∷ above) = (if k == l.level + 1 then one_if (is_due ticks l) else 0) + due_at ticks k above

  -- how many builders of level k these ticks may take: one for each item that comes, too
  abbrev pub wanted_at : ℕ → ℕ → List (Slots P Item) → ℕ
  wanted_at ticks k levels = (if k == 0 then ticks else 0) + due_at ticks k levels

  -- no construction may begin above the highest of some levels within so many ticks
  abbrev pub IsQuietAbove : ℕ → Slots P Item → List (Slots P Item) → Type 0
  IsQuietAbove ticks l [] = is_due ticks l ≡ false
  IsQuietAbove ticks l (next ∷ above) = IsQuietAbove ticks next above

  abbrev pub IsQuiet : ℕ → List (Slots P Item) → Type 0
  IsQuiet ticks [] = ⊥
  IsQuiet ticks (l ∷ above) = IsQuietAbove ticks l above

  -- So many ticks find what they may take. No construction may begin above the highest level by then.
  pub record IsStocked (levels : List (Slots P Item)) (store : Stored) (ticks : ℕ) : Type 0 where
    pub builders : (k : ℕ) → wanted_at ticks k levels ≤ kept_at k store.builders
    pub tables : (k : ℕ) → due_at ticks k levels ≤ kept_at k store.tables
    pub quiet : IsQuiet ticks levels

  -- of each level there is as much, lent or not, and just what levels have more is lent more
  pub record Trades (levels : List (Slots P Item)) (store : Stored) (levels' : List (Slots P Item)) (store' : Stored) : Type 0 where
    pub keeps : KeepsBoth store store'
    pub builders : (k : ℕ) → lent_at k store'.builders + used_at k levels ≡ lent_at k store.builders + used_at k levels'
    pub tables : (k : ℕ) → lent_at k store'.tables + built_at k levels ≡ lent_at k store.tables + built_at k levels'

  -- A tick, with an item or without: no more is taken than was forecast for one tick, and what was forecast for two is there for the next, as far
  -- as that may want it.
  pub record Ticks (levels : List (Slots P Item)) (store : Stored) (levels' : List (Slots P Item)) (store' : Stored) : Type 0 where
    pub trades : Trades levels store levels' store'
    pub takes : (k : ℕ) → kept_at k store.builders ≤ kept_at k store'.builders + wanted_at 1 k levels
    pub takes_tables : (k : ℕ) → kept_at k store.tables ≤ kept_at k store'.tables + due_at 1 k levels
    pub stays : (k : ℕ) → kept_at k store.builders + wanted_at 1 k levels' ≤ kept_at k store'.builders + wanted_at 2 k levels
    pub stays_tables : (k : ℕ) → kept_at k store.tables + due_at 1 k levels' ≤ kept_at k store'.tables + due_at 2 k levels
    pub quiet : IsQuiet 2 levels → IsQuiet 1 levels'

  -- a construction begins into a level in this tick, since two parts stand below and none runs
  abbrev pub will_begin : Slots P Item → Slots P Item → Bool
  will_begin lower l = nat_le 2 (length lower.parts) && not (is_some l.construction)

  -- the same, or a part may arrive below in the next tick
  abbrev pub may_begin : Slots P Item → Slots P Item → Bool
  may_begin lower l = will_begin lower l || nat_le (2 ^ lower.level) (ticks_of lower + 1)

  -- what may be taken above a level that has taken its tick, in this tick
  abbrev pub now_at : ℕ → Slots P Item → List (Slots P Item) → ℕ
  now_at k lower [] = 0
  now_at k lower (l ∷ above) = (if k == l.level then one_if (will_begin lower l) else 0) + due_at 1 k (l ∷ above)

  -- the same, in this tick and the next: once at most above each level
  abbrev pub soon_at : ℕ → Slots P Item → List (Slots P Item) → ℕ
  soon_at k lower [] = if k == lower.level + 1 then one_if (nat_le (2 ^ lower.level) (ticks_of lower + 1)) else 0
  soon_at k lower (l ∷ above) = (if k == l.level then one_if (may_begin lower l) else 0) + due_at 2 k (l ∷ above)

  -- no construction may begin above the highest level in this tick and the next, of which the lowest of these levels has taken the first
  abbrev pub IsQuietSoon : Slots P Item → List (Slots P Item) → Type 0
  IsQuietSoon lower [] = nat_le (2 ^ lower.level) (ticks_of lower + 1) ≡ false
  IsQuietSoon lower (next ∷ above) = IsQuietAbove 2 next above

  -- the rest of a tick that the lowest of these levels has taken finds what it may take, and no construction begins above the highest
  pub record AreReady (lower : Slots P Item) (above : List (Slots P Item)) (store : Stored) : Type 0 where
    pub builders : (k : ℕ) → now_at k lower above ≤ kept_at k store.builders
    pub tables : (k : ℕ) → now_at k lower above ≤ kept_at k store.tables
    pub quiet : (l : Slots P Item) (rest : List (Slots P Item)) → above ≡ l ∷ rest → IsQuietAbove 1 l rest
    pub lent : AreLent (lower ∷ above) store

  -- the same of all levels, of which level 0 has taken the tick
  abbrev pub AreAllReady : List (Slots P Item) → Stored → Type 0
  AreAllReady [] store = ⊥
  AreAllReady (lowest ∷ above) store = AreReady lowest above store

  -- a construction into a level begins, with nothing read, in a room that is lent for it
  pub record Begins (l : Slots P Item) (store : Stored) (l' : Slots P Item) (store' : Stored) : Type 0 where
    pub begun : IfSome l'.construction IsBegun
    pub ticks : ticks_of l' ≡ 0
    pub waiting : waiting_in l' ≡ 0
    pub lent : LendsRoom l.level store store'

  -- what a visit of a level does: it takes what begins
  pub record Visits (lower l : Slots P Item) (store : Stored) (lower' l' : Slots P Item) (store' : Stored) : Type 0 where
    pub trades : Trades (lower ∷ l ∷ []) store (lower' ∷ l' ∷ []) store'
    pub takes : (k : ℕ) → kept_at k store.builders ≤ kept_at k store'.builders + (if k == l.level then one_if (will_begin lower l) else 0)
    pub takes_tables : (k : ℕ) → kept_at k store.tables ≤ kept_at k store'.tables + (if k == l.level then one_if (will_begin lower l) else 0)

  -- the rest of a tick that the lowest of these levels has taken
  pub record Walks (lower : Slots P Item) (above : List (Slots P Item)) (store : Stored) (lower' : Slots P Item) (above' : List (Slots P Item))
      (store' : Stored) : Type 0 where
    pub trades : Trades (lower ∷ above) store (lower' ∷ above') store'
    pub takes : (k : ℕ) → kept_at k store.builders ≤ kept_at k store'.builders + now_at k lower above
    pub takes_tables : (k : ℕ) → kept_at k store.tables ≤ kept_at k store'.tables + now_at k lower above
    pub stays : (k : ℕ) → kept_at k store.builders + due_at 1 k (lower' ∷ above') ≤ kept_at k store'.builders + soon_at k lower above
    pub stays_tables : (k : ℕ) → kept_at k store.tables + due_at 1 k (lower' ∷ above') ≤ kept_at k store'.tables + soon_at k lower above
    pub quiet : IsQuietSoon lower above → IsQuietAbove 1 lower' above'

  -- the same of all levels, of which level 0 had taken the tick
  abbrev pub WalkAll : List (Slots P Item) → Stored → List (Slots P Item) → Stored → Type 0
  WalkAll [] store levels' store' = ⊥
  WalkAll (lowest ∷ above) store [] store' = ⊥
  WalkAll (lowest ∷ above) store (lowest' ∷ above') store' = Walks lowest above store lowest' above' store'
