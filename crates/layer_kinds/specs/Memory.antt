-- What updates keep of the memory of a layer's indexes, and of their rebuilds.
use Rattle.std.specs.Prelude.{◌≡◌, ℕ, ◌+◌, ◌≤◌, ◌==◌, List, [], ◌∷◌, get_or, map, Option, None, Some, Result, Ok, Err}
use Rattle.builder_trait.specs.Parts.{Contents}
use Rattle.part_store.specs.Shelves.{one_if}
use Rattle.global_rebuild.specs.Index.{Indexed, unwalked}
use Rattle.late_index.specs.Late.{LateState}
use Rattle.layer_kinds.specs.declared.faults.UpdateFault.{UpdateFault}
use Rattle.layer_kinds.specs.declared.faults.UpdateFault.TheVariants.{Duplicate, Unknown, Full, NoMemory}
use Rattle.layer_kinds.specs.Indexing.{Placed, Absent, Whole, Late}

-- the memory of an index: how many parts of each level it has, in whatever use, and how many items its rebuild hasn't come by, where one runs; a late
-- index has no rebuild
pub record Memory : Type 0 where
  pub parts : List ℕ
  pub unwalked : Option ℕ

-- how many parts of level k there are
abbrev pub parts_of_level : ℕ → Memory → ℕ
parts_of_level k m = get_or m.parts k 0

-- the memory of a late index
abbrev pub late_memory : {P Item : Type 0} → LateState P Item → Memory
late_memory l = record { parts = map (λ s. s.kept + s.lent) l.store.builders; unwalked = None }

module _ {P Item : Type 0} (contents : P → Contents Item) where
  -- the memory of an index: what its store keeps, and what that lends
  abbrev pub memory_in : Indexed P Item → Memory
  memory_in i = record { parts = map (λ s. s.kept + s.lent) i.store.builders; unwalked = unwalked contents i }

  -- the memory of an index that is there
  abbrev pub memories_of : Placed P Item → List Memory
  memories_of Absent = []
  memories_of (Whole i) = memory_in i ∷ []
  memories_of (Late l) = late_memory l ∷ []

-- of each level there are as many parts
abbrev pub KeepsAll : (old new : Memory) → Type 0
KeepsAll old new = (k : ℕ) → parts_of_level k new ≡ parts_of_level k old

-- of each level there are no fewer parts, but for one part at most
abbrev pub LosesOne : (old new : Memory) → Type 0
LosesOne old new = (t : ℕ) × ((k : ℕ) → parts_of_level k old ≤ parts_of_level k new + one_if (k == t))

-- a rebuild comes by four items at most: none begins, and one that runs ends where no more are left, and not before
abbrev pub GoesOn : (old new : Option ℕ) → Type 0
GoesOn None None = Unit {0}
GoesOn None (Some w') = ⊥
GoesOn (Some w) None = w ≤ 4
GoesOn (Some w) (Some w') = (w' ≤ w) × (w ≤ w' + 4)

-- what a preparation keeps, whether memory is refused or not
pub record IsReadied (old new : Memory) : Type 0 where
  pub parts : LosesOne old new
  pub rebuild : GoesOn old.unwalked new.unwalked

module _ {A : Type 0} (R : A → A → Type 0) where
  -- two lists are of the same length, and the relation holds at each place
  abbrev pub Each : List A → List A → Type 0
  Each [] [] = Unit {0}
  Each (x ∷ xs) (y ∷ ys) = R x y × Each xs ys
  Each [] (y ∷ ys) = ⊥
  Each (x ∷ xs) [] = ⊥

-- Of each index an update loses one part at most. Where memory refused it, no rebuild began, and none was given up; one that is refused for another
-- cause loses nothing.
abbrev pub KeepsMemory : {T : Type 0} → Result T UpdateFault → (old new : List Memory) → Type 0
KeepsMemory (Ok done) old new = Each LosesOne old new
KeepsMemory (Err (Duplicate id)) old new = new ≡ old
KeepsMemory (Err (Unknown id)) old new = new ≡ old
KeepsMemory (Err Full) old new = new ≡ old
KeepsMemory (Err NoMemory) old new = Each IsReadied old new
