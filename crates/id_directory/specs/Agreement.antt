-- How the map and the chain of a directory agree. No public clause cites this module.
use Rattle.std.specs.Prelude.{◌≡◌, ℕ, ◌==◌, ◌≤◌, Bool, true, false, if◌then◌else◌, List, Option, Some, None}
use Rattle.std.specs.Ordering.{nat_cmp}
use Rattle.std.specs.Option.{option_map_or}
use Rattle.std.specs.BTreeMap.{BTreeMap, get, Updates}
use Rattle.id_chain.specs.Chain.{Entry, HandlesDiffer}
use Rattle.id_chain.specs.StampsRise.{StampsRise}
use Rattle.id_directory.specs.Directory.{handle_of, IdsDiffer}

-- whether an add is prepared for this identifier
abbrev pub is_pending : ℕ → Option ℕ → Bool
is_pending id pending = option_map_or (λ p. p == id) pending false

module _ {I : Type 0} (id_of : I → ℕ) where
  -- what the map has at an identifier: the handle of its item, the next one where its add is prepared, or none
  abbrev pub slot_of : List (Entry I) → ℕ → Option ℕ → ℕ → Option ℕ
  slot_of es next pending id = option_map_or (λ handle. Some handle) (handle_of id_of id es) (if is_pending id pending then Some next else None)

module _ {I : Type 0} (id_of stamp : I → ℕ) where
  -- the map has the handles of the chain's items, and a pending identifier has room in the chain and no item there
  pub record Agrees (handles : BTreeMap ℕ ℕ) (es : List (Entry I)) (spare next adds : ℕ) (pending : Option ℕ) : Type 0 where
    pub found : (id : ℕ) → get nat_cmp handles id ≡ slot_of id_of es next pending id
    pub ids_differ : IdsDiffer id_of es
    pub handles_differ : HandlesDiffer es
    pub rising : StampsRise stamp 0 es adds
    pub new_id : (id : ℕ) → pending ≡ Some id → handle_of id_of id es ≡ None
    pub room : (id : ℕ) → pending ≡ Some id → 1 ≤ spare

-- two maps that answer alike
abbrev pub AreSame : BTreeMap ℕ ℕ → BTreeMap ℕ ℕ → Type 0
AreSame old new = (id : ℕ) → get nat_cmp new id ≡ get nat_cmp old id

-- a handle is put where there was none, and else nothing changes
abbrev pub PutsNew : Bool → BTreeMap ℕ ℕ → BTreeMap ℕ ℕ → ℕ → ℕ → Type 0
PutsNew true old new id handle = Updates nat_cmp old new id (Some handle)
PutsNew false old new id handle = AreSame old new
