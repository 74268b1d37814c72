-- What a contract sees of a directory.
use Rattle.std.specs.Prelude.{◌≡◌, ℕ, ◌==◌, if◌then◌else◌, List, [], ◌∷◌, Option, Some, None, map, refl}
use Rattle.std.specs.Coded.{Coded, code_by, coded×, coded_ℕ, coded_list, coded_option}
use Rattle.id_chain.specs.Chain.{Entry, entry_code}

-- a directory: its entries in order of append, how many adds there ever were, and the identifier that an add is prepared for
pub record DirectoryState (I : Type 0) : Type 0 where
  pub entries : List (Entry I)
  pub adds : ℕ
  pub pending : Option ℕ

-- a code of directories, by which proofs tell two of them apart, made of a code of items
abbrev pub directory_code : {I : Type 0} → Coded I → Coded (DirectoryState I)
directory_code {I} code =
    code_by
    (List (Entry I) × (ℕ × Option ℕ))
    (coded× (coded_list (entry_code code)) (coded× coded_ℕ (coded_option coded_ℕ)))
    (λ r. (r.entries, (r.adds, r.pending)))
    (λ p. record { entries = p.0; adds = p.1.0; pending = p.1.1 })
    (λ _. refl)

module _ {I : Type 0} (id_of : I → ℕ) where
  -- the identifiers, in order of append
  abbrev pub ids : List (Entry I) → List ℕ
  ids es = map (λ e. id_of e.item) es

  -- the handle of the item with this identifier
  abbrev pub handle_of : ℕ → List (Entry I) → Option ℕ
  handle_of id [] = None
  handle_of id (e ∷ es) = if id_of e.item == id then Some e.handle else handle_of id es

  -- the item with this identifier
  abbrev pub item_of : ℕ → List (Entry I) → Option I
  item_of id [] = None
  item_of id (e ∷ es) = if id_of e.item == id then Some e.item else item_of id es

  -- the entries without that of an identifier, all others in their order
  abbrev pub without : ℕ → List (Entry I) → List (Entry I)
  without id [] = []
  without id (e ∷ es) = if id_of e.item == id then es else e ∷ without id es

  -- no two entries have the same identifier
  abbrev pub IdsDiffer : List (Entry I) → Type 0
  IdsDiffer [] = Unit {0}
  IdsDiffer (e ∷ es) = (handle_of (id_of e.item) es ≡ None) × IdsDiffer es
