-- What a contract sees of a chain.
use Rattle.std.specs.Prelude.{◌≡◌, ℕ, ◌==◌, ◌||◌, ◌++◌, Bool, false, if◌then◌else◌, IsTrue, List, [], ◌∷◌, Option, Some, None, IfSome, refl}
use Rattle.std.specs.Coded.{Coded, code_by, coded×, coded_ℕ, coded_list}

-- an item, and the handle under which it is linked
pub record Entry (I : Type 0) : Type 0 where
  pub handle : ℕ
  pub item : I

-- a chain: its entries in order of append, how many appends need no further memory, and the handle that the next one gives
pub record ChainState (I : Type 0) : Type 0 where
  pub entries : List (Entry I)
  pub spare : ℕ
  pub next_handle : ℕ

-- a code of entries, by which proofs tell two of them apart, made of a code of items
abbrev pub entry_code : {I : Type 0} → Coded I → Coded (Entry I)
entry_code {I} code =
    code_by (ℕ × I) (coded× coded_ℕ code) (λ e. (e.handle, e.item)) (λ p. record { handle = p.0; item = p.1 }) (λ _. refl)

-- a code of chains, by which proofs tell two of them apart, made of a code of items
abbrev pub chain_code : {I : Type 0} → Coded I → Coded (ChainState I)
chain_code {I} code =
    code_by
    (List (Entry I) × (ℕ × ℕ))
    (coded× (coded_list (entry_code code)) (coded× coded_ℕ coded_ℕ))
    (λ c. (c.entries, (c.spare, c.next_handle)))
    (λ p. record { entries = p.0; spare = p.1.0; next_handle = p.1.1 })
    (λ _. refl)

module _ {I : Type 0} where
  -- whether an entry has this handle
  abbrev pub is_linked : ℕ → List (Entry I) → Bool
  is_linked handle [] = false
  is_linked handle (e ∷ es) = (e.handle == handle) || is_linked handle es

  -- all handles of the list differ
  abbrev pub HandlesDiffer : List (Entry I) → Type 0
  HandlesDiffer [] = Unit {0}
  HandlesDiffer (e ∷ es) = (is_linked e.handle es ≡ false) × HandlesDiffer es

  -- the item under a handle
  abbrev pub item_at : ℕ → List (Entry I) → Option I
  item_at handle [] = None
  item_at handle (e ∷ es) = if e.handle == handle then Some e.item else item_at handle es

  -- the entries before a handle
  abbrev pub before : ℕ → List (Entry I) → List (Entry I)
  before handle [] = []
  before handle (e ∷ es) = if e.handle == handle then [] else e ∷ before handle es

  -- the entries after a handle
  abbrev pub after : ℕ → List (Entry I) → List (Entry I)
  after handle [] = []
  after handle (e ∷ es) = if e.handle == handle then es else after handle es

  -- the entries up to a handle, its own among them
  abbrev pub up_to : ℕ → List (Entry I) → List (Entry I)
  up_to handle [] = []
  up_to handle (e ∷ es) = e ∷ (if e.handle == handle then [] else up_to handle es)

  -- A cursor is at a linked handle, or past the last entry, where it has none.
  abbrev pub IsCursor : Option ℕ → List (Entry I) → Type 0
  IsCursor cursor es = IfSome cursor (λ handle. IsTrue (is_linked handle es))

  -- the entries before a cursor
  abbrev pub before_cursor : Option ℕ → List (Entry I) → List (Entry I)
  before_cursor None es = es
  before_cursor (Some handle) es = before handle es

  -- the entries without that of a handle, all others in their order
  abbrev pub without_handle : ℕ → List (Entry I) → List (Entry I)
  without_handle handle es = before handle es ++ after handle es

  -- the first handle of these entries, or else the one that follows them
  abbrev pub first_or : List (Entry I) → Option ℕ → Option ℕ
  first_or [] next = next
  first_or (e ∷ es) next = Some e.handle

  -- the last handle of these entries, or else the one that they follow
  abbrev pub last_or : Option ℕ → List (Entry I) → Option ℕ
  last_or prev [] = prev
  last_or prev (e ∷ es) = last_or (Some e.handle) es

  -- the handle of the first entry
  abbrev pub first_handle : List (Entry I) → Option ℕ
  first_handle es = first_or es None

  -- the handle of the last entry
  abbrev pub last_handle : List (Entry I) → Option ℕ
  last_handle es = last_or None es

  -- an entry is linked still, with its item and what was before it, and some entries come after what was after it
  pub record StaysBefore (more : List (Entry I)) (handle : ℕ) (old new : List (Entry I)) : Type 0 where
    pub linked : IsTrue (is_linked handle new)
    pub item : item_at handle new ≡ item_at handle old
    pub front : before handle new ≡ before handle old
    pub rest : after handle new ≡ after handle old ++ more

  -- an entry is as it was, where another one goes; before it and after it there is what was there, but for the other one
  pub record StaysBeside (gone handle : ℕ) (old new : List (Entry I)) : Type 0 where
    pub linked : is_linked handle new ≡ is_linked handle old
    pub item : item_at handle new ≡ item_at handle old
    pub front : before handle new ≡ without_handle gone (before handle old)
    pub rest : after handle new ≡ without_handle gone (after handle old)
    pub front_kept : is_linked gone (before handle old) ≡ false → before handle new ≡ before handle old

  -- an entry is linked still, where another one is renewed; before it and after it there is what was there, but for the renewed one, which comes last
  pub record StaysAhead (renewed : Entry I) (handle : ℕ) (old new : List (Entry I)) : Type 0 where
    pub linked : IsTrue (is_linked handle new)
    pub item : item_at handle new ≡ item_at handle old
    pub front : before handle new ≡ without_handle renewed.handle (before handle old)
    pub rest : after handle new ≡ without_handle renewed.handle (after handle old) ++ renewed ∷ []
    pub front_kept : is_linked renewed.handle (before handle old) ≡ false → before handle new ≡ before handle old
