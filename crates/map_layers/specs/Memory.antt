-- What calls keep of the memory of a map's layers.
use Rattle.std.specs.Prelude.{◌≡◌, ℕ, Bool, true, false, List, [], ◌∷◌, ◌++◌, None, Result, Ok, Err}
use Rattle.layer_kinds.specs.Memory as kinds
use Rattle.layer_kinds.specs.Memory.{Memory, Each}
use Rattle.map_layers.specs.declared.faults.UpdateFault.{UpdateFault}
use Rattle.map_layers.specs.Faults.{IfUpdated}
use Rattle.map_layers.specs.Layer.{LayerState}
use Rattle.map_layers.specs.Layers.{has_name}

-- An update keeps of a layer what it keeps in a layer of one kind, and all where it is refused before.
abbrev pub KeepsMemory : {T : Type 0} → Result T UpdateFault → (old new : List Memory) → Type 0
KeepsMemory result old new = IfUpdated (λ r. kinds.KeepsMemory r old new) (new ≡ old) (new ≡ old) result

-- the memory of one index more, which has none yet, and of the others as it was
pub record HasOneMore (old new : List Memory) : Type 0 where
  pub before : List Memory
  pub behind : List Memory
  pub were : old ≡ before ++ behind
  pub are : new ≡ before ++ record { parts = []; unwalked = None } ∷ behind

-- an index that is made has no memory yet, and the others keep theirs
abbrev pub AddsMemory : {T F : Type 0} → Result T F → (old new : List Memory) → Type 0
AddsMemory (Ok done) old new = HasOneMore old new
AddsMemory (Err fault) old new = new ≡ old

module _ (R : (old new : List Memory) → Type 0) where
  -- so much of a layer where it is asked for, and all of another one
  abbrev pub KeptWhere : Bool → (old new : List Memory) → Type 0
  KeptWhere true old new = R old new
  KeptWhere false old new = new ≡ old

  -- so much of the layer of a name, and all of each other one
  abbrev pub KeptIn : List ℕ → (old new : List LayerState) → Type 0
  KeptIn name old new = Each (λ l l'. KeptWhere (has_name name l) l.memory l'.memory) old new

-- an update of the layer of a name keeps of each layer so much
abbrev pub KeepsMemoryIn : {T : Type 0} → List ℕ → Result T UpdateFault → (old new : List LayerState) → Type 0
KeepsMemoryIn name result old new = KeptIn (KeepsMemory result) name old new

-- the making of an index of the layer of a name does
abbrev pub AddsMemoryIn : {T F : Type 0} → List ℕ → Result T F → (old new : List LayerState) → Type 0
AddsMemoryIn name result old new = KeptIn (AddsMemory result) name old new
