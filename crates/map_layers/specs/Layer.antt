-- What contracts see of a layer of either kind, and what an update makes of it.
use Rattle.std.specs.Prelude.{◌≡◌, ℕ, ◌<◌, ◌≤◌, ◌&&◌, not, Bool, true, false, All, List, Option, None, Some, Result, Ok, Err, length, sum_by}
use Rattle.std.specs.Option.{is_some}
use Rattle.layer_kinds.specs.Layered.{Layered, items_of}
use Rattle.layer_kinds.specs.Memory.{Memory}
use Rattle.layer_kinds.specs.declared.faults.Standing.{Standing}
use Rattle.map_model.specs.Shape as model
use Rattle.map_model.specs.Index.{Index, Range, Near, Top, Stab, Cross, IndexSet, has}
use Rattle.map_model.specs.Machine.{is_same_kind}
use Rattle.map_model.specs.State as state
use Rattle.map_model.specs.State.{Item, Waits, is_live, added, moved, dropped, indexed}
use Rattle.map_layers.specs.declared.faults.IndexFault.{IndexFault}
use Rattle.map_layers.specs.declared.faults.IndexFault.TheVariants as index
use Rattle.map_layers.specs.declared.faults.UpdateFault.{UpdateFault}
use Rattle.map_layers.specs.declared.faults.UpdateFault.TheVariants.{NoLayer, WrongKind, Duplicate, Unknown, Full, NoMemory}
use Rattle.map_layers.specs.declared.layer.Shapes.{Shapes}
use Rattle.map_layers.specs.declared.layer.Shapes.TheVariants.{Points, Segments}

-- of each index that is there, how many complete parts each level has, of a late one none; and for how many items each waits
pub record Held : Type 0 where
  pub range : Option (List ℕ)
  pub near : Option (List ℕ)
  pub top : Option (List ℕ)
  pub stab : Option (List ℕ)
  pub cross : Option (List ℕ)
  pub waits : Waits

-- that of an index
abbrev pub held_by : Held → Index → Option (List ℕ)
held_by held Range = held.range
held_by held Near = held.near
held_by held Top = held.top
held_by held Stab = held.stab
held_by held Cross = held.cross

-- which indexes are there
abbrev pub set_of : Held → IndexSet
set_of held = record {
  range = is_some held.range;
  near = is_some held.near;
  top = is_some held.top;
  stab = is_some held.stab;
  cross = is_some held.cross;
  batch = false;
}

-- for how many items each waits, after a change of each number
abbrev pub each_after : (ℕ → ℕ) → Waits → Waits
each_after after waits = record { range = after waits.range; near = after waits.near; top = after waits.top }

-- a layer as the definitions have it, how many items it may have, what its indexes hold, and the memory of each
pub record LayerState : Type 0 where
  pub layer : state.Layer
  pub most_items : ℕ
  pub held : Held
  pub memory : List Memory

-- the layer as the definitions have it
abbrev pub layer_of : LayerState → state.Layer
layer_of l = l.layer

-- its name
abbrev pub name_in : LayerState → List ℕ
name_in l = l.layer.name

-- how many items it may have
abbrev pub limit_in : LayerState → ℕ
limit_in l = l.most_items

-- how many adds and moves there ever were
abbrev pub adds_in : LayerState → ℕ
adds_in l = l.layer.inserted

-- its items, in order of add or move
abbrev pub items_in : LayerState → List Item
items_in l = l.layer.items

module _ {X I : Type 0} (kind : model.Kind) (item_of : I → Item) (held : X → Held) where
  -- a layer of items of one kind, over such indexes, as the definitions have it
  abbrev pub layer_seen : Layered X I → state.Layer
  layer_seen l = record {
    name = l.name;
    kind = kind;
    indexes = set_of (held l.indexes);
    waits = (held l.indexes).waits;
    inserted = l.adds;
    items = items_of item_of l.entries;
  }

  -- a layer of items of one kind as contracts see it
  abbrev pub seen : (X → List Memory) → Layered X I → LayerState
  seen memory l = record { layer = layer_seen l; most_items = l.most_items; held = held l.indexes; memory = memory l.indexes }

module _ {P S I J : Type 0} (points : Layered P I → LayerState) (segments : Layered S J → LayerState) where
  -- a layer of either kind
  abbrev pub seen_of : Shapes P S I J → LayerState
  seen_of (Points l) = points l
  seen_of (Segments l) = segments l

-- so many as an index has complete parts, of which no level has more than three
abbrev pub IsEveryPart : Option (List ℕ) → ℕ → Type 0
IsEveryPart None parts = ⊥
IsEveryPart (Some counts) parts = (parts ≡ sum_by (λ n. n) counts) × All (λ n. n ≤ 3) counts

-- the shape is of the layer's kind, or isn't
abbrev pub IsOfShape : state.Layer → model.Shape → Bool → Type 0
IsOfShape layer shape b = is_same_kind layer.kind (model.kind_of shape) ≡ b

-- An item of the other kind is refused, then one whose identifier is live, and any other where as many are live as may be; else it is added, but
-- for want of memory.
abbrev pub IsAddTo : {T : Type 0} → ℕ → state.Layer → Item → state.Layer → Result T UpdateFault → Type 0
IsAddTo most layer item new (Ok done) =
    IsOfShape layer item.shape true × (is_live item.id layer.items ≡ false) × (length layer.items < most) × (new ≡ added item layer)
IsAddTo most layer item new (Err NoLayer) = ⊥
IsAddTo most layer item new (Err WrongKind) = IsOfShape layer item.shape false × (new ≡ layer)
IsAddTo most layer item new (Err (Duplicate id)) =
    IsOfShape layer item.shape true × (is_live item.id layer.items ≡ true) × (id ≡ item.id) × (new ≡ layer)
IsAddTo most layer item new (Err (Unknown id)) = ⊥
IsAddTo most layer item new (Err Full) =
    IsOfShape layer item.shape true × (is_live item.id layer.items ≡ false) × (most ≤ length layer.items) × (new ≡ layer)
IsAddTo most layer item new (Err NoMemory) =
    IsOfShape layer item.shape true × (is_live item.id layer.items ≡ false) × (length layer.items < most) × (new ≡ layer)

-- An item of the other kind is refused, and then one whose identifier isn't live; else it is moved, but for want of memory.
abbrev pub IsMoveTo : {T : Type 0} → state.Layer → Item → state.Layer → Result T UpdateFault → Type 0
IsMoveTo layer item new (Ok done) = IsOfShape layer item.shape true × (is_live item.id layer.items ≡ true) × (new ≡ moved item layer)
IsMoveTo layer item new (Err NoLayer) = ⊥
IsMoveTo layer item new (Err WrongKind) = IsOfShape layer item.shape false × (new ≡ layer)
IsMoveTo layer item new (Err (Duplicate id)) = ⊥
IsMoveTo layer item new (Err (Unknown id)) =
    IsOfShape layer item.shape true × (is_live item.id layer.items ≡ false) × (id ≡ item.id) × (new ≡ layer)
IsMoveTo layer item new (Err Full) = ⊥
IsMoveTo layer item new (Err NoMemory) = IsOfShape layer item.shape true × (is_live item.id layer.items ≡ true) × (new ≡ layer)

-- An identifier that isn't live is refused, and any other item is dropped, but for want of memory.
abbrev pub IsRemovalFrom : {T : Type 0} → state.Layer → ℕ → state.Layer → Result T UpdateFault → Type 0
IsRemovalFrom layer id new (Ok done) = (is_live id layer.items ≡ true) × (new ≡ dropped id layer)
IsRemovalFrom layer id new (Err NoLayer) = ⊥
IsRemovalFrom layer id new (Err WrongKind) = ⊥
IsRemovalFrom layer id new (Err (Duplicate other)) = ⊥
IsRemovalFrom layer id new (Err (Unknown other)) = (is_live id layer.items ≡ false) × (other ≡ id) × (new ≡ layer)
IsRemovalFrom layer id new (Err Full) = ⊥
IsRemovalFrom layer id new (Err NoMemory) = (is_live id layer.items ≡ true) × (new ≡ layer)

-- An index that is there is refused, and else it is made late.
abbrev pub IsBegun : {T : Type 0} → state.Layer → Index → state.Layer → Result T Standing → Type 0
IsBegun layer i new (Ok done) = (has layer.indexes i ≡ false) × (new ≡ indexed i layer)
IsBegun layer i new (Err standing) = (has layer.indexes i ≡ true) × (new ≡ layer)

-- a layer may be given an index, or may not
abbrev pub MayBeGiven : state.Layer → Bool → Type 0
MayBeGiven layer b = (is_same_kind layer.kind model.Points && not layer.indexes.batch) ≡ b

-- A layer that may be given no index is refused one, and then as a layer of points.
abbrev pub IsIndexIn : {T : Type 0} → state.Layer → Index → state.Layer → Result T IndexFault → Type 0
IsIndexIn layer i new (Ok done) = MayBeGiven layer true × (has layer.indexes i ≡ false) × (new ≡ indexed i layer)
IsIndexIn layer i new (Err index.NoLayer) = ⊥
IsIndexIn layer i new (Err index.WrongKind) = MayBeGiven layer false × (new ≡ layer)
IsIndexIn layer i new (Err index.Standing) = MayBeGiven layer true × (has layer.indexes i ≡ true) × (new ≡ layer)
