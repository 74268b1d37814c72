-- What a map of layers holds.
use Rattle.std.specs.Prelude.{◌==◌, ◌≢◌, ℕ, ◌+◌, ◌-◌, All, Bool, true, false, not, List, [], ◌∷◌, ◌++◌, length, drop, Option, Some, None, bytes_eq, map, filter, if◌then◌else◌}
use Rattle.std.specs.List.{list_any, AllPairs}
use Rattle.map_model.specs.Version.{Version, One}
use Rattle.map_model.specs.Shape.{Kind, Shape}
use Rattle.map_model.specs.Index.{IndexSet, Index, Range, Near, Top, Stab, Cross, one_if, with_index}

-- a live identifier with its shape
pub record Item : Type 0 where
  pub id : ℕ
  pub shape : Shape

-- how many items each of the indexes that may be late waits for: the last ones of its layer
pub record Waits : Type 0 where
  pub range : ℕ
  pub near : ℕ
  pub top : ℕ

-- a layer: its name, its kind, its indexes with how many items they wait for, how many adds and moves there ever were, and its live items in order of
-- add or move
pub record Layer : Type 0 where
  pub name : List ℕ
  pub kind : Kind
  pub indexes : IndexSet
  pub waits : Waits
  pub inserted : ℕ
  pub items : List Item

-- a map: the version of its script, as many items as a layer may have, and its layers in order of creation, at most 8
pub record State : Type 0 where
  pub version : Version
  pub most_items : ℕ
  pub layers : List Layer

-- the map without layers, for layers of so many items, of version 1
abbrev pub empty_map_of : ℕ → State
empty_map_of most = record { version = One; most_items = most; layers = [] }

-- the map without layers that the program begins with
abbrev pub empty_map : State
empty_map = empty_map_of 65536

-- no two layers have the same name, and no two items of a layer the same identifier
pub record HasDistinctKeys (state : State) : Type 0 where
  pub names : AllPairs (λ a b. a.name ≢ b.name) state.layers
  pub ids : All (λ layer. AllPairs (λ a b. a.id ≢ b.id) layer.items) state.layers

-- as many layers as a map may have
abbrev pub most_layers : ℕ
most_layers = 8

-- how many items a layer has
abbrev pub live_count : Layer → ℕ
live_count layer = length layer.items

-- an item has this identifier
abbrev pub is_live : ℕ → List Item → Bool
is_live id items = list_any (λ item. item.id == id) items

-- the shape of an identifier
abbrev pub shape_of : ℕ → List Item → Option Shape
shape_of id [] = None
shape_of id (item ∷ items) = if item.id == id then Some item.shape else shape_of id items

-- the layer of a name
abbrev pub layer_named : List ℕ → List Layer → Option Layer
layer_named name [] = None
layer_named name (layer ∷ layers) = if bytes_eq layer.name name then Some layer else layer_named name layers

-- the map with a change of the layer of a name
abbrev pub with_layer : List ℕ → (Layer → Layer) → State → State
with_layer name change state = record state { layers = map (λ layer. if bytes_eq layer.name name then change layer else layer) state.layers }

-- one more item, at the end
abbrev pub with_item : Item → List Item → List Item
with_item item items = items ++ item ∷ []

-- the items of other identifiers
abbrev pub without_item : ℕ → List Item → List Item
without_item id items = filter (λ item. not (item.id == id)) items

-- ---- indexes that wait for items

-- no index waits for any
abbrev pub no_waits : Waits
no_waits = record { range = 0; near = 0; top = 0 }

-- how many items an index waits for; 0 where it is ready
abbrev pub wait_of : Waits → Index → ℕ
wait_of waits Range = waits.range
wait_of waits Near = waits.near
wait_of waits Top = waits.top
wait_of waits Stab = 0
wait_of waits Cross = 0

-- an index that waits for so many
abbrev pub with_wait : Waits → Index → ℕ → Waits
with_wait waits Range n = record waits { range = n }
with_wait waits Near n = record waits { near = n }
with_wait waits Top n = record waits { top = n }
with_wait waits Stab n = waits
with_wait waits Cross n = waits

-- as many items as an index that waits is handed by an update
abbrev pub handed : ℕ
handed = 4

-- For how many items an index waits after an update of an identifier, by those before it. First it is handed the next four, and where these are the
-- last it is ready. Else it waits no more for the item of the identifier, if it did, and waits for one that comes.
abbrev pub wait_after : Bool → ℕ → List Item → ℕ → ℕ
wait_after comes id items wait =
    let left = wait - handed in
    if left == 0 then 0 else (left - one_if (is_live id (drop (length items - left) items))) + one_if comes

-- the same of each index of a layer
abbrev pub waits_after : Bool → ℕ → Layer → Waits
waits_after comes id layer =
    let after = wait_after comes id layer.items in
    record { range = after layer.waits.range; near = after layer.waits.near; top = after layer.waits.top }

-- ---- changes of a layer

-- with one more item, at the end
abbrev pub added : Item → Layer → Layer
added item layer = record layer { waits = waits_after true item.id layer; inserted = layer.inserted + 1; items = with_item item layer.items }

-- the item of the identifier at the end, as another
abbrev pub moved : Item → Layer → Layer
moved item layer =
    record layer { waits = waits_after true item.id layer; inserted = layer.inserted + 1; items = with_item item (without_item item.id layer.items) }

-- without the item of an identifier
abbrev pub dropped : ℕ → Layer → Layer
dropped id layer = record layer { waits = waits_after false id layer; items = without_item id layer.items }

-- with one more index, which waits for all items
abbrev pub indexed : Index → Layer → Layer
indexed index layer = record layer { indexes = with_index layer.indexes index; waits = with_wait layer.waits index (live_count layer) }
