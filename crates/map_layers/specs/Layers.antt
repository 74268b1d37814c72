-- What contracts see of the layers of a map.
use Rattle.std.specs.Prelude.{◌≡◌, ℕ, Bool, false, List, [], ◌∷◌, Option, bytes_eq, map, sum_by}
use Rattle.std.specs.List.{find, list_any, position_from}
use Rattle.map_model.specs.State.{State}
use Rattle.map_model.specs.Version.{Version, One}
use Rattle.map_layers.specs.Layer.{LayerState, name_in, limit_in, adds_in, layer_of}

-- the version of the lines that follow, as many items as a layer may have, the layers in order of creation, and how many calls of updates
-- there were, refused ones included
pub record LayersState : Type 0 where
  pub version : Version
  pub most_items : ℕ
  pub layers : List LayerState
  pub updates : ℕ

-- no layer yet, and no update, for layers of so many items, in version 1
abbrev pub no_layers : ℕ → LayersState
no_layers most = record { version = One; most_items = most; layers = []; updates = 0 }

-- a map of these layers as the definitions have it
abbrev pub map_with : Version → ℕ → List LayerState → State
map_with version most layers = record { version = version; most_items = most; layers = map layer_of layers }

-- the map as the definitions have it
abbrev pub map_of : LayersState → State
map_of l = map_with l.version l.most_items l.layers

-- a layer has the name
abbrev pub has_name : List ℕ → LayerState → Bool
has_name name l = bytes_eq (name_in l) name

-- the layer of a name
abbrev pub named : List ℕ → List LayerState → Option LayerState
named name layers = find (has_name name) layers

-- the place of that layer
abbrev pub place_named : List ℕ → List LayerState → Option ℕ
place_named name layers = position_from (has_name name) 0 layers

-- the names of the layers
abbrev pub names_of : List LayerState → List (List ℕ)
names_of layers = map name_in layers

-- how many items each of them may have
abbrev pub limits_of : List LayerState → List ℕ
limits_of layers = map limit_in layers

-- how many adds there ever were in all of them
abbrev pub adds_of : List LayerState → ℕ
adds_of layers = sum_by adds_in layers

-- no two names are the same
abbrev pub AllDiffer : List (List ℕ) → Type 0
AllDiffer [] = Unit {0}
AllDiffer (name ∷ names) = (list_any (λ other. bytes_eq other name) names ≡ false) × AllDiffer names
