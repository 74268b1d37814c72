-- The machine that scans a map of layers: one command, its reply and the map after it. The first refusal that holds is
-- the reply, and the map then stays as it is.
use Rattle.std.specs.Prelude.{ℕ, Bool, true, false, not, List, [], ◌∷◌, ◌++◌, length, nat_le, nat_lt, ◌&&◌, Option, Some, None, is_some, if◌then◌else◌}
use Rattle.map_model.specs.Version as versions
use Rattle.map_model.specs.Shape.{Kind, Points, Segments, Shape, Point, kind_of}
use Rattle.map_model.specs.Index.{IndexSet, Index, has}
use Rattle.map_model.specs.State.{Layer, State, most_layers, live_count, is_live, shape_of, layer_named, with_layer, no_waits, wait_of, added, moved, dropped, indexed}
use Rattle.map_model.specs.Answer.{Question, answer_over, index_of, kind_asked, latest}
use Rattle.map_model.specs.Command.{Command, Livemap, MakeLayer, MakeIndex, Add, Move, Drop, Ask, Get, Size, Recent}
use Rattle.map_model.specs.Refusal.{Refusal, Taken, NoRoom, NoLayer, Building, Duplicate, Unknown, Full}
use Rattle.map_model.specs.Refusal as refusals
use Rattle.map_model.specs.Reply.{Reply, Made, Updated, Answered, Got, Sized, Latest, Refused}

-- what a command leaves and what it is answered
pub record Outcome : Type 0 where
  pub state : State
  pub reply : Reply

-- the map with a reply
abbrev pub replied : State → Reply → Outcome
replied state reply = record { state = state; reply = reply }

-- the map as it is, and a refusal
abbrev pub refused : State → Refusal → Outcome
refused state cause = replied state (Refused cause)

-- the two kinds are one
abbrev pub is_same_kind : Kind → Kind → Bool
is_same_kind Points Points = true
is_same_kind Points Segments = false
is_same_kind Segments Points = false
is_same_kind Segments Segments = true

-- a layer has the name
abbrev pub is_taken : List ℕ → State → Bool
is_taken name state = is_some (layer_named name state.layers)

-- the version of the lines that follow; Version where a layer stands
abbrev pub choose_version : State → versions.Version → List Layer → Outcome
choose_version state version [] = replied (record state { version = version }) Made
choose_version state version (layer ∷ layers) = refused state refusals.Version

-- an empty layer comes at the end; Taken where one has the name, then NoRoom where there are eight
abbrev pub make_layer : State → List ℕ → Kind → IndexSet → Outcome
make_layer state name kind indexes =
    if is_taken name state then refused state Taken
    else (if nat_le most_layers (length state.layers) then refused state NoRoom
    else replied (record state { layers = state.layers ++ record { name = name; kind = kind; indexes = indexes; waits = no_waits; inserted = 0; items = [] } ∷ [] }) Made)

-- a further index comes, which waits for all items of its layer; NoLayer, then Kind where the layer has segments, or joins parts at once, Taken where
-- it has the index
abbrev pub index_in : State → List ℕ → Index → Option Layer → Outcome
index_in state name index None = refused state NoLayer
index_in state name index (Some layer) =
    if not (is_same_kind layer.kind Points && not layer.indexes.batch) then refused state refusals.Kind
    else (if has layer.indexes index then refused state Taken
    else replied (with_layer name (indexed index) state) Made)

-- the item comes at the end of its layer; NoLayer, then Kind where the shape is of the other kind, Duplicate where the identifier is live,
-- Full where the layer has as many items as one may have
abbrev pub add_to : State → List ℕ → ℕ → Shape → Option Layer → Outcome
add_to state name id shape None = refused state NoLayer
add_to state name id shape (Some layer) =
    if not (is_same_kind layer.kind (kind_of shape)) then refused state refusals.Kind
    else (if is_live id layer.items then refused state (Duplicate id)
    else (if nat_le state.most_items (live_count layer) then refused state Full
    else replied (with_layer name (added (record { id = id; shape = shape })) state) Updated))

-- the point of an identifier goes to the end of its layer with this place and weight; NoLayer, then Kind where the layer has segments, Unknown
-- where the identifier isn't live
abbrev pub move_in : State → List ℕ → ℕ → Shape → Option Layer → Outcome
move_in state name id shape None = refused state NoLayer
move_in state name id shape (Some layer) =
    if not (is_same_kind layer.kind (kind_of shape)) then refused state refusals.Kind
    else (if is_live id layer.items then replied (with_layer name (moved (record { id = id; shape = shape })) state) Updated
    else refused state (Unknown id))

-- the item goes; NoLayer, then Unknown where the identifier isn't live
abbrev pub drop_from : State → List ℕ → ℕ → Option Layer → Outcome
drop_from state name id None = refused state NoLayer
drop_from state name id (Some layer) =
    if is_live id layer.items then replied (with_layer name (dropped id) state) Updated
    else refused state (Unknown id)

-- the answer over all items; NoLayer, then Kind where the question is about the other kind, Index where the layer lacks the index for it,
-- Building where that waits for items
abbrev pub ask_of : State → Question → Option Layer → Outcome
ask_of state question None = refused state NoLayer
ask_of state question (Some layer) =
    if not (is_same_kind layer.kind (kind_asked question)) then refused state refusals.Kind
    else (if not (has layer.indexes (index_of question)) then refused state refusals.Index
    else (if nat_lt 0 (wait_of layer.waits (index_of question)) then refused state (Building (wait_of layer.waits (index_of question)))
    else replied state (Answered (answer_over layer.items question))))

-- a shape, or Unknown where there is none
abbrev pub got : State → ℕ → Option Shape → Outcome
got state id None = refused state (Unknown id)
got state id (Some shape) = replied state (Got shape)

-- the shape of an identifier; NoLayer, then Unknown where it isn't live
abbrev pub get_from : State → ℕ → Option Layer → Outcome
get_from state id None = refused state NoLayer
get_from state id (Some layer) = got state id (shape_of id layer.items)

-- how many live items there are; NoLayer
abbrev pub size_of : State → Option Layer → Outcome
size_of state None = refused state NoLayer
size_of state (Some layer) = replied state (Sized (live_count layer))

-- the identifiers of the last k items; NoLayer
abbrev pub recent_of : State → ℕ → Option Layer → Outcome
recent_of state k None = refused state NoLayer
recent_of state k (Some layer) = replied state (Latest (latest k layer.items))

-- What a command makes of a map, and its reply. The first refusal that holds is the reply, and the map then stays as it is.
abbrev pub step : State → Command → Outcome
step state (Livemap version) = choose_version state version state.layers
step state (MakeLayer name kind indexes) = make_layer state name kind indexes
step state (MakeIndex name index) = index_in state name index (layer_named name state.layers)
step state (Add name id shape) = add_to state name id shape (layer_named name state.layers)
step state (Move name id x y w) = move_in state name id (Point x y w) (layer_named name state.layers)
step state (Drop name id) = drop_from state name id (layer_named name state.layers)
step state (Ask name question) = ask_of state question (layer_named name state.layers)
step state (Get name id) = get_from state id (layer_named name state.layers)
step state (Size name) = size_of state (layer_named name state.layers)
step state (Recent name k) = recent_of state k (layer_named name state.layers)
