-- No two layers of a map that was reached have the same name, and no two items of a layer the same identifier.
use Rattle.std.proofs.Common.{◌≡◌, ◌≢◌, ◌==◌, ℕ, suc, ◌<◌, Bool, true, false, if◌then◌else◌, List, [], ◌∷◌, ◌++◌, length, Option, Some, None, Ok, Err, get_or, unwrap_or, arith, refl, sym, ap, ◌∙◌, subst, inl, inr}
use Rattle.std.specs.Prelude.{All, bytes_eq, nat_le, not, is_some, map, nat_lt, ◌&&◌}
use Rattle.std.specs.List.{AllPairs}
use Rattle.std.proofs.lemmas.Bool.{false_from_ne_true, true≢false}
use Rattle.std.proofs.lemmas.Bool.Decides.{Decides-eqb}
use Rattle.std.proofs.lemmas.Slice.Eq.{bytes_eq-Decides}
use Rattle.std.proofs.lemmas.List.Kept.{AllPairs-cons, AllPairs-filter}
use Rattle.std.proofs.lemmas.List.Elements.{All-cons, All-push, filter_passes}
use Rattle.std.proofs.lemmas.List.Quantifiers.{all_pairs_push}
use Rattle.std.proofs.lemmas.List.Folds.{list_any_at}
use Rattle.map_model.specs.Version.{Version}
use Rattle.map_model.specs.Shape.{Shape, Kind, Point, Points, kind_of}
use Rattle.map_model.specs.Index.{IndexSet, has}
use Rattle.map_model.specs.Index as indexes
use Rattle.map_model.specs.State.{Item, Layer, State, HasDistinctKeys, empty_map_of, most_layers, live_count, is_live, shape_of, layer_named, with_layer, without_item, no_waits, wait_of, added, moved, dropped, indexed}
use Rattle.map_model.specs.Answer.{Question, index_of, kind_asked}
use Rattle.map_model.specs.Command.{Command, Livemap, MakeLayer, MakeIndex, Add, Move, Drop, Ask, Get, Size, Recent}
use Rattle.map_model.specs.Refusal.{Taken, NoRoom, Duplicate, Unknown, Full, Index, Building}
use Rattle.map_model.specs.Refusal as refusals
use Rattle.map_model.specs.Machine.{Outcome, step, refused, is_same_kind, is_taken, choose_version, make_layer, index_in, add_to, move_in, drop_from, ask_of, got, get_from, size_of, recent_of}
use Rattle.map_model.specs.Grammar.{Parsed, parse}
use Rattle.map_model.specs.Output.{Given, AnswersTo, Output}

-- ---- the first layer and the others

-- what distinct keys say of a list of layers
pub record AreDistinct (layers : List Layer) : Type 0 where
  pub names : AllPairs (λ a b. a.name ≢ b.name) layers
  pub ids : All (λ layer. AllPairs (λ a b. a.id ≢ b.id) layer.items) layers

pub of_layers : (state : State) → HasDistinctKeys state → AreDistinct state.layers
of_layers state h = record { names = h.names; ids = h.ids }

pub of_state : (state : State) → AreDistinct state.layers → HasDistinctKeys state
of_state state h = record { names = h.names; ids = h.ids }

pub names_apart : (layer : Layer) (layers : List Layer) → AreDistinct (layer ∷ layers) → All (λ other. layer.name ≢ other.name) layers
names_apart layer layers h k d inside = h.names 0 (suc k) d (omega arith) (omega arith)

pub ids_apart : (layer : Layer) (layers : List Layer) → AreDistinct (layer ∷ layers) → AllPairs (λ a b. a.id ≢ b.id) layer.items
ids_apart layer layers h = h.ids 0 layer (omega arith)

pub AreDistinct-rest : (layer : Layer) (layers : List Layer) → AreDistinct (layer ∷ layers) → AreDistinct layers
AreDistinct-rest layer layers h = record {
  names = λ i j d before inside. h.names (suc i) (suc j) d (omega arith) (omega arith);
  ids = λ k d inside. h.ids (suc k) d (omega arith);
}

pub AreDistinct-cons : (layer : Layer) (layers : List Layer) → All (λ other. layer.name ≢ other.name) layers → AllPairs (λ a b. a.id ≢ b.id) layer.items → AreDistinct layers
    → AreDistinct (layer ∷ layers)
AreDistinct-cons layer layers names ids rest = record {
  names = AllPairs-cons (λ a b. a.name ≢ b.name) layer layers names rest.names;
  ids = All-cons (λ (l : Layer). AllPairs (λ a b. a.id ≢ b.id) l.items) layer layers ids rest.ids;
}

pub HasDistinctKeys-empty : (most : ℕ) → HasDistinctKeys (empty_map_of most)
HasDistinctKeys-empty most = record { names = λ i j d before inside. absurd (omega arith); ids = λ k d inside. absurd (omega arith) }

-- ---- a layer changed

-- the layers with a change of one
abbrev pub changed_in : List ℕ → (Layer → Layer) → List Layer → List Layer
changed_in name change layers = map (λ layer. if bytes_eq layer.name name then change layer else layer) layers

-- a change that keeps a layer's name
abbrev pub KeepsName : (Layer → Layer) → Type 0
KeepsName change = (layer : Layer) → (change layer).name ≡ layer.name

-- the names stay
names_kept : (name : List ℕ) (change : Layer → Layer) → KeepsName change → (P : List ℕ → Type 0) (layers : List Layer) → All (λ l. P l.name) layers → All (λ l. P l.name) (changed_in name change layers)
names_kept name change same P [] h = λ k d inside. absurd (omega arith)
names_kept name change same P (layer ∷ layers) h =
    All-cons (λ (l : Layer). P l.name) _ (changed_in name change layers)
    (elim (bytes_eq layer.name name) as (λ b. P (if b then change layer else layer).name) [ true ↦ subst P (sym (same layer)) (h 0 layer (omega arith)) | false ↦ h 0 layer (omega arith) ])
    (names_kept name change same P layers (λ k d inside. h (suc k) d (omega arith)))

-- layers of other names stay
others_kept : (name : List ℕ) (change : Layer → Layer) (layers : List Layer) → All (λ l. name ≢ l.name) layers → changed_in name change layers ≡ layers
others_kept name change [] h = refl
others_kept name change (layer ∷ layers) h =
    let other : bytes_eq layer.name name ≡ false = false_from_ne_true _ (λ same. h 0 layer (omega arith) (sym ((bytes_eq-Decides layer.name name).0 same))) in
    (λ i. (if other i then change layer else layer) ∷ others_kept name change layers (λ k d inside. h (suc k) d (omega arith)) i)

changed_first : (name : List ℕ) (change : Layer → Layer) → KeepsName change → (layer : Layer) (layers : List Layer) → layer.name ≡ name → AllPairs (λ a b. a.id ≢ b.id) (change layer).items
    → AreDistinct (layer ∷ layers) → AreDistinct (change layer ∷ changed_in name change layers)
changed_first name change same layer layers is ids h =
    let apart = names_apart layer layers h in
    let others : All (λ l. name ≢ l.name) layers = λ k d inside. subst (λ n. n ≢ (get_or layers k d).name) is (apart k d inside) in
    let others' : All (λ l. (change layer).name ≢ l.name) layers = λ k d inside. subst (λ n. n ≢ (get_or layers k d).name) (sym (same layer)) (apart k d inside) in
    subst (λ ls. AreDistinct (change layer ∷ ls)) (sym (others_kept name change layers others))
    (AreDistinct-cons (change layer) layers others' ids (AreDistinct-rest layer layers h))

-- a change that keeps the identifiers of a layer apart
AreDistinct-changed_in : (name : List ℕ) (change : Layer → Layer) → KeepsName change → (layers : List Layer)
    → ((layer : Layer) → layer_named name layers ≡ Some layer → AllPairs (λ a b. a.id ≢ b.id) layer.items → AllPairs (λ a b. a.id ≢ b.id) (change layer).items)
    → AreDistinct layers → AreDistinct (changed_in name change layers)
AreDistinct-changed_in name change same [] keeps h = h
AreDistinct-changed_in name change same (layer ∷ layers) keeps h =
    elim (bytes_eq layer.name name) as (λ b. bytes_eq layer.name name ≡ b
    → ((l : Layer) → (if b then Some layer else layer_named name layers) ≡ Some l → AllPairs (λ x y. x.id ≢ y.id) l.items → AllPairs (λ x y. x.id ≢ y.id) (change l).items)
    → AreDistinct ((if b then change layer else layer) ∷ changed_in name change layers)) [
      | true ↦ λ is keeps'. changed_first name change same layer layers ((bytes_eq-Decides layer.name name).0 is) (keeps' layer refl (ids_apart layer layers h)) h
      | false ↦ λ other keeps'. AreDistinct-cons layer (changed_in name change layers) (names_kept name change same (λ n. layer.name ≢ n) layers (names_apart layer layers h)) (ids_apart layer layers h)
          (AreDistinct-changed_in name change same layers keeps' (AreDistinct-rest layer layers h))
    ] refl keeps

pub HasDistinctKeys-with_layer : (name : List ℕ) (change : Layer → Layer) → KeepsName change → (state : State)
    → ((layer : Layer) → layer_named name state.layers ≡ Some layer → AllPairs (λ a b. a.id ≢ b.id) layer.items → AllPairs (λ a b. a.id ≢ b.id) (change layer).items)
    → HasDistinctKeys state → HasDistinctKeys (with_layer name change state)
HasDistinctKeys-with_layer name change same state keeps h =
    of_state (with_layer name change state) (AreDistinct-changed_in name change same state.layers keeps (of_layers state h))

-- ---- a layer more

-- a name that isn't taken is that of no layer
not_named : (name : List ℕ) (layers : List Layer) → is_some (layer_named name layers) ≡ false → All (λ l. l.name ≢ name) layers
not_named name [] h = λ k d inside. absurd (omega arith)
not_named name (layer ∷ layers) h =
    elim (bytes_eq layer.name name) as (λ b. bytes_eq layer.name name ≡ b → is_some (if b then Some layer else layer_named name layers) ≡ false → All (λ l. l.name ≢ name) (layer ∷ layers)) [
      | true ↦ λ same free. absurd (true≢false free)
      | false ↦ λ other free. All-cons (λ (l : Layer). l.name ≢ name) layer layers (λ is. true≢false (sym ((bytes_eq-Decides layer.name name).1 is) ∙ other)) (not_named name layers free)
    ] refl h

HasDistinctKeys-push : (state : State) (layer : Layer) → All (λ l. l.name ≢ layer.name) state.layers → AllPairs (λ a b. a.id ≢ b.id) layer.items → HasDistinctKeys state
    → HasDistinctKeys (record state { layers = state.layers ++ layer ∷ [] })
HasDistinctKeys-push state layer others ids h = record {
  names = all_pairs_push (λ a b. a.name ≢ b.name) state.layers layer h.names others;
  ids = All-push (λ (l : Layer). AllPairs (λ a b. a.id ≢ b.id) l.items) state.layers layer h.ids ids;
}

-- ---- a command, and the lines of a script

-- an outcome whose map has distinct keys
abbrev Keeps : Outcome → Type 0
Keeps o = HasDistinctKeys o.state

either_keeps : (b : Bool) (first second : Outcome) → (b ≡ true → Keeps first) → (b ≡ false → Keeps second) → Keeps (if b then first else second)
either_keeps true first second p q = p refl
either_keeps false first second p q = q refl

HasDistinctKeys-choose_version : (state : State) (version : Version) (layers : List Layer) → HasDistinctKeys state → Keeps (choose_version state version layers)
HasDistinctKeys-choose_version state version [] h = of_state (record state { version = version }) (of_layers state h)
HasDistinctKeys-choose_version state version (layer ∷ layers) h = h

HasDistinctKeys-make_layer : (state : State) (name : List ℕ) (kind : Kind) (indexes : IndexSet) → HasDistinctKeys state → Keeps (make_layer state name kind indexes)
HasDistinctKeys-make_layer state name kind indexes h =
    either_keeps (is_taken name state) (refused state Taken) _ (λ taken. h) (λ free.
    either_keeps (nat_le most_layers (length state.layers)) (refused state NoRoom) _ (λ full. h) (λ room.
    HasDistinctKeys-push state (record { name = name; kind = kind; indexes = indexes; waits = no_waits; inserted = 0; items = [] }) (not_named name state.layers free) (λ i j d before inside. absurd (omega arith)) h))

HasDistinctKeys-index_in : (state : State) (name : List ℕ) (index : indexes.Index) (found : Option Layer) → HasDistinctKeys state → Keeps (index_in state name index found)
HasDistinctKeys-index_in state name index None h = h
HasDistinctKeys-index_in state name index (Some layer) h =
    either_keeps (not (is_same_kind layer.kind Points && not layer.indexes.batch)) (refused state refusals.Kind) _ (λ other. h) (λ same.
    either_keeps (has layer.indexes index) (refused state Taken) _ (λ taken. h) (λ free.
    HasDistinctKeys-with_layer name (indexed index) (λ _. refl) state (λ l named ids. ids) h))

-- an identifier that isn't live is that of no item
not_live : (id : ℕ) (items : List Item) → is_live id items ≡ false → (k : ℕ) (d : Item) → k < length items → (get_or items k d).id ≢ id
not_live id items h k d inside same =
    true≢false (sym (list_any_at (λ item. item.id == id) items k d inside (let e : ((get_or items k d).id == id) ≡ true = (Decides-eqb _ _).1 same in e)) ∙ h)

HasDistinctKeys-add_to : (state : State) (name : List ℕ) (id : ℕ) (shape : Shape) (found : Option Layer) → layer_named name state.layers ≡ found → HasDistinctKeys state → Keeps (add_to state name id shape found)
HasDistinctKeys-add_to state name id shape None is h = h
HasDistinctKeys-add_to state name id shape (Some layer) is h =
    let item : Item = record { id = id; shape = shape } in
    either_keeps (not (is_same_kind layer.kind (kind_of shape))) (refused state refusals.Kind) _ (λ other. h) (λ same.
    either_keeps (is_live id layer.items) (refused state (Duplicate id)) _ (λ live. h) (λ fresh.
    either_keeps (nat_le state.most_items (live_count layer)) (refused state Full) _ (λ full. h) (λ room.
    HasDistinctKeys-with_layer name (added item) (λ _. refl) state (λ l named ids.
    let same_layer : layer ≡ l = ap (λ found. unwrap_or found layer) (sym is ∙ named) in
    all_pairs_push (λ a b. a.id ≢ b.id) l.items item ids (not_live id l.items (subst (λ (x : Layer). is_live id x.items ≡ false) same_layer fresh))) h)))

HasDistinctKeys-drop_from : (state : State) (name : List ℕ) (id : ℕ) (found : Option Layer) → HasDistinctKeys state → Keeps (drop_from state name id found)
HasDistinctKeys-drop_from state name id None h = h
HasDistinctKeys-drop_from state name id (Some layer) h =
    either_keeps (is_live id layer.items) _ (refused state (Unknown id))
    (λ live. HasDistinctKeys-with_layer name (dropped id) (λ _. refl) state (λ l named ids. AllPairs-filter (λ a b. a.id ≢ b.id) (λ item. not (item.id == id)) l.items ids) h) (λ gone. h)

-- without an item's identifier there is none that has it
apart_without : (id : ℕ) (items : List Item) → (k : ℕ) (d : Item) → k < length (without_item id items) → (get_or (without_item id items) k d).id ≢ id
apart_without id items k d inside same =
    let kept = filter_passes (λ (item : Item). not (item.id == id)) items k d inside in
    true≢false (sym kept ∙ ap not ((Decides-eqb (get_or (without_item id items) k d).id id).1 same))

HasDistinctKeys-move_in : (state : State) (name : List ℕ) (id : ℕ) (shape : Shape) (found : Option Layer) → HasDistinctKeys state → Keeps (move_in state name id shape found)
HasDistinctKeys-move_in state name id shape None h = h
HasDistinctKeys-move_in state name id shape (Some layer) h =
    let item : Item = record { id = id; shape = shape } in
    either_keeps (not (is_same_kind layer.kind (kind_of shape))) (refused state refusals.Kind) _ (λ other. h) (λ same.
    either_keeps (is_live id layer.items) _ (refused state (Unknown id)) (λ live.
    HasDistinctKeys-with_layer name (moved item) (λ _. refl) state (λ l named ids.
    all_pairs_push (λ a b. a.id ≢ b.id) (without_item id l.items) item (AllPairs-filter (λ a b. a.id ≢ b.id) (λ i. not (i.id == id)) l.items ids) (apart_without id l.items)) h) (λ gone. h))

HasDistinctKeys-ask_of : (state : State) (question : Question) (found : Option Layer) → HasDistinctKeys state → Keeps (ask_of state question found)
HasDistinctKeys-ask_of state question None h = h
HasDistinctKeys-ask_of state question (Some layer) h =
    either_keeps (not (is_same_kind layer.kind (kind_asked question))) (refused state refusals.Kind) _ (λ other. h) (λ same.
    either_keeps (not (has layer.indexes (index_of question))) (refused state Index) _ (λ lacks. h) (λ has'.
    either_keeps (nat_lt 0 (wait_of layer.waits (index_of question))) (refused state (Building (wait_of layer.waits (index_of question)))) _ (λ waits. h) (λ ready. h)))

HasDistinctKeys-got : (state : State) (id : ℕ) (shape : Option Shape) → HasDistinctKeys state → Keeps (got state id shape)
HasDistinctKeys-got state id None h = h
HasDistinctKeys-got state id (Some shape) h = h

HasDistinctKeys-get_from : (state : State) (id : ℕ) (found : Option Layer) → HasDistinctKeys state → Keeps (get_from state id found)
HasDistinctKeys-get_from state id None h = h
HasDistinctKeys-get_from state id (Some layer) h = HasDistinctKeys-got state id (shape_of id layer.items) h

HasDistinctKeys-size_of : (state : State) (found : Option Layer) → HasDistinctKeys state → Keeps (size_of state found)
HasDistinctKeys-size_of state None h = h
HasDistinctKeys-size_of state (Some layer) h = h

HasDistinctKeys-recent_of : (state : State) (k : ℕ) (found : Option Layer) → HasDistinctKeys state → Keeps (recent_of state k found)
HasDistinctKeys-recent_of state k None h = h
HasDistinctKeys-recent_of state k (Some layer) h = h

pub HasDistinctKeys-step : (state : State) (command : Command) → HasDistinctKeys state → Keeps (step state command)
HasDistinctKeys-step state (Livemap version) h = HasDistinctKeys-choose_version state version state.layers h
HasDistinctKeys-step state (MakeLayer name kind indexes) h = HasDistinctKeys-make_layer state name kind indexes h
HasDistinctKeys-step state (MakeIndex name index) h = HasDistinctKeys-index_in state name index (layer_named name state.layers) h
HasDistinctKeys-step state (Add name id shape) h = HasDistinctKeys-add_to state name id shape (layer_named name state.layers) refl h
HasDistinctKeys-step state (Move name id x y w) h = HasDistinctKeys-move_in state name id (Point x y w) (layer_named name state.layers) h
HasDistinctKeys-step state (Drop name id) h = HasDistinctKeys-drop_from state name id (layer_named name state.layers) h
HasDistinctKeys-step state (Ask name question) h = HasDistinctKeys-ask_of state question (layer_named name state.layers) h
HasDistinctKeys-step state (Get name id) h = HasDistinctKeys-get_from state id (layer_named name state.layers) h
HasDistinctKeys-step state (Size name) h = HasDistinctKeys-size_of state (layer_named name state.layers) h
HasDistinctKeys-step state (Recent name k) h = HasDistinctKeys-recent_of state k (layer_named name state.layers) h

HasDistinctKeys-answer : (state : State) (parsed : Parsed) (given : Given) → AnswersTo state parsed given → HasDistinctKeys state → HasDistinctKeys given.state
HasDistinctKeys-answer state (Ok None) given is h = subst (λ (g : Given). HasDistinctKeys g.state) (sym is) h
HasDistinctKeys-answer state (Err fault) given is h = subst (λ (g : Given). HasDistinctKeys g.state) (sym is) h
HasDistinctKeys-answer state (Ok (Some command)) given (inl e) h = subst (λ (g : Given). HasDistinctKeys g.state) (sym e.is_given) (HasDistinctKeys-step state command h)
HasDistinctKeys-answer state (Ok (Some command)) given (inr lacks) h = subst (λ (g : Given). HasDistinctKeys g.state) (sym lacks.1) h

pub HasDistinctKeys-output : (ledger : Bool) (start end : State) (script : List (List ℕ)) (written : List ℕ) → Output ledger start script written end → HasDistinctKeys start → HasDistinctKeys end
HasDistinctKeys-output ledger start end [] written o h = subst HasDistinctKeys (sym o.1) h
HasDistinctKeys-output ledger start end (line ∷ script) written o h =
    HasDistinctKeys-output ledger o.0.state end script o.2 o.4 (HasDistinctKeys-answer start (parse start.version line) o.0 o.1 h)
