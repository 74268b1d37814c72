-- The machine's step where the layer of a name is found.
use Rattle.std.proofs.Common.{◌≡◌, ℕ, ◌<◌, ◌∙◌, Bool, true, false, not, ◌&&◌, nat_lt, if◌then◌else◌, List, [], ◌∷◌, ◌++◌, Some, None, Result, Ok, Err, length, refl, sym, ap, arith}
use Rattle.std.specs.Prelude.{nat_le, IfOk}
use Rattle.std.proofs.lemmas.Bool.{le-leb, lt-leb, lt-ltb}
use Rattle.map_model.specs.Shape as shapes
use Rattle.map_model.specs.Index as indexes
use Rattle.map_model.specs.Index.{has}
use Rattle.map_model.specs.State.{Item, Layer, State, most_layers, live_count, is_live, layer_named, with_layer, no_waits, wait_of, added, moved, dropped}
use Rattle.map_model.specs.State as state
use Rattle.map_model.specs.Version.{Version}
use Rattle.map_model.specs.Answer.{Question, Answer, answer_over, index_of}
use Rattle.map_model.specs.Command.{Livemap, MakeLayer, MakeIndex, Add, Move, Drop, Ask}
use Rattle.map_model.specs.Refusal as refusals
use Rattle.map_model.specs.Reply.{Made, Updated, Answered, Refused, is_refusal}
use Rattle.map_model.specs.Machine.{Outcome, step, choose_version, is_same_kind, is_taken, replied, refused}
use Rattle.map_layers.specs.declared.faults.IndexFault.{IndexFault}
use Rattle.map_layers.specs.declared.faults.IndexFault.TheVariants as index
use Rattle.map_layers.specs.declared.faults.UpdateFault.{UpdateFault}
use Rattle.map_layers.specs.declared.faults.UpdateFault.TheVariants.{NoLayer, WrongKind, Duplicate, Unknown, Full, NoMemory}
use Rattle.map_layers.specs.declared.faults.AskFault.{AskFault}
use Rattle.map_layers.specs.declared.faults.AskFault.TheVariants as ask
use Rattle.map_layers.specs.Layer.{IsAddTo, IsMoveTo, IsRemovalFrom, MayBeGiven, IsIndexIn}
use Rattle.map_layers.specs.Questions.{IsOfKind, IsThere, IsWaiting, IsRefusal}
use Rattle.map_layers.specs.Replies.{indexed, updated, questioned, IsAnswered}

-- From one map to another, the layer of a name is another one.
pub record IsRenewed (name : List ℕ) (old new : State) (layer layer' : Layer) : Type 0 where
  pub found : layer_named name old.layers ≡ Some layer
  pub same : layer' ≡ layer → new ≡ old
  pub changed : (change : Layer → Layer) → layer' ≡ change layer → new ≡ with_layer name change old

module _ (old new : State) (name : List ℕ) (id : ℕ) (layer layer' : Layer) (h : IsRenewed name old new layer layer') where
  -- ---- an add

  module _ (shape : shapes.Shape) where
    abbrev item : Item
    item = record { id = id; shape = shape }

    -- what is made of it, as its tests say
    abbrev adding : Bool → Bool → Bool → Outcome
    adding of_kind live full =
        if not of_kind then refused old refusals.Kind
        else (if live then refused old (refusals.Duplicate id)
        else (if full then refused old refusals.Full
        else replied (with_layer name (added item) old) Updated))

    step-add : (of_kind live full : Bool) → is_same_kind layer.kind (shapes.kind_of shape) ≡ of_kind → is_live id layer.items ≡ live
        → nat_le old.most_items (live_count layer) ≡ full → step old (Add name id shape) ≡ adding of_kind live full
    step-add of_kind live full is_kind is_live is_full = rw h.found (rw is_kind (rw is_live (rw is_full refl)))

    pub IsAnswered-add : {T : Type 0} (result : Result T UpdateFault) → IsAddTo old.most_items layer item layer' result
        → IsAnswered old (Add name id shape) new (updated result)
    IsAnswered-add (Ok done) is =
        step-add true false false is.0 is.1 (lt-leb old.most_items (live_count layer) is.2)
        ∙ ap (λ (s : State). replied s Updated) (sym (h.changed (added item) is.3))
    IsAnswered-add (Err NoLayer) is = absurd is
    IsAnswered-add (Err WrongKind) is =
        step-add false (is_live id layer.items) (nat_le old.most_items (live_count layer)) is.0 refl refl
        ∙ (λ i. refused (sym (h.same is.1) i) refusals.Kind)
    IsAnswered-add (Err (Duplicate other)) is =
        step-add true true (nat_le old.most_items (live_count layer)) is.0 is.1 refl
        ∙ (λ i. refused (sym (h.same is.3) i) (refusals.Duplicate (sym is.2 i)))
    IsAnswered-add (Err (Unknown other)) is = absurd is
    IsAnswered-add (Err Full) is =
        step-add true false true is.0 is.1 (le-leb old.most_items (live_count layer) is.2)
        ∙ (λ i. refused (sym (h.same is.3) i) refusals.Full)
    IsAnswered-add (Err NoMemory) is = (
      ap (λ (o : Outcome). not (is_refusal o.reply)) (step-add true false false is.0 is.1 (lt-leb old.most_items (live_count layer) is.2)),
      h.same is.3,
    )

  -- ---- a move

  module _ (x y w : ℕ) where
    abbrev moved_item : Item
    moved_item = record { id = id; shape = shapes.Point x y w }

    abbrev moving : Bool → Bool → Outcome
    moving of_kind live =
        if not of_kind then refused old refusals.Kind
        else (if live then replied (with_layer name (moved moved_item) old) Updated
        else refused old (refusals.Unknown id))

    step-move : (of_kind live : Bool) → is_same_kind layer.kind shapes.Points ≡ of_kind → is_live id layer.items ≡ live
        → step old (Move name id x y w) ≡ moving of_kind live
    step-move of_kind live is_kind is_live = rw h.found (rw is_kind (rw is_live refl))

    pub IsAnswered-move : {T : Type 0} (result : Result T UpdateFault) → IsMoveTo layer moved_item layer' result
        → IsAnswered old (Move name id x y w) new (updated result)
    IsAnswered-move (Ok done) is =
        step-move true true is.0 is.1 ∙ ap (λ (s : State). replied s Updated) (sym (h.changed (moved moved_item) is.2))
    IsAnswered-move (Err NoLayer) is = absurd is
    IsAnswered-move (Err WrongKind) is =
        step-move false (is_live id layer.items) is.0 refl ∙ (λ i. refused (sym (h.same is.1) i) refusals.Kind)
    IsAnswered-move (Err (Duplicate other)) is = absurd is
    IsAnswered-move (Err (Unknown other)) is =
        step-move true false is.0 is.1 ∙ (λ i. refused (sym (h.same is.3) i) (refusals.Unknown (sym is.2 i)))
    IsAnswered-move (Err Full) is = absurd is
    IsAnswered-move (Err NoMemory) is =
        (ap (λ (o : Outcome). not (is_refusal o.reply)) (step-move true true is.0 is.1), h.same is.2)

  -- ---- a drop

  abbrev dropping : Bool → Outcome
  dropping live = if live then replied (with_layer name (dropped id) old) Updated else refused old (refusals.Unknown id)

  step-drop : (live : Bool) → is_live id layer.items ≡ live → step old (Drop name id) ≡ dropping live
  step-drop live is_live = rw h.found (rw is_live refl)

  pub IsAnswered-drop : {T : Type 0} (result : Result T UpdateFault) → IsRemovalFrom layer id layer' result
      → IsAnswered old (Drop name id) new (updated result)
  IsAnswered-drop (Ok done) removed =
      step-drop true removed.0 ∙ ap (λ (s : State). replied s Updated) (sym (h.changed (dropped id) removed.1))
  IsAnswered-drop (Err NoLayer) removed = absurd removed
  IsAnswered-drop (Err WrongKind) removed = absurd removed
  IsAnswered-drop (Err (Duplicate other)) removed = absurd removed
  IsAnswered-drop (Err (Unknown other)) removed =
      step-drop false removed.0 ∙ (λ i. refused (sym (h.same removed.2) i) (refusals.Unknown (sym removed.1 i)))
  IsAnswered-drop (Err Full) removed = absurd removed
  IsAnswered-drop (Err NoMemory) removed =
      (ap (λ (o : Outcome). not (is_refusal o.reply)) (step-drop true removed.0), h.same removed.1)

module _ (old new : State) (name : List ℕ) (i : indexes.Index) (layer layer' : Layer) (h : IsRenewed name old new layer layer') where
  -- ---- an index

  abbrev indexing : Bool → Bool → Outcome
  indexing may there =
      if not may then refused old refusals.Kind
      else (if there then refused old refusals.Taken
      else replied (with_layer name (state.indexed i) old) Made)

  step-index : (may there : Bool) → MayBeGiven layer may → has layer.indexes i ≡ there → step old (MakeIndex name i) ≡ indexing may there
  step-index may there may_be is_there = rw h.found (rw may_be (rw is_there refl))

  pub IsAnswered-index : {T : Type 0} (result : Result T IndexFault) → IsIndexIn layer i layer' result → IsAnswered old (MakeIndex name i) new (indexed result)
  IsAnswered-index (Ok done) is =
      step-index true false is.0 is.1 ∙ ap (λ (s : State). replied s Made) (sym (h.changed (state.indexed i) is.2))
  IsAnswered-index (Err index.NoLayer) is = absurd is
  IsAnswered-index (Err index.WrongKind) is =
      step-index false (has layer.indexes i) is.0 refl ∙ (λ j. refused (sym (h.same is.1) j) refusals.Kind)
  IsAnswered-index (Err index.Standing) is =
      step-index true true is.0 is.1 ∙ (λ j. refused (sym (h.same is.2) j) refusals.Taken)

-- ---- no layer of the name

pub unfound-index : (old : State) (name : List ℕ) (i : indexes.Index) → layer_named name old.layers ≡ None
    → IsAnswered old (MakeIndex name i) old (Refused refusals.NoLayer)
unfound-index old name i none = rw none refl

pub unfound-add : (old : State) (name : List ℕ) (id : ℕ) (shape : shapes.Shape) → layer_named name old.layers ≡ None
    → IsAnswered old (Add name id shape) old (Refused refusals.NoLayer)
unfound-add old name id shape none = rw none refl

pub unfound-move : (old : State) (name : List ℕ) (id x y w : ℕ) → layer_named name old.layers ≡ None
    → IsAnswered old (Move name id x y w) old (Refused refusals.NoLayer)
unfound-move old name id x y w none = rw none refl

pub unfound-drop : (old : State) (name : List ℕ) (id : ℕ) → layer_named name old.layers ≡ None → IsAnswered old (Drop name id) old (Refused refusals.NoLayer)
unfound-drop old name id none = rw none refl

-- ---- a question

module _ (old : State) (name : List ℕ) (question : Question) where
  pub unfound-ask : layer_named name old.layers ≡ None → IsAnswered old (Ask name question) old (Refused refusals.NoLayer)
  unfound-ask none = rw none refl

  module _ (layer : Layer) (found : layer_named name old.layers ≡ Some layer) where
    abbrev asking : Bool → Bool → ℕ → Outcome
    asking of_kind there wait =
        if not of_kind then refused old refusals.Kind
        else (if not there then refused old refusals.Index
        else (if nat_lt 0 wait then refused old (refusals.Building wait)
        else replied old (Answered (answer_over layer.items question))))

    step-ask : (of_kind there : Bool) (wait : ℕ) → IsOfKind layer question of_kind → IsThere layer question there → IsWaiting layer question wait
        → step old (Ask name question) ≡ asking of_kind there wait
    step-ask of_kind there wait is_kind is_there is_waiting = rw found (rw is_kind (rw is_there (rw is_waiting refl)))

    -- it waits for some
    waits_on : (wait : ℕ) → 0 < wait → asking true true wait ≡ refused old (refusals.Building wait)
    waits_on wait some = rw (lt-ltb 0 wait some) refl

    pub IsAnswered-ask : {T : Type 0} (answer : T → Answer) (result : Result T AskFault) → IsRefusal layer question result
        → IfOk result (λ t. answer t ≡ answer_over layer.items question) → IsAnswered old (Ask name question) old (questioned (λ t. Answered (answer t)) result)
    IsAnswered-ask answer (Ok t) refused same = step-ask true true 0 refused.0 refused.1 refused.2 ∙ ap (λ a. replied old (Answered a)) (sym same)
    IsAnswered-ask answer (Err ask.NoLayer) refused same = absurd refused
    IsAnswered-ask answer (Err ask.WrongKind) refused same = step-ask false (has layer.indexes (index_of question)) (wait_of layer.waits (index_of question)) refused refl refl
    IsAnswered-ask answer (Err ask.NoIndex) refused same = step-ask true false (wait_of layer.waits (index_of question)) refused.0 refused.1 refl
    IsAnswered-ask answer (Err (ask.Building items)) refused same = step-ask true true items refused.0 refused.1 refused.2 ∙ waits_on items refused.3
    IsAnswered-ask answer (Err (ask.Unknown id)) refused same = absurd refused
    IsAnswered-ask answer (Err ask.NoMemory) refused same = (
      ap (λ b. b && not (is_refusal (step old (Ask name question)).reply)) refused.3
          ∙ ap (λ (o : Outcome). not (is_refusal o.reply)) (step-ask true true 0 refused.0 refused.1 refused.2),
      refl,
    )

-- ---- a version is chosen

chosen-first : (old : State) (version : Version) (layers : List Layer) → length layers ≡ 0
    → choose_version old version layers ≡ replied (record old { version = version }) Made
chosen-first old version [] none = refl
chosen-first old version (layer ∷ layers) none = absurd (omega arith)

chosen-late : (old : State) (version : Version) (layers : List Layer) → 0 < length layers → choose_version old version layers ≡ refused old refusals.Version
chosen-late old version [] some = absurd (omega arith)
chosen-late old version (layer ∷ layers) some = refl

pub IsAnswered-chosen : (old new : State) (version : Version) → length old.layers ≡ 0 → new ≡ record old { version = version }
    → IsAnswered old (Livemap version) new Made
IsAnswered-chosen old new version none is = chosen-first old version old.layers none ∙ ap (λ (s : State). replied s Made) (sym is)

pub IsAnswered-fixed : (old : State) (version : Version) → 0 < length old.layers → IsAnswered old (Livemap version) old (Refused refusals.Version)
IsAnswered-fixed old version some = chosen-late old version old.layers some

-- ---- a layer is made

module _ (old : State) (name : List ℕ) (kind : shapes.Kind) (set : indexes.IndexSet) where
  abbrev making : Bool → Bool → Outcome
  making taken full =
      if taken then refused old refusals.Taken
      else (if full then refused old refusals.NoRoom
      else replied (record old { layers = old.layers ++ record { name = name; kind = kind; indexes = set; waits = no_waits; inserted = 0; items = [] } ∷ [] }) Made)

  pub step-make : (taken full : Bool) → is_taken name old ≡ taken → nat_le most_layers (length old.layers) ≡ full
      → step old (MakeLayer name kind set) ≡ making taken full
  step-make taken full is_taken is_full = rw is_taken (rw is_full refl)
