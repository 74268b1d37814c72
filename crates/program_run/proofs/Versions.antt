-- A made script chooses no version.
use Rattle.std.proofs.Common.{◌≡◌, ◌==◌, ◌∙◌, ◌&&◌, ◌%◌, zero, suc, refl, ap, inl, inr, ℕ, Bool, true, false, List, [], ◌∷◌, length, Option, Some, None, Ok, if◌then◌else◌}
use Rattle.std.specs.Prelude.{⊤, nat_le, nat_lt, not}
use Rattle.std.proofs.lemmas.Bool.{true≢false}
use Rattle.query_laws.specs.StepLedger.{Counts}
use Rattle.map_model.specs.Answer.{Question, index_of, kind_asked}
use Rattle.map_model.specs.Command.{Command, Livemap, MakeLayer, MakeIndex, Add, Move, Drop, Ask, Get, Size, Recent}
use Rattle.map_model.specs.Index as indexes
use Rattle.map_model.specs.Index.{IndexSet, has}
use Rattle.map_model.specs.Machine.{Outcome, refused, step, is_same_kind, is_taken, make_layer, index_in, add_to, move_in, drop_from, ask_of, got, get_from, size_of, recent_of}
use Rattle.map_model.specs.Output.{Given}
use Rattle.map_model.specs.Refusal.{Refusal, Taken, NoRoom, NoLayer, Index, Building, Duplicate, Unknown, Full}
use Rattle.map_model.specs.Refusal as refusals
use Rattle.map_model.specs.Shape.{Kind, Points, Shape, Point, kind_of}
use Rattle.map_model.specs.State.{Layer, State, most_layers, live_count, is_live, layer_named, shape_of, wait_of}
use Rattle.map_session.specs.Session.{SessionState, map_in, Executes}
use Rattle.workload_gen.specs.Made.{Between, Round, drawn, has_live, add_round, drop_first, drop_last, count_round, near_round, top_round, upper_half, round, round_by, rounds_from, before_all, made_script}

-- the command chooses a version
abbrev pub chooses : Command → Bool
chooses (Livemap version) = true
chooses (MakeLayer name kind indexes) = false
chooses (MakeIndex name index) = false
chooses (Add name id shape) = false
chooses (Move name id x y w) = false
chooses (Drop name id) = false
chooses (Ask name question) = false
chooses (Get name id) = false
chooses (Size name) = false
chooses (Recent name k) = false

-- none of these commands chooses a version
abbrev pub ChooseNone : List Command → Type 0
ChooseNone [] = ⊤
ChooseNone (command ∷ commands) = (chooses command ≡ false) × ChooseNone commands

-- ---- a made script

either_round : (b : Bool) (x y : Round) → chooses x.command ≡ false → chooses y.command ≡ false → chooses (if b then x else y).command ≡ false
either_round true x y h k = h
either_round false x y h k = k

by_number : (number : ℕ) (b : Between) → chooses (round_by number b).command ≡ false
by_number number b =
    either_round (number == 7) (count_round b) _ refl
    (either_round (number == 8) (near_round b) _ refl
    (either_round (number == 9) (top_round b) _ refl
    (either_round ((number == 5) && has_live b) (drop_first b) _ refl
    (either_round ((number == 6) && has_live b) (drop_last b) (add_round b) refl refl))))

rounds_choose_none : (rounds : ℕ) (b : Between) → ChooseNone (rounds_from rounds b)
rounds_choose_none zero b = tt
rounds_choose_none (suc rounds) b = (by_number (upper_half (drawn b).state % 10) (drawn b), rounds_choose_none rounds (round b).after)

pub made_chooses_none : (seed size : ℕ) → ChooseNone (made_script seed size)
made_chooses_none seed size = (refl, rounds_choose_none size (before_all seed))

-- ---- a command that chooses none

-- the outcome has the version of the map before
record Stays (state : State) (o : Outcome) : Type 0 where
  version : o.state.version ≡ state.version

module _ (state : State) where
  same : (o : Outcome) → o.state.version ≡ state.version → Stays state o
  same o is = record { version = is }

  either : (b : Bool) (x y : Outcome) → Stays state x → Stays state y → Stays state (if b then x else y)
  either true x y h k = h
  either false x y h k = k

  refusal : (cause : Refusal) → Stays state (refused state cause)
  refusal cause = record { version = refl }

  make_stays : (name : List ℕ) (kind : Kind) (indexes : IndexSet) → Stays state (make_layer state name kind indexes)
  make_stays name kind indexes =
      either (is_taken name state) (refused state Taken) _ (refusal Taken)
      (either (nat_le most_layers (length state.layers)) (refused state NoRoom) _ (refusal NoRoom) (same _ refl))

  index_stays : (name : List ℕ) (index : indexes.Index) (layer : Option Layer) → Stays state (index_in state name index layer)
  index_stays name index None = refusal NoLayer
  index_stays name index (Some layer) =
      either (not (is_same_kind layer.kind Points && not layer.indexes.batch)) (refused state refusals.Kind) _ (refusal refusals.Kind)
      (either (has layer.indexes index) (refused state Taken) _ (refusal Taken) (same _ refl))

  add_stays : (name : List ℕ) (id : ℕ) (shape : Shape) (layer : Option Layer) → Stays state (add_to state name id shape layer)
  add_stays name id shape None = refusal NoLayer
  add_stays name id shape (Some layer) =
      either (not (is_same_kind layer.kind (kind_of shape))) (refused state refusals.Kind) _ (refusal refusals.Kind)
      (either (is_live id layer.items) (refused state (Duplicate id)) _ (refusal (Duplicate id))
      (either (nat_le state.most_items (live_count layer)) (refused state Full) _ (refusal Full) (same _ refl)))

  move_stays : (name : List ℕ) (id : ℕ) (shape : Shape) (layer : Option Layer) → Stays state (move_in state name id shape layer)
  move_stays name id shape None = refusal NoLayer
  move_stays name id shape (Some layer) =
      either (not (is_same_kind layer.kind (kind_of shape))) (refused state refusals.Kind) _ (refusal refusals.Kind)
      (either (is_live id layer.items) _ (refused state (Unknown id)) (same _ refl) (refusal (Unknown id)))

  drop_stays : (name : List ℕ) (id : ℕ) (layer : Option Layer) → Stays state (drop_from state name id layer)
  drop_stays name id None = refusal NoLayer
  drop_stays name id (Some layer) = either (is_live id layer.items) _ (refused state (Unknown id)) (same _ refl) (refusal (Unknown id))

  ask_stays : (question : Question) (layer : Option Layer) → Stays state (ask_of state question layer)
  ask_stays question None = refusal NoLayer
  ask_stays question (Some layer) =
      either (not (is_same_kind layer.kind (kind_asked question))) (refused state refusals.Kind) _ (refusal refusals.Kind)
      (either (not (has layer.indexes (index_of question))) (refused state Index) _ (refusal Index)
      (either (nat_lt 0 (wait_of layer.waits (index_of question))) (refused state (Building (wait_of layer.waits (index_of question)))) _
      (refusal (Building (wait_of layer.waits (index_of question)))) (same _ refl)))

  got_stays : (id : ℕ) (shape : Option Shape) → Stays state (got state id shape)
  got_stays id None = refusal (Unknown id)
  got_stays id (Some shape) = same _ refl

  get_stays : (id : ℕ) (layer : Option Layer) → Stays state (get_from state id layer)
  get_stays id None = refusal NoLayer
  get_stays id (Some layer) = got_stays id (shape_of id layer.items)

  size_stays : (layer : Option Layer) → Stays state (size_of state layer)
  size_stays None = refusal NoLayer
  size_stays (Some layer) = same _ refl

  recent_stays : (k : ℕ) (layer : Option Layer) → Stays state (recent_of state k layer)
  recent_stays k None = refusal NoLayer
  recent_stays k (Some layer) = same _ refl

  step_stays : (command : Command) → chooses command ≡ false → Stays state (step state command)
  step_stays (Livemap version) none = absurd (true≢false none)
  step_stays (MakeLayer name kind indexes) none = make_stays name kind indexes
  step_stays (MakeIndex name index) none = index_stays name index (layer_named name state.layers)
  step_stays (Add name id shape) none = add_stays name id shape (layer_named name state.layers)
  step_stays (Move name id x y w) none = move_stays name id (Point x y w) (layer_named name state.layers)
  step_stays (Drop name id) none = drop_stays name id (layer_named name state.layers)
  step_stays (Ask name question) none = ask_stays question (layer_named name state.layers)
  step_stays (Get name id) none = get_stays id (layer_named name state.layers)
  step_stays (Size name) none = size_stays (layer_named name state.layers)
  step_stays (Recent name k) none = recent_stays k (layer_named name state.layers)

-- after a command that chooses none a session has the version that it had
pub version_stays : (old : SessionState) (before : Counts) (command : Command) (given : Given) (new : SessionState) (after : Counts)
    → Executes old before (Ok (Some command)) given new after → chooses command ≡ false → (map_in new).version ≡ (map_in old).version
version_stays old before command given new after done none =
    ap (λ (s : State). s.version) done.map ∙ elim done.answers [
      | inl executes ↦ ap (λ (g : Given). g.state.version) executes.is_given ∙ (step_stays (map_in old) command none).version
      | inr lacking ↦ ap (λ (g : Given). g.state.version) lacking.1
    ]
