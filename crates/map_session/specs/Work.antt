-- What commands may take, and what was counted for one.
use Rattle.std.specs.Prelude.{◌≡◌, ℕ, ◌+◌, ◌*◌, ◌≤◌, ⊤, Bool, true, false, Option, Some, None, Ok, Err, if◌then◌else◌}
use Rattle.std.specs.Option.{is_some}
use Rattle.query_laws.specs.StepLedger.{Counts, LapStart, lap_begun}
use Rattle.map_structures.specs.Touches.{touches_at}
use Rattle.layer_kinds.specs.Asking.{most_of}
use Rattle.map_layers.specs.Costs.{most_in, IsEveryPartIn}
use Rattle.map_layers.specs.Layers.{LayersState, named}
use Rattle.map_layers.specs.Questions.{touches_for}
use Rattle.map_model.specs.Answer.{Question, index_of}
use Rattle.map_model.specs.State.{Layer, State, layer_named, live_count}
use Rattle.map_model.specs.Command.{Command, Livemap, MakeLayer, MakeIndex, Add, Move, Drop, Ask, Get, Size, Recent, name_of}
use Rattle.map_model.specs.Cost.{Cost, Untold, Updating, Joining, Asking, Update, Adds, Drops, Moves, greatest_level, turn_bound, mark_bound, part_bound}
use Rattle.map_model.specs.Reply.{is_refusal}
use Rattle.map_model.specs.Machine.{step}
use Rattle.map_model.specs.Output.{update_of}
use Rattle.map_model.specs.Grammar.{Parsed}

-- turns, marks, touches and consulted parts
pub record Work : Type 0 where
  pub turns : ℕ
  pub marks : ℕ
  pub touches : ℕ
  pub consulted : ℕ

-- none of them
abbrev pub no_work : Work
no_work = record { turns = 0; marks = 0; touches = 0; consulted = 0 }

-- both together
abbrev pub both : Work → Work → Work
both a b = record { turns = a.turns + b.turns; marks = a.marks + b.marks; touches = a.touches + b.touches; consulted = a.consulted + b.consulted }

-- an add, a move or a drop is said
abbrev pub is_update_said : Parsed → Bool
is_update_said (Ok None) = false
is_update_said (Ok (Some command)) = is_some (update_of command)
is_update_said (Err fault) = false

-- an update and a question begin a lap, whatever becomes of them, and nothing else does
abbrev pub begins_lap : Command → Bool
begins_lap (Livemap version) = false
begins_lap (MakeLayer name kind indexes) = false
begins_lap (MakeIndex name index) = false
begins_lap (Add name id shape) = true
begins_lap (Move name id x y w) = true
begins_lap (Drop name id) = true
begins_lap (Ask name question) = true
begins_lap (Get name id) = false
begins_lap (Size name) = false
begins_lap (Recent name k) = false

-- an update or a question is said
abbrev pub begins_lap_said : Parsed → Bool
begins_lap_said (Ok None) = false
begins_lap_said (Ok (Some command)) = begins_lap command
begins_lap_said (Err fault) = false

-- the lap that is running once this is done
abbrev pub lap_said : Parsed → Counts → LapStart
lap_said said old = if begins_lap_said said then (lap_begun old).lap_start else old.lap_start

-- the bounds of an update of a layer, where there is one: 16 touches a turn, and those of a part for each mark
abbrev pub bounds_in : Update → Option Layer → Work
bounds_in update None = no_work
bounds_in update (Some layer) = record {
  turns = turn_bound update layer;
  marks = mark_bound update layer;
  touches = 16 * turn_bound update layer + mark_bound update layer * touches_at (greatest_level (live_count layer));
  consulted = 0;
}

-- the same of a question
abbrev pub asking_in : Question → Option Layer → Work
asking_in question None = no_work
asking_in question (Some layer) =
    record no_work { touches = most_in layer (λ level n. most_of (touches_for question level) n); consulted = part_bound layer }

-- what a command may take in a layer, where nothing but memory refuses it
abbrev pub work_in : Command → Option Layer → Work
work_in (Livemap version) layer = no_work
work_in (MakeLayer name kind indexes) layer = no_work
work_in (MakeIndex name index) layer = no_work
work_in (Add name id shape) layer = bounds_in Adds layer
work_in (Move name id x y w) layer = bounds_in Moves layer
work_in (Drop name id) layer = bounds_in Drops layer
work_in (Ask name question) layer = asking_in question layer
work_in (Get name id) layer = no_work
work_in (Size name) layer = no_work
work_in (Recent name k) layer = no_work

-- what a command may take: the bounds of its layer, as it stands before, where only memory may refuse it, and nothing else
abbrev pub work_of : State → Command → Work
work_of state command = if is_refusal (step state command).reply then no_work else work_in command (layer_named (name_of command) state.layers)

-- What a line or a command may take, on the map before it: an update the bounds of its layer, a question its touches, where nothing but memory
-- may refuse it; and else nothing.
abbrev pub work_said : State → Parsed → Work
work_said state (Ok None) = no_work
work_said state (Ok (Some command)) = work_of state command
work_said state (Err fault) = no_work

-- the numbers that are told are those that were counted
abbrev pub IsTold : Cost → Counts → Counts → Type 0
IsTold Untold old new = ⊤
IsTold (Updating spent) old new = (new.turns ≡ old.turns + spent.turns) × (new.marks ≡ old.marks + spent.marks) × (new.consulted ≡ old.consulted)
IsTold (Joining spent) old new = (new.turns ≡ old.turns + spent.turns) × (new.marks ≡ old.marks + spent.marks) × (new.consulted ≡ old.consulted)
IsTold (Asking asked) old new = (new.turns ≡ old.turns) × (new.marks ≡ old.marks) × (new.touches ≡ old.touches + asked.touches) × (new.consulted ≡ old.consulted + asked.parts)

-- no count fell, at most so much was counted, and the turns, marks, touches and parts that a reply tells are those that were
pub record IsCounted (work : Work) (cost : Cost) (old new : Counts) : Type 0 where
  pub turns_kept : old.turns ≤ new.turns
  pub marks_kept : old.marks ≤ new.marks
  pub touches_kept : old.touches ≤ new.touches
  pub consulted_kept : old.consulted ≤ new.consulted
  pub few_turns : new.turns ≤ old.turns + work.turns
  pub few_marks : new.marks ≤ old.marks + work.marks
  pub few_touches : new.touches ≤ old.touches + work.touches
  pub few_consulted : new.consulted ≤ old.consulted + work.consulted
  pub told : IsTold cost old new

-- The answer to a question tells as many parts as the index that it is for has complete ones.
abbrev pub TellsEveryPart : LayersState → Parsed → Cost → Type 0
TellsEveryPart layers (Ok (Some (Ask name question))) (Asking asked) = (live : ℕ) × IsEveryPartIn (named name layers.layers) (index_of question) asked.parts live
TellsEveryPart layers said cost = ⊤
