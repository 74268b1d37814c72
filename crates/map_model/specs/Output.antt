-- What may be written for lines over a map of layers, and the map that they lead to.
use Rattle.std.specs.Prelude.{if◌then◌else◌, ◌≡◌, ℕ, ◌<◌, Bool, true, false, ◌&&◌, not, ◌⊎◌, IsTrue, List, [], ◌∷◌, ◌++◌, length, take, Option, Some, None, Ok, Err, slice_index_or}
use Rattle.map_model.specs.Version.{Version}
use Rattle.map_model.specs.State.{Layer, State, layer_named}
use Rattle.map_model.specs.Refusal.{NoMemory, refusal_of_fault}
use Rattle.map_model.specs.Command.{Command, Livemap, MakeLayer, MakeIndex, Add, Move, Drop, Ask, Get, Size, Recent, name_of, takes_memory}
use Rattle.map_model.specs.Cost.{Cost, Untold, Updating, Joining, Asking, Update, Adds, Drops, Moves, IsSpent, IsSpentAtOnce, IsAsked}
use Rattle.map_model.specs.Reply.{Reply, Made, Updated, Answered, Got, Sized, Latest, Refused, is_refusal, reply_line}
use Rattle.map_model.specs.Machine.{step}
use Rattle.map_model.specs.Grammar.{Parsed, parse}

-- ---- costs

-- the update that a command is, if it is one
abbrev pub update_of : Command → Option Update
update_of (Livemap version) = None
update_of (MakeLayer name kind indexes) = None
update_of (MakeIndex name index) = None
update_of (Add name id shape) = Some Adds
update_of (Move name id x y w) = Some Moves
update_of (Drop name id) = Some Drops
update_of (Ask name question) = None
update_of (Get name id) = None
update_of (Size name) = None
update_of (Recent name k) = None

-- what an update may have spent in the layer of a name
abbrev pub IsSpentIn : Option Layer → Option Update → Cost → Type 0
IsSpentIn (Some layer) (Some update) (Updating spent) = IsSpent layer update spent
IsSpentIn (Some layer) (Some update) (Joining spent) = IsSpentAtOnce layer update spent
IsSpentIn _ update _ = ⊥

-- what a question may have asked in the layer of a name
abbrev pub IsAskedIn : Option Layer → Cost → Type 0
IsAskedIn (Some layer) (Asking asked) = IsAsked layer asked
IsAskedIn _ _ = ⊥

-- What a reply may say that it cost, the layer being the one before the command: an accepted update what it spent, an
-- answer what it asked, and any other reply nothing.
abbrev pub IsCost : Option Layer → Option Update → Reply → Cost → Type 0
IsCost layer update Made cost = cost ≡ Untold
IsCost layer update Updated cost = IsSpentIn layer update cost
IsCost layer update (Answered answer) cost = IsAskedIn layer cost
IsCost layer update (Got shape) cost = cost ≡ Untold
IsCost layer update (Sized n) cost = cost ≡ Untold
IsCost layer update (Latest ids) cost = cost ≡ Untold
IsCost layer update (Refused cause) cost = cost ≡ Untold

-- ---- one line

-- a reply with what it cost
pub record Told : Type 0 where
  pub reply : Reply
  pub cost : Cost

-- what a line is answered, a reply or nothing, and the map after it
pub record Given : Type 0 where
  pub told : Option Told
  pub state : State

-- no answer: the map stays
abbrev pub nothing : State → Given
nothing state = record { told = None; state = state }

-- a refusal: the map stays, and no cost is told
abbrev pub refused : State → Reply → Given
refused state reply = record { told = Some (record { reply = reply; cost = Untold }); state = state }

-- a command is answered by the machine, at some cost that is allowed
pub record Executes (state : State) (command : Command) (given : Given) : Type 0 where
  pub cost : Cost
  pub is_cost : IsCost (layer_named (name_of command) state.layers) (update_of command) (step state command).reply cost
  pub is_given : given ≡ record { told = Some (record { reply = (step state command).reply; cost = cost }); state = (step state command).state }

-- memory may be lacking for a command that takes some and that nothing else refuses
abbrev pub may_lack_memory : State → Command → Bool
may_lack_memory state command = takes_memory command && not (is_refusal (step state command).reply)

-- What a line that was read may be given: nothing where it says nothing, a refusal where it has a fault, and for a command the machine's
-- reply at some cost that is allowed, or `no memory` where it takes memory and nothing else refuses it.
abbrev pub AnswersTo : State → Parsed → Given → Type 0
AnswersTo state (Ok None) given = given ≡ nothing state
AnswersTo state (Err fault) given = given ≡ refused state (Refused (refusal_of_fault fault))
AnswersTo state (Ok (Some command)) given =
    Executes state command given ⊎ (IsTrue (may_lack_memory state command) × (given ≡ refused state (Refused NoMemory)))

-- what a line may be answered, and the map after it
abbrev pub Answers : State → List ℕ → Given → Type 0
Answers state line given = AnswersTo state (parse state.version line) given

-- the bytes of an answer in the version of its line: the reply's line, if there is a reply
abbrev pub written_for : Version → Bool → Option Told → List ℕ
written_for version ledger None = []
written_for version ledger (Some told) = reply_line version ledger told.reply told.cost

-- one, where a line is refused
abbrev pub refusal_count : Option Told → ℕ
refusal_count None = 0
refusal_count (Some told) = if is_refusal told.reply then 1 else 0

-- ---- lines

-- From a map, these lines may be answered by these bytes, with or without the ledger, and lead to that map.
abbrev pub Output : Bool → State → List (List ℕ) → List ℕ → State → Type 0
Output ledger start [] written end = (written ≡ []) × (end ≡ start)
Output ledger start (line ∷ lines) written end =
    (given : Given) × Answers start line given × (rest : List ℕ) × (written ≡ written_for start.version ledger given.told ++ rest) × Output ledger given.state lines rest end

-- Writing stopped inside the answer to a line: the lines before it are answered in full, it was executed, and a
-- part of its answer, not all of it, is written.
pub record Interrupted (ledger : Bool) (start : State) (lines : List (List ℕ)) (written : List ℕ) (end : State) : Type 0 where
  pub answered : ℕ
  pub has_next : answered < length lines
  pub full : List ℕ
  pub before : State
  pub answers_before : Output ledger start (take answered lines) full before
  pub given : Given
  pub answers_next : Answers before (slice_index_or lines answered []) given
  pub executed : end ≡ given.state
  pub part : ℕ
  pub is_part : part < length (written_for before.version ledger given.told)
  pub is_written : written ≡ full ++ take part (written_for before.version ledger given.told)

-- ---- the machine's own run, memory always being found, without the ledger

-- the machine's reply to a line that was read
abbrev pub machine_reply : State → Parsed → Option Reply
machine_reply state (Ok None) = None
machine_reply state (Ok (Some command)) = Some (step state command).reply
machine_reply state (Err fault) = Some (Refused (refusal_of_fault fault))

-- the map after it
abbrev pub machine_state : State → Parsed → State
machine_state state (Ok None) = state
machine_state state (Ok (Some command)) = (step state command).state
machine_state state (Err fault) = state

-- the bytes of a reply without costs
abbrev pub line_for : Version → Option Reply → List ℕ
line_for version None = []
line_for version (Some reply) = reply_line version false reply Untold

-- what the machine answers to lines, one after another
abbrev pub machine_text : State → List (List ℕ) → List ℕ
machine_text state [] = []
machine_text state (line ∷ lines) =
    line_for state.version (machine_reply state (parse state.version line)) ++ machine_text (machine_state state (parse state.version line)) lines

-- the map that the machine's run over lines leads to
abbrev pub machine_end : State → List (List ℕ) → State
machine_end state [] = state
machine_end state (line ∷ lines) = machine_end (machine_state state (parse state.version line)) lines

-- memory may be lacking at a line
abbrev pub asks_memory : State → Parsed → Bool
asks_memory state (Ok None) = false
asks_memory state (Ok (Some command)) = may_lack_memory state command
asks_memory state (Err fault) = false

-- no line of the machine's run is one that memory may refuse
abbrev pub never_lacks_memory : State → List (List ℕ) → Bool
never_lacks_memory state [] = true
never_lacks_memory state (line ∷ lines) =
    not (asks_memory state (parse state.version line)) && never_lacks_memory (machine_state state (parse state.version line)) lines
