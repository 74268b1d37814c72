-- Lines of a text that a session answered.
use Rattle.std.specs.Prelude.{◌≡◌, ◌==◌, ℕ, ◌+◌, ◌<◌, ◌≤◌, ◌++◌, Bool, List, [], ◌∷◌, length, take, count_by, slice_index_or, if◌then◌else◌}
use Rattle.query_laws.specs.StepLedger.{Counts}
use Rattle.map_io.specs.SinkTold.{SinkTold}
use Rattle.map_model.specs.Text.{whole_lines, one_line, refusals}
use Rattle.map_model.specs.State.{State}
use Rattle.map_model.specs.Grammar.{Parsed, parse}
use Rattle.map_model.specs.Output.{Given, Answers, written_for}
use Rattle.script_lang.specs.Front.{longest_front}
use Rattle.answer_text.specs.Pieces.{DeliversLines, CutOffInPieces}
use Rattle.map_session.specs.Work.{Work, no_work, both, work_said, is_update_said}
use Rattle.map_session.specs.Session.{SessionState, map_in, ExecutesLine}

-- From a map, these lines may be answered by these bytes and lead to that map, and they may take so much together.
abbrev pub OutputWithin : Bool → State → List (List ℕ) → List ℕ → State → Work → Type 0
OutputWithin ledger start [] written end work = (written ≡ []) × (end ≡ start) × (work ≡ no_work)
OutputWithin ledger start (line ∷ lines) written end work =
    (given : Given) × Answers start line given × (rest : List ℕ) × (later : Work) × (written ≡ written_for start.version ledger given.told ++ rest)
    × (work ≡ both (work_said start (parse start.version line)) later) × OutputWithin ledger given.state lines rest end later

-- a session, what the sink tells, and what was counted
pub record Moment : Type 0 where
  pub session : SessionState
  pub told : SinkTold
  pub counts : Counts

-- a session, what the sink tells, and what was counted
abbrev pub moment : SessionState → SinkTold → Counts → Moment
moment session told counts = record { session = session; told = told; counts = counts }

-- From one moment to the next a line was answered in full.
pub record AnswersLine (now : Moment) (line : List ℕ) (next : Moment) : Type 0 where
  pub given : Given
  pub executed : ExecutesLine now.session now.counts line given next.session next.counts
  pub delivered : DeliversLines now.told next.told (written_for (map_in now.session).version now.session.ledger given.told) 1

-- From one moment to another these lines were answered, one after another.
abbrev pub Runs : Moment → List (List ℕ) → Moment → Type 0
Runs start [] now = now ≡ start
Runs start (line ∷ lines) now = (next : Moment) × AnswersLine start line next × Runs next lines now

-- what lines say that were answered, each in the version of the map before it
abbrev pub said_by : (start : Moment) (script : List (List ℕ)) (now : Moment) → Runs start script now → List Parsed
said_by start [] now runs = []
said_by start (line ∷ lines) now runs = parse (map_in start.session).version line ∷ said_by runs.0 lines now runs.2

-- What lines come to that were answered, all together: an output of theirs within the work of its commands, each on the map before it; written in
-- pieces; and as many lines, refusals and updates more as there were.
pub record SumsUp (start : Moment) (script : List (List ℕ)) (now : Moment) (runs : Runs start script now) : Type 0 where
  pub bytes : List ℕ
  pub work : Work
  pub output : OutputWithin start.session.ledger (map_in start.session) script bytes (map_in now.session) work
  pub delivered : DeliversLines start.told now.told bytes (length script)
  pub turns : now.counts.turns ≤ start.counts.turns + work.turns
  pub marks : now.counts.marks ≤ start.counts.marks + work.marks
  pub touches : now.counts.touches ≤ start.counts.touches + work.touches
  pub ledger : now.session.ledger ≡ start.session.ledger
  pub lines : now.session.lines ≡ start.session.lines + length script
  pub refused : now.session.refused ≡ start.session.refused + refusals bytes
  pub updates : now.session.layers.updates ≡ start.session.layers.updates + count_by is_update_said (said_by start script now runs)

-- Writing stopped inside the answer to one of these lines: those before it were answered, it was executed, and a proper prefix of its
-- answer is written.
pub record IsStopped (start : Moment) (script : List (List ℕ)) (now : Moment) : Type 0 where
  pub answered : ℕ
  pub has_next : answered < length script
  pub before : Moment
  pub answers_before : Runs start (take answered script) before
  pub given : Given
  pub executed : ExecutesLine before.session before.counts (slice_index_or script answered []) given now.session now.counts
  pub cut_off : CutOffInPieces before.told now.told (written_for (map_in before.session).version before.session.ledger given.told)

-- writing stopped inside the answer to one of these lines, and not to one of the first so many
abbrev pub IsStoppedBehind : ℕ → Moment → List (List ℕ) → Moment → Type 0
IsStoppedBehind n start script now = (stopped : IsStopped start script now) × (n ≤ stopped.answered)

-- Writing stopped inside the answer to this line.
pub record StopsInLine (before : Moment) (line : List ℕ) (now : Moment) : Type 0 where
  pub given : Given
  pub executed : ExecutesLine before.session before.counts line given now.session now.counts
  pub cut_off : CutOffInPieces before.told now.told (written_for (map_in before.session).version before.session.ledger given.told)

-- ---- a text that comes in pieces

-- what comes after the last line feed
abbrev pub unended : List ℕ → List ℕ
unended [] = []
unended (byte ∷ text) = if one_line text then (if byte == 10 then text else byte ∷ text) else unended text

-- The lines that a line feed ended in a text are answered, and the line that is begun is the front of the rest.
pub record IsUnderway (start : Moment) (text begun : List ℕ) (now : Moment) : Type 0 where
  pub answered : Runs start (whole_lines text) now
  pub front : begun ≡ take longest_front (unended text)
