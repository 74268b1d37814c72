-- What the calls on a map of C do.
use Rattle.std.specs.Prelude.{◌≡◌, ◌≢◌, ◌+◌, ◌≤◌, ◌<◌, ◌^◌, ◌⊎◌, ◌++◌, ℕ, List, [], Some, None, false, take, drop, length, vec_len, min}
use Rattle.query_laws.specs.StepLedger.{Counts, nothing_counted}
use Rattle.map_io.specs.ProperPrefix.{IsProperPrefix}
use Rattle.map_model.specs.Text.{lines}
use Rattle.map_model.specs.Output.{Given, written_for}
use Rattle.map_session.specs.Session.{new_session, map_in, ExecutesLine, done_of}
use Rattle.map_session.specs.Answering.{Moment, moment, Runs, IsStopped}
use Rattle.livemap_c.specs.declared.livemap.Livemap.{Livemap}
use Rattle.livemap_c.specs.declared.status.Status.{Status}
use Rattle.livemap_c.specs.declared.status.Status.TheVariants.{Answered, Refused, Silent, NoMemory, WornOut}
use Rattle.livemap_c.specs.Statuses.{status_of_done, OnStatus}
use Rattle.livemap_c.specs.Told.{told_of}

-- A map without layers, whose layers may have so many items, of version 1, and no text.
abbrev pub IsFresh : ℕ → Livemap → Type 0
IsFresh most map = (map.session ≡ new_session false most) × (map.text.bytes.items ≡ [])

-- ---- a line

-- The text is the whole answer in the version before the line, with the status that it has, or a proper front of it, where there was no memory for
-- the rest.
abbrev pub IsKept : Livemap → Livemap → Given → Status → Type 0
IsKept before after given status =
    ((status ≡ status_of_done (done_of given.told)) × (after.text.bytes.items ≡ written_for (map_in before.session).version before.session.ledger given.told))
    ⊎ ((status ≡ NoMemory) × IsProperPrefix (written_for (map_in before.session).version before.session.ledger given.told) after.text.bytes.items)

-- A line was executed as a session does it, its work counted from nothing, and the text of its answer kept.
abbrev pub KeepsLine : Livemap → Livemap → List ℕ → Status → Type 0
KeepsLine before after line status =
    (given : Given) × (counts : Counts) × ExecutesLine before.session nothing_counted line given after.session counts × IsKept before after given status

-- A line was executed, or the map had 2^40 lines before and is as it was.
abbrev pub TakesLine : Livemap → Livemap → List ℕ → Status → Type 0
TakesLine before after line status =
    ((before.session.lines < 2 ^ 40) × KeepsLine before after line status) ⊎ ((2 ^ 40 ≤ before.session.lines) × (after ≡ before) × (status ≡ WornOut))

-- A line was executed and the text of its answer kept, or the map had 2^40 lines before and is as it was. The number is that of the status.
abbrev pub SaysLine : Livemap → Livemap → List ℕ → ℕ → Type 0
SaysLine before after line code = OnStatus code (TakesLine before after line)

-- ---- a script

-- the moment at which a script begins: no text, and nothing counted
abbrev pub start_of : Livemap → Moment
start_of map = moment map.session (record { written = Some []; pieces = None; faults = map.text.faults }) nothing_counted

-- the moment at which it ends, with what was counted
abbrev pub end_of : Livemap → Counts → Moment
end_of map counts = moment map.session (told_of map.text) counts

-- What was answered of a script, by status. Answered or Refused: each line, none or some refused. NoMemory: the text ends inside an answer.
abbrev pub RunsTo : Moment → List (List ℕ) → Status → Moment → Type 0
RunsTo start script Answered now = Runs start script now × (now.session.refused ≡ start.session.refused)
RunsTo start script Refused now = Runs start script now × (now.session.refused ≢ start.session.refused)
RunsTo start script Silent now = ⊥
RunsTo start script NoMemory now = IsStopped start script now
RunsTo start script WornOut now = ⊥

-- The lines of a script were executed as a session does it, their work counted from nothing, and the text of their answers kept.
abbrev pub KeepsScript : Livemap → Livemap → List ℕ → Status → Type 0
KeepsScript before after script status = (counts : Counts) × RunsTo (start_of before) (lines script) status (end_of after counts)

-- The lines were executed, or with them the map might have 2^40 lines and is as it was.
abbrev pub TakesScript : Livemap → Livemap → List ℕ → Status → Type 0
TakesScript before after script status =
    ((before.session.lines + length script < 2 ^ 40) × KeepsScript before after script status)
    ⊎ ((2 ^ 40 ≤ before.session.lines + length script) × (after ≡ before) × (status ≡ WornOut))

-- The lines of a script were executed and the text of their answers kept, or with them the map might have 2^40 lines and is as it was. The number is
-- that of the status.
abbrev pub SaysScript : Livemap → Livemap → List ℕ → ℕ → Type 0
SaysScript before after script code = OnStatus code (TakesScript before after script)

-- ---- the text

-- As much of the text was copied as fits, what lies behind it in `out` stays, and the text's length was told. The map is as it was.
abbrev pub CopiesText : Livemap → Livemap → List ℕ → List ℕ → ℕ → Type 0
CopiesText before after old new size =
    (after ≡ before) × (size ≡ vec_len before.text.bytes)
    × (new ≡ take (min size (length old)) before.text.bytes.items ++ drop (min size (length old)) old)
