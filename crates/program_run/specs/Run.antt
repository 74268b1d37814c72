-- What a run takes in, answers and writes.
use Rattle.std.specs.Prelude.{◌≡◌, ◌≢◌, ◌⊎◌, ℕ, ◌+◌, ◌-◌, ◌*◌, ◌<◌, ◌≤◌, List, [], length, take, Option, Some, Result, Ok, Err, Bool, false, codes}
use Rattle.std.specs.Io.KnownBytes.{Consumes, IsAtEnd}
use Rattle.query_laws.specs.StepLedger.{Counts}
use Rattle.map_io.specs.Calls.{counted}
use Rattle.map_io.specs.SinkTold.{SinkTold, CountsAtMost, Delivers, CutOff}
use Rattle.map_model.specs.State.{empty_map}
use Rattle.map_model.specs.Text.{lines, whole_lines}
use Rattle.map_session.specs.Session.{SessionState, new_session}
use Rattle.map_session.specs.Answering.{Moment, moment, Runs, IsStoppedBehind, IsUnderway}
use Rattle.program_words.specs.declared.job.Job.{Job}
use Rattle.program_words.specs.declared.job.Job.TheVariants.{Script, Made}
use Rattle.program_words.specs.declared.job.WordsFault.{WordsFault}
use Rattle.program_words.specs.declared.job.WordsFault.TheVariants as faults
use Rattle.program_words.specs.Words.{AsksFor, Reads}
use Rattle.program_run.specs.Made.{AnswersMade}
use Rattle.program_run.specs.declared.ended.Status.{Status}
use Rattle.program_run.specs.declared.ended.Status.TheVariants.{Clean, Refusals, Usage, ReadFault, WriteFault, TooLong, NoMemory}

-- the most bytes of a script: 64 MiB
abbrev pub script_limit : ℕ
script_limit = 67108864

-- what is written where the words aren't accepted
abbrev pub usage_line : List ℕ
usage_line = codes "usage: livemap [--ledger] [--make SEED] [--size N]\n"

-- a session of the program before any line: its layers may have as many items as those of the map that the definitions begin with
abbrev pub first_session : Bool → SessionState
first_session ledger = new_session ledger empty_map.most_items

-- the exit status of the program
abbrev pub code_of : Status → ℕ
code_of Clean = 0
code_of Refusals = 1
code_of Usage = 2
code_of ReadFault = 3
code_of WriteFault = 4
code_of TooLong = 5
code_of NoMemory = 6

-- ---- a script

-- so many bytes at most were taken, and P holds of them
abbrev pub Takes : ℕ → Option (List ℕ) → Option (List ℕ) → (List ℕ → Type 0) → Type 0
Takes most rest rest' P = (taken : List ℕ) × Consumes rest rest' taken × (length taken ≤ most) × P taken

-- all that was left was taken, within the limit, and each line of it is answered
abbrev pub AnswersAll : Option (List ℕ) → Option (List ℕ) → Moment → Moment → Type 0
AnswersAll rest rest' start now = IsAtEnd rest' × Takes script_limit rest rest' (λ taken. Runs start (lines taken) now)

-- all but the last 4,096 bytes
abbrev pub but_last_piece : List ℕ → List ℕ
but_last_piece taken = take (length taken - 4096) taken

-- What was taken of a script, answered and written since the start, by how it ended. Clean or Refusals: all that was left was taken, within the
-- limit, and each line is answered, none or some refused. ReadFault: the lines that a line feed ended are answered. WriteFault: writing stopped in an
-- answer, behind those to lines that ended before the last 4,096 bytes. TooLong: the limit and one byte more were taken, and the lines within the
-- limit are answered.
abbrev pub AnswersScript : Option (List ℕ) → Option (List ℕ) → Moment → Status → Moment → Type 0
AnswersScript rest rest' start Clean now = AnswersAll rest rest' start now × (now.session.refused ≡ 0)
AnswersScript rest rest' start Refusals now = AnswersAll rest rest' start now × (0 < now.session.refused)
AnswersScript rest rest' start Usage now = ⊥
AnswersScript rest rest' start ReadFault now = Takes script_limit rest rest' (λ taken. Runs start (whole_lines taken) now)
AnswersScript rest rest' start WriteFault now =
    Takes script_limit rest rest' (λ taken. IsStoppedBehind (length (whole_lines (but_last_piece taken))) start (lines taken) now)
AnswersScript rest rest' start TooLong now =
    Takes (script_limit + 1) rest rest' (λ taken. (length taken ≡ script_limit + 1) × Runs start (whole_lines (take script_limit taken)) now)
AnswersScript rest rest' start NoMemory now = ⊥

-- Between two reads: so many bytes were taken since there was this rest, the lines that a line feed ended in them are answered, and the
-- line that is begun is the front of what comes after.
pub record IsReading (rest : Option (List ℕ)) (start : Moment) (taken : ℕ) (rest' : Option (List ℕ)) (begun : List ℕ) (now : Moment) : Type 0 where
  pub text : List ℕ
  pub consumed : Consumes rest rest' text
  pub many : length text ≡ taken
  pub within : taken ≤ script_limit
  pub underway : IsUnderway start text begun now

-- Calls of the source that filled what they were handed: at most one for each 4,096 of so many bytes.
abbrev pub FillsPieces : Option ℕ → Option ℕ → ℕ → Type 0
FillsPieces filled filled' bytes = (most : ℕ) × CountsAtMost filled filled' most × (most * 4096 ≤ bytes)

-- And at most one more than for what was taken, where the source tells that.
abbrev pub ReadsPieces : Option (List ℕ) → Option (List ℕ) → Option ℕ → Option ℕ → Type 0
ReadsPieces rest rest' filled filled' = (left left' : List ℕ) → rest ≡ Some left → rest' ≡ Some left' → FillsPieces filled filled' (length left - length left' + 4096)

-- ---- a run

-- the usage line was written, or a proper prefix of it
abbrev pub WritesUsage : SinkTold → SinkTold → Status → Type 0
WritesUsage told told' Clean = ⊥
WritesUsage told told' Refusals = ⊥
WritesUsage told told' Usage = Delivers told told' usage_line 1
WritesUsage told told' ReadFault = ⊥
WritesUsage told told' WriteFault = CutOff told told' usage_line 0
WritesUsage told told' TooLong = ⊥
WritesUsage told told' NoMemory = ⊥

-- nothing was taken, executed or counted
pub record IsIdle (rest rest' : Option (List ℕ)) (start now : Moment) : Type 0 where
  pub taken : Consumes rest rest' []
  pub session : now.session ≡ start.session
  pub counts : now.counts ≡ start.counts

-- the words are accepted, and ask for the script that is read
abbrev pub AsksForScript : List (List ℕ) → Type 0
AsksForScript words = (ledger : Bool) × AsksFor words (Script ledger)

-- What a run did, by what its words ask for.
abbrev pub RunsBy : Result Job WordsFault → Option (List ℕ) → Option (List ℕ) → SinkTold → Counts → Status → Moment → Type 0
RunsBy (Ok (Script ledger)) rest rest' told counts status now = AnswersScript rest rest' (moment (first_session ledger) told counts) status now
RunsBy (Ok (Made seed size)) rest rest' told counts status now =
    Consumes rest rest' [] × AnswersMade seed size (moment (first_session false) told counts) status now
RunsBy (Err faults.Usage) rest rest' told counts status now =
    IsIdle rest rest' (moment (first_session false) told counts) now × WritesUsage told now.told status
RunsBy (Err faults.NoMemory) rest rest' told counts status now =
    (status ≡ NoMemory) × IsIdle rest rest' (moment (first_session false) told counts) now × Delivers told now.told [] 0

-- The words were read, and what was taken, answered and written is what they ask for.
abbrev pub HasRun : List (List ℕ) → Option (List ℕ) → Option (List ℕ) → SinkTold → Counts → Status → Moment → Type 0
HasRun words rest rest' told counts status now = (read : Result Job WordsFault) × Reads words read × RunsBy read rest rest' told counts status now

-- What a run did, and how it ended: of the source what it has left, its faults and its filled calls before and after, and of the sink what it tells.
pub record HasEnded (words : List (List ℕ)) (rest rest' : Option (List ℕ)) (faults faults' : ℕ) (filled filled' : Option ℕ) (told : SinkTold) (counts : Counts)
    (status : Status) (now : Moment) : Type 0 where
  -- what was taken, answered, counted and written
  pub ran : HasRun words rest rest' told counts status now
  -- The first call that fails is the only one: no call comes after it, and none is tried again.
  pub read_fault : status ≡ ReadFault → faults' ≡ counted faults
  pub write_fault : status ≡ WriteFault → now.told.faults ≡ counted told.faults
  pub no_read_fault : status ≢ ReadFault → faults' ≡ faults
  pub no_write_fault : status ≢ WriteFault → now.told.faults ≡ told.faults
  -- where nothing failed, a script within the limit is answered whole, and no longer one is, but for want of memory
  pub complete : (left : List ℕ) → rest ≡ Some left → length left ≤ script_limit → AsksForScript words → status ≢ ReadFault → status ≢ WriteFault
      → (status ≡ Clean) ⊎ ((status ≡ Refusals) ⊎ (status ≡ NoMemory))
  pub limit : (left : List ℕ) → rest ≡ Some left → script_limit < length left → AsksForScript words → status ≢ ReadFault → status ≢ WriteFault
      → (status ≡ TooLong) ⊎ (status ≡ NoMemory)
  -- it reads by pieces of 4,096 bytes
  pub pieces : ReadsPieces rest rest' filled filled'
