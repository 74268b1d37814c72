-- The laps of what a session executed.
use Rattle.std.specs.Prelude.{◌≡◌, ℕ, ◌+◌, ◌^◌, ◌<◌, ◌≤◌, List, [], ◌∷◌, count_by, max}
use Rattle.query_laws.specs.StepLedger.{Counts, most_lap_turns, most_lap_marks, most_lap_consulted}
use Rattle.map_model.specs.Grammar.{Parsed}
use Rattle.map_session.specs.Executing.{ExecutesAll}
use Rattle.map_session.specs.Session.{SessionState, map_in}
use Rattle.map_session.specs.Work.{Work, work_said, begins_lap_said}

-- how often a lap is begun: by updates and questions
abbrev pub laps_of : List Parsed → ℕ
laps_of script = count_by begins_lap_said script

-- the greatest that one of them may take, each on the map before it
abbrev pub greatest_of : (Work → ℕ) → (old : SessionState) (before : Counts) (script : List Parsed) (new : SessionState) (after : Counts)
    → ExecutesAll old before script new after → ℕ
greatest_of part old before [] new after all = 0
greatest_of part old before (said ∷ more) new after all = max (part (work_said (map_in old) said)) (greatest_of part all.1 all.2 more new after all.4)

-- Each update and each question is one lap, as far as 64 bits count them, and no lap took more turns or marks, or consulted more parts, than the
-- greatest bound of one of them, or than one before.
pub record AreLaps (old : SessionState) (before : Counts) (script : List Parsed) (new : SessionState) (after : Counts) (all : ExecutesAll old before script new after) : Type 0 where
  pub laps : before.lap_start.laps + laps_of script < 2 ^ 64 → after.lap_start.laps ≡ before.lap_start.laps + laps_of script
  pub turns : most_lap_turns after ≤ max (most_lap_turns before) (greatest_of (λ work. work.turns) old before script new after all)
  pub marks : most_lap_marks after ≤ max (most_lap_marks before) (greatest_of (λ work. work.marks) old before script new after all)
  pub consulted : most_lap_consulted after ≤ max (most_lap_consulted before) (greatest_of (λ work. work.consulted) old before script new after all)
