-- What was executed, one after another: lines that were answered, lines up to the one in whose answer writing stopped, and commands.
use Rattle.std.specs.Prelude.{◌≡◌, ℕ, ◌+◌, ◌≤◌, List, [], ◌∷◌, ◌++◌, length, Some, Ok, map, take, count_by, slice_index_or}
use Rattle.std.proofs.Common.{refl, subst}
use Rattle.query_laws.specs.StepLedger.{Counts}
use Rattle.map_model.specs.Command.{Command}
use Rattle.map_model.specs.Grammar.{Parsed, parse}
use Rattle.map_model.specs.Output.{Told, Given, refusal_count}
use Rattle.map_session.specs.Answering.{Moment, Runs, said_by, IsStopped}
use Rattle.map_session.specs.Session.{SessionState, map_in, Executes, Obeys}
use Rattle.map_session.specs.Work.{Work, no_work, both, work_said, is_update_said}

-- what was said was executed, one after another
abbrev pub ExecutesAll : SessionState → Counts → List Parsed → SessionState → Counts → Type 0
ExecutesAll old before [] new after = (new ≡ old) × (after ≡ before)
ExecutesAll old before (said ∷ more) new after =
    (given : Given) × (next : SessionState) × (counts : Counts) × Executes old before said given next counts × ExecutesAll next counts more new after

-- ---- whose it is

-- lines that were answered
abbrev pub of_lines : (start : Moment) (script : List (List ℕ)) (now : Moment) (runs : Runs start script now)
    → ExecutesAll start.session start.counts (said_by start script now runs) now.session now.counts
of_lines start [] now runs = (λ i. (runs i).session, λ i. (runs i).counts)
of_lines start (line ∷ lines) now runs = (runs.1.given, runs.0.session, runs.0.counts, runs.1.executed, of_lines runs.0 lines now runs.2)

-- what commands say
abbrev pub said_of : List Command → List Parsed
said_of commands = map (λ command. Ok (Some command)) commands

-- commands that were obeyed
abbrev pub of_commands : (old : SessionState) (before : Counts) (commands : List Command) (told : List Told) (new : SessionState) (after : Counts)
    → Obeys old before commands told new after → ExecutesAll old before (said_of commands) new after
of_commands old before [] [] new after obeys = obeys
of_commands old before [] (one ∷ more) new after obeys = absurd obeys
of_commands old before (command ∷ commands) [] new after obeys = absurd obeys
of_commands old before (command ∷ commands) (one ∷ more) new after obeys =
    (record { told = Some one; state = map_in obeys.0 }, obeys.0, obeys.1, obeys.2, of_commands obeys.0 obeys.1 commands more new after obeys.3)

-- one more
abbrev pub and_one : (old : SessionState) (before : Counts) (script : List Parsed) (next : SessionState) (counts : Counts) → ExecutesAll old before script next counts
    → (said : Parsed) (given : Given) (new : SessionState) (after : Counts) → Executes next counts said given new after → ExecutesAll old before (script ++ said ∷ []) new after
and_one old before [] next counts all said given new after one =
    (given, new, after, subst (λ c. Executes old c said given new after) all.1 (subst (λ s. Executes s counts said given new after) all.0 one), (refl, refl))
and_one old before (first ∷ script) next counts all said given new after one =
    (all.0, all.1, all.2, all.3, and_one all.1 all.2 script next counts all.4 said given new after one)

-- what the lines say up to the one in whose answer writing stopped, with it
abbrev pub said_until : (start : Moment) (script : List (List ℕ)) (now : Moment) → IsStopped start script now → List Parsed
said_until start script now stopped =
    said_by start (take stopped.answered script) stopped.before stopped.answers_before
    ++ parse (map_in stopped.before.session).version (slice_index_or script stopped.answered []) ∷ []

-- those lines
abbrev pub of_stopped : (start : Moment) (script : List (List ℕ)) (now : Moment) (stopped : IsStopped start script now)
    → ExecutesAll start.session start.counts (said_until start script now stopped) now.session now.counts
of_stopped start script now stopped =
    and_one start.session start.counts (said_by start (take stopped.answered script) stopped.before stopped.answers_before) stopped.before.session stopped.before.counts
    (of_lines start (take stopped.answered script) stopped.before stopped.answers_before)
    (parse (map_in stopped.before.session).version (slice_index_or script stopped.answered [])) stopped.given now.session now.counts stopped.executed

-- ---- what it comes to

-- what all of it may take, each on the map before it
abbrev pub work_of_all : (old : SessionState) (before : Counts) (script : List Parsed) (new : SessionState) (after : Counts) → ExecutesAll old before script new after → Work
work_of_all old before [] new after all = no_work
work_of_all old before (said ∷ more) new after all = both (work_said (map_in old) said) (work_of_all all.1 all.2 more new after all.4)

-- how much of it was refused
abbrev pub refused_of_all : (old : SessionState) (before : Counts) (script : List Parsed) (new : SessionState) (after : Counts) → ExecutesAll old before script new after → ℕ
refused_of_all old before [] new after all = 0
refused_of_all old before (said ∷ more) new after all = refusal_count all.0.told + refused_of_all all.1 all.2 more new after all.4

-- It took at most what all of it may, and there are as many commands and lines, refusals and updates more as there were.
pub record AreCounted (old : SessionState) (before : Counts) (script : List Parsed) (new : SessionState) (after : Counts) (all : ExecutesAll old before script new after) : Type 0 where
  pub turns : after.turns ≤ before.turns + (work_of_all old before script new after all).turns
  pub marks : after.marks ≤ before.marks + (work_of_all old before script new after all).marks
  pub touches : after.touches ≤ before.touches + (work_of_all old before script new after all).touches
  pub consulted : after.consulted ≤ before.consulted + (work_of_all old before script new after all).consulted
  pub lines : new.lines ≡ old.lines + length script
  pub refused : new.refused ≡ old.refused + refused_of_all old before script new after all
  pub updates : new.layers.updates ≡ old.layers.updates + count_by is_update_said script
