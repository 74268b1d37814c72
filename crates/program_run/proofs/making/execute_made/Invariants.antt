use Rattle.std.proofs.Common.{◌≡◌, ◌+◌, List, length, fold}
use Rattle.query_laws.specs.StepLedger.{Counts}
use Rattle.map_model.specs.Output.{Told}
use Rattle.map_model.specs.Version.{One}
use Rattle.map_session.specs.Session.{SessionState, map_in, Obeys}
use Rattle.workload_gen.specs.Made.{made_script}
use Rattle.workload_gen.specs.Summary.{summary_of, told_more}
use Rattle.program_run.proofs.Versions.{ChooseNone}
use Rattle.program_run.proofs.making.execute_made.Given as goal

-- what is executed from here on is the rest of the script, and its answers go on the summary
abbrev pub invariant-loop-command : goal.invariant-loop-command
invariant-loop-command g l = record {
  lines : l.session.lines + length l.workload ≡ l.size + 1;
  version : (map_in l.session).version ≡ One;
  choose_none : ChooseNone l.workload;
  commands : l.summary.commands ≡ l.session.lines;
  onward : (told : List Told) (end : SessionState) (after : Counts) → Obeys l.session l.steps l.workload told end after
      → (all : List Told) × Obeys l.initial.session l.initial.steps (made_script l.seed l.size) all end after × (summary_of all ≡ fold told_more l.summary told);
}

abbrev pub decreases-loop-command : goal.decreases-loop-command
decreases-loop-command g l = length l.workload
