use Rattle.map_session.specs.Session.{new_session}
use Rattle.std.specs.Prelude.{false}
use Rattle.workload_gen.specs.Made.{made_script}
use Rattle.workload_gen.proofs.Accepting.{script_accepted}
use Rattle.program_run.proofs.Accepted.{accepted_are_answered}
use Rattle.program_run.proofs.made_scripts_are_refused_memory_alone.Goals as goal

pub returns : goal.returns
returns c = λ most seed size before told new after few obeys found.
    accepted_are_answered (new_session false most) before (made_script seed size) told new after obeys (script_accepted most seed size few) found
