use Rattle.std.proofs.Common.{false, [], refl}
use Rattle.clap.proofs.OnLiterals.{clap_on_literals}
use Rattle.program_words.specs.Words.{AsksFor}
use Rattle.program_words.specs.declared.job.Job.TheVariants.{Script}
use Rattle.program_words.proofs.no_words_ask_for_a_script.Goals as goal

nothing : AsksFor [] (Script false)
unfolding clap_on_literals
nothing = (refl, refl)

pub returns : goal.returns
returns c = nothing
