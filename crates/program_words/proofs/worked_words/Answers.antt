use Rattle.std.proofs.Common.{◌≡◌, true, false, [], ◌∷◌, codes, refl}
use Rattle.clap.proofs.OnLiterals.{clap_on_literals}
use Rattle.program_words.specs.Words.{accepts, AsksFor}
use Rattle.program_words.specs.declared.job.Job.TheVariants.{Script, Made}
use Rattle.program_words.proofs.worked_words.Goals as goal

ledger : AsksFor (codes "--ledger" ∷ []) (Script true)
unfolding clap_on_literals
ledger = (refl, refl)

seed : AsksFor (codes "--ledger" ∷ codes "--make" ∷ codes "7" ∷ []) (Made 7 1000)
unfolding clap_on_literals
seed = (refl, refl)

size : AsksFor (codes "--size=65536" ∷ codes "--make" ∷ codes "18446744073709551615" ∷ []) (Made 18446744073709551615 65536)
unfolding clap_on_literals
size = (refl, refl)

size_alone : accepts (codes "--size" ∷ codes "5" ∷ []) ≡ false
unfolding clap_on_literals
size_alone = refl

no_size : accepts (codes "--make" ∷ codes "7" ∷ codes "--size" ∷ codes "0" ∷ []) ≡ false
unfolding clap_on_literals
no_size = refl

no_seed : accepts (codes "--make" ∷ codes "18446744073709551616" ∷ []) ≡ false
unfolding clap_on_literals
no_seed = refl

twice : accepts (codes "--ledger" ∷ codes "--ledger" ∷ []) ≡ false
unfolding clap_on_literals
twice = refl

stray : accepts (codes "x" ∷ []) ≡ false
unfolding clap_on_literals
stray = refl

pub returns : goal.returns
returns c = record { ledger = ledger; seed = seed; size = size; size_alone = size_alone; no_size = no_size; no_seed = no_seed; twice = twice; stray = stray }
