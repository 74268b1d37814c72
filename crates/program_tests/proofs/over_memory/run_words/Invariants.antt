use Rattle.program_tests.proofs.over_memory.run_words.Given as goal

abbrev pub ghosts-run_once : goal.ghosts-run_once
ghosts-run_once a = record { name = a.blank.name; parts = a.blank.parts }
