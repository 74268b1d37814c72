use Rattle.program_tests.proofs.words.the_program_ends_with_a_status.Given as goal

abbrev pub ghosts-exit_of : goal.ghosts-exit_of
ghosts-exit_of g a = record { name = a.blank.name; parts = a.blank.parts }
