use Rattle.base_tests.proofs.steps.steps_are_counted.Given as goal

abbrev pub ghosts-row_and_laps : goal.ghosts-row_and_laps
ghosts-row_and_laps g a = record { name = a.blank.name; parts = a.blank.parts }
