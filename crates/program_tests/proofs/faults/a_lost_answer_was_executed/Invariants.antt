use Rattle.program_tests.proofs.faults.a_lost_answer_was_executed.Given as goal

abbrev pub ghosts-answers_around_a_fault : goal.ghosts-answers_around_a_fault
ghosts-answers_around_a_fault g a = record { name = a.blank.name; parts = a.blank.parts }
