use Rattle.index_tests.proofs.rows.rows_are_as_worked.Given as goal

abbrev pub ghosts-seen : goal.ghosts-seen
ghosts-seen g a = record { name = a.blank.name; parts = a.blank.parts }
