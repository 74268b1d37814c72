use Rattle.livemap_c.proofs.livemap.Livemap.answer_line.Given as goal

abbrev pub ghosts-execute_line : goal.ghosts-execute_line
ghosts-execute_line a = record { name = a.blank.name; parts = a.blank.parts }
