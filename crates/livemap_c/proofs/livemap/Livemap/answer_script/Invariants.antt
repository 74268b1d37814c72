use Rattle.livemap_c.proofs.livemap.Livemap.answer_script.Given as goal

abbrev pub ghosts-execute_script : goal.ghosts-execute_script
ghosts-execute_script a = record { name = a.blank.name; parts = a.blank.parts }
