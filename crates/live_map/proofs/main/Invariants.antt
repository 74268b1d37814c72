use Rattle.live_map.proofs.main.Given as goal

abbrev pub ghosts-end : goal.ghosts-end
ghosts-end a = record { name = a.blank.name; parts = a.blank.parts }
