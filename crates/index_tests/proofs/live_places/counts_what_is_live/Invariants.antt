use Rattle.index_tests.proofs.live_places.counts_what_is_live.Given as goal

abbrev pub ghosts-counted : goal.ghosts-counted
ghosts-counted g a = record { name = a.blank.name; parts = a.blank.parts }
