use Rattle.rank_rows.proofs.store.Store.+add_dead.Given as goal

abbrev pub decreases-add_dead : goal.decreases-add_dead
decreases-add_dead g l = l.height
