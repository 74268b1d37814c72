use Rattle.rank_rows.proofs.store.Store.+died_before.Given as goal

abbrev pub decreases-died_before : goal.decreases-died_before
decreases-died_before g l = l.height
