use Rattle.part_store.proofs.store.Store.+highest_below.Given as goal

abbrev pub decreases-highest_below : goal.decreases-highest_below
decreases-highest_below g l = l.level
