use Rattle.rank_rows.proofs.store.Store.+holder.Given as goal

abbrev pub decreases-holder : goal.decreases-holder
decreases-holder g l = l.height
