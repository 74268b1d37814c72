use Rattle.log_levels.specs.Trades.{AreLent}
use Rattle.index_tests.proofs.stacks.give_up_all.Given as goal

abbrev pub invariant-loop-given : goal.invariant-loop-given
invariant-loop-given g l = AreLent l.retired.levels l.store
