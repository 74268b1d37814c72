use Rattle.std.proofs.Common.{sym, subst}
use Rattle.log_levels.specs.Trades.{AreLent}
use Rattle.index_tests.proofs.stacks.retired.Goals as goal

pub give_up_all-given-requires : goal.give_up_all-given-requires
give_up_all-given-requires g c =
    subst (λ s. AreLent s.levels c.filled.new.store) (sym c.retire-retired.ensures) c.in_ok-stack.ensures.lent
