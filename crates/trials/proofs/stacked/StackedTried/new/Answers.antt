use Rattle.std.proofs.Common.{[], ap, subst, sym}
use Rattle.log_levels.specs.Trades.{AreLent}
use Rattle.log_method.proofs.Taking.{lent_none}
use Rattle.trials.specs.Stacks.{IsStackOf}
use Rattle.trials.proofs.Stacks.{IsStackOf-nil}
use Rattle.trials.proofs.stacked.StackedTried.new.Goals as goal

pub invariant_of-result : goal.invariant_of-result
invariant_of-result g c =
    let contents = g.B.Part.Part.contents in
    let stamp = g.B.Item.Item.stamp in
    let empty = sym (ap (λ s. s.levels) c.new.ensures) in (
      subst (λ levels. IsStackOf contents stamp levels c.in_ok-with_capacity.field-0.items) empty
          (subst (λ items. IsStackOf contents stamp [] items) (sym c.in_ok-with_capacity.ensures.items) IsStackOf-nil),
      subst (λ levels. AreLent levels c.new-2.result) empty (lent_none c.new-2.result),
    )
