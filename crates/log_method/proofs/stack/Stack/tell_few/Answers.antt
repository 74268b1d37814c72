use Rattle.std.proofs.Common.{subst}
use Rattle.log_method.specs.Few.{HaveFew}
use Rattle.log_method.proofs.Fewness.{have_few}
use Rattle.log_method.proofs.stack.Stack.tell_few.Goals as goal

pub returns : goal.returns
returns g c =
    subst (λ s. HaveFew s.levels) c.self.view_is
    (have_few g.B.Part.Part.contents (record { stamp = g.B.Item.Item.stamp; before = g.B.Item.Item.before; slope = g.B.Builder.SLOPE; base = g.B.Builder.BASE })
    c.self.inside.levels.items c.self.invariant.0.levels)
