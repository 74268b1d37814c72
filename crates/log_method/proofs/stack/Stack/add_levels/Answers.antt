use Rattle.std.proofs.Common.{◌∙◌, length, sym, ap}
use Rattle.log_method.proofs.Fewness.{have_few}
use Rattle.log_method.proofs.Forecasting.{IsStack-kept, quiet_enough, when_ok}
use Rattle.log_method.proofs.stack.Stack.add_levels.Goals as goal

pub invariant_of-self : goal.invariant_of-self
invariant_of-self g c =
    let h = c.self.invariant in
    let k = c.add_levels.ensures.kept in
    (IsStack-kept _ h.0 k, h.1 ∙ sym k.same.weight, h.2 ∙ ap length (sym k.same.live), h.3)

pub returns-clause-enough : goal.returns-clause-enough
returns-clause-enough g c =
    let st = c.self.invariant.0 in
    let k = c.add_levels.ensures.kept in
    when_ok c.add_levels.result (λ quiet light. quiet_enough g.B.Part.Part.contents _ _ (k.levels _ st.levels) (k.few st.few) (quiet light))
    c.add_levels.ensures.enough

pub returns-clause-has_few : goal.returns-clause-has_few
returns-clause-has_few g c = have_few g.B.Part.Part.contents _ _ (c.add_levels.ensures.kept.levels _ c.self.invariant.0.levels)
