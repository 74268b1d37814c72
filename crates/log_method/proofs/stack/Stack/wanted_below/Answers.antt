use Rattle.std.proofs.Common.{◌≡◌, sym, subst, arith}
use Rattle.log_levels.specs.Trades.{wanted_at}
use Rattle.log_method.proofs.Forecasting.{in_place, wanted_past}
use Rattle.log_method.proofs.stack.Stack.wanted_below.Goals as goal

pub returns : goal.returns
returns g c k above =
    let levels = c.self.inside.levels.items in
    let places = in_place g.B.Part.Part.contents
    (record { stamp = g.B.Item.Item.stamp; before = g.B.Item.Item.before; slope = g.B.Builder.SLOPE; base = g.B.Builder.BASE })
    levels c.self.invariant.0.levels in
    subst (λ s. wanted_at 2 k s.levels ≡ 0) c.self.view_is
    (sym (wanted_past k levels places (λ none. omega (arith, none, above)) (omega (arith, above, c.self.invariant.0.few))))
