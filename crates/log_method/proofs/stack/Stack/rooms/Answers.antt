use Rattle.log_method.proofs.Forecasting.{in_place}
use Rattle.log_method.proofs.stack.Stack.rooms.Goals as goal

pub forecast-requires-clause-in_place : goal.forecast-requires-clause-in_place
forecast-requires-clause-in_place g c =
    rw c.deref.ensures.value (in_place g.B.Part.Part.contents
    (record { stamp = g.B.Item.Item.stamp; before = g.B.Item.Item.before; slope = g.B.Builder.SLOPE; base = g.B.Builder.BASE })
    c.self.inside.levels.items c.self.invariant.0.levels)
