use Rattle.std.proofs.Common.{◌≡◌, ◌≤◌, List, length, refl, sym, subst, arith}
use Rattle.log_levels.specs.Slots.{Slots}
use Rattle.log_levels.specs.Levels.{weight_of, live_items}
use Rattle.log_method.specs.Stack.{IsStack}
use Rattle.log_method.proofs.Stacks.{IsStack-empty}
use Rattle.log_method.proofs.stack.Stack.new.Goals as goal

pub invariant_of-result : goal.invariant_of-result
invariant_of-result g c =
    let contents = g.B.Part.Part.contents in
    let holds : List (Slots g.row.B-Part.Denot g.row.B-Item.Denot) → Type 0 =
    λ ls. IsStack contents (record { stamp = g.B.Item.Item.stamp; before = g.B.Item.Item.before; slope = g.B.Builder.SLOPE; base = g.B.Builder.BASE })
    (record { levels = ls })
    × (0 ≡ weight_of ls) × (0 ≡ length (live_items contents ls)) × (0 ≤ 0) in
    subst holds (sym c.new.ensures.items) (IsStack-empty, refl, refl, omega arith)
