use Rattle.std.proofs.Common.{◌≡◌, ◌≤◌, List, Option, length, refl, sym, subst, arith}
use Rattle.binary_stack.specs.Levels.{weight_of, live_items}
use Rattle.binary_stack.specs.Counter.{IsCounter}
use Rattle.binary_stack.proofs.Counters.{IsCounter-empty}
use Rattle.binary_stack.proofs.stack.BinaryStack.new.Goals as goal

pub invariant_of-result : goal.invariant_of-result
invariant_of-result g c =
    let contents = g.B.Part.Part.contents in
    let holds : List (Option g.row.B-Part.Denot) → Type 0 =
    λ ls. IsCounter contents g.B.Item.Item.stamp g.B.Builder.SLOPE g.B.Builder.BASE (record { levels = ls; spare = 0; spent = 0 })
    × (0 ≡ weight_of ls) × (0 ≡ length (live_items contents ls)) × (0 ≤ 0) in
    let h = subst holds (sym c.new.ensures.items) (IsCounter-empty, refl, refl, omega arith) in
    (h.0, h.1, h.2, h.3, λ one. absurd (omega (arith, one)))
