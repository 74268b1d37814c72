use Rattle.std.proofs.Common.{arith}
use Rattle.builder_trait.specs.Parts.{in_order}
use Rattle.ordered_merge.proofs.Fronts.{IsNext-past, length-in_order}
use Rattle.ordered_merge.proofs.steps.next_item.Goals as goal

pub returns-then-i-len-clause-second : goal.returns-then-i-len-clause-second
returns-then-i-len-clause-second g c _ =
    IsNext-past c.args.j (in_order c.args.order (g.P.Part.contents c.args.b.now)) c.args.i (in_order c.args.order (g.P.Part.contents c.args.a.now))
    c.item.result c.item.ensures.value
    (omega (arith, length-in_order (g.P.Part.contents c.args.a.now) c.args.order c.len.ensures.valid))

pub returns-then-j-len-clause-first : goal.returns-then-j-len-clause-first
returns-then-j-len-clause-first g c _ =
    IsNext-past c.args.i (in_order c.args.order (g.P.Part.contents c.args.a.now)) c.args.j (in_order c.args.order (g.P.Part.contents c.args.b.now))
    c.item-from_a.result c.item-from_a.ensures.value
    (omega (arith, length-in_order (g.P.Part.contents c.args.b.now) c.args.order c.len-2.ensures.valid))
