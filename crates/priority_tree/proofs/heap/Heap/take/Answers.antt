use Rattle.std.proofs.Common.{◌≡◌, ◌-◌, ◌+◌, suc, ap, arith}
use Rattle.priority_tree.proofs.AtHeights.{hole-at, taken-at}
use Rattle.priority_tree.proofs.heap.Heap.take.Goals as goal

pub returns-else-height-eq0-clause-hole : goal.returns-else-height-eq0-clause-hole
returns-else-height-eq0-clause-hole g c =
    let e : c.args.height ≡ suc (c.args.height - 1) = omega arith in
    hole-at c.args.self.now c.hold.new.self c.args.height (c.args.height - 1) c.args.start (c.args.start + c.block_len.result) e
    (ap (λ n. c.args.start + n) c.block_len.ensures) c.hold.ensures.set c.requires.heap

pub returns-else-height-eq0-clause-taken : goal.returns-else-height-eq0-clause-taken
returns-else-height-eq0-clause-taken g c =
    let e : c.args.height ≡ suc (c.args.height - 1) = omega arith in
    taken-at c.args.self.now c.hold.new.self c.args.height (c.args.height - 1) c.args.start (c.args.start + c.block_len.result) e
    (ap (λ n. c.args.start + n) c.block_len.ensures) c.hold.ensures.set c.args.entry.now c.requires.head
