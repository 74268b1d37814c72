use Rattle.std.proofs.Common.{◌≡◌, ◌-◌, ◌+◌, suc, ap, arith}
use Rattle.priority_tree.proofs.AtHeights.{front-at, head-at, place_there}
use Rattle.priority_tree.proofs.heap.Heap.front.Goals as goal

pub held-requires : goal.held-requires
held-requires g c =
    let e : c.args.height ≡ suc (c.args.height - 1) = omega arith in
    place_there c.args.self.now c.args.height (c.args.height - 1) c.args.start (c.args.start + c.block_len.result) e (ap (λ n. c.args.start + n) c.block_len.ensures) c.requires.block

pub returns-else-height-eq0-clause-front : goal.returns-else-height-eq0-clause-front
returns-else-height-eq0-clause-front g c =
    let e : c.args.height ≡ suc (c.args.height - 1) = omega arith in
    front-at c.args.self.now c.args.height (c.args.height - 1) c.args.start (c.args.start + c.block_len.result) c.held.result e (ap (λ n. c.args.start + n) c.block_len.ensures)
    c.held.ensures.value c.requires.heap

pub returns-else-height-eq0-clause-head : goal.returns-else-height-eq0-clause-head
returns-else-height-eq0-clause-head g c =
    let e : c.args.height ≡ suc (c.args.height - 1) = omega arith in
    head-at c.args.self.now c.args.height (c.args.height - 1) c.args.start (c.args.start + c.block_len.result) c.held.result e (ap (λ n. c.args.start + n) c.block_len.ensures)
    c.held.ensures.value
