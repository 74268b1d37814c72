use Rattle.std.proofs.Common.{◌≡◌, ◌-◌, ◌+◌, suc, ap, arith, subst}
use Rattle.priority_tree.specs.Pulls.{IsWinner}
use Rattle.priority_tree.proofs.AtHeights.{pulled_none-at, pulled-at}
use Rattle.priority_tree.proofs.heap.Heap.pull.Goals as goal

pub returns-in_default-clause-pulled : goal.returns-in_default-clause-pulled
returns-in_default-clause-pulled g c =
    let e : c.args.height ≡ suc (c.args.height - 1) = omega arith in
    let middle = c.args.start + c.block_len.result in
    pulled_none-at c.args.self.now c.args.height (c.args.height - 1) c.args.start middle c.front-first.result c.front-second.result e
    (ap (λ n. c.args.start + n) c.block_len.ensures) c.requires.hole c.front-first.ensures.front c.front-second.ensures.front
    (subst (λ o. IsWinner c.front-first.result c.args.start c.front-second.result middle o) c.in_default.is c.winner.ensures)

pub returns-clause-pulled : goal.returns-clause-pulled
returns-clause-pulled g c =
    let e : c.args.height ≡ suc (c.args.height - 1) = omega arith in
    let middle = c.args.start + c.block_len.result in
    pulled-at c.args.self.now c.take.new.self c.hold.new.self c.args.height (c.args.height - 1) c.args.start middle c.in-Some.child c.in-Some.entry
    c.front-first.result c.front-second.result e
    (ap (λ n. c.args.start + n) c.block_len.ensures) c.requires.hole c.front-first.ensures.front c.front-second.ensures.front
    (subst (λ o. IsWinner c.front-first.result c.args.start c.front-second.result middle o) c.in-Some.is c.winner.ensures)
    c.take.ensures.hole c.take.ensures.taken c.take.ensures.same c.hold.ensures.set
