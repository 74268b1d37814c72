-- What is left of the numbers either begins with this call's, or rises after it.
use Rattle.std.proofs.Common.{◌+◌, drop, arith}
use Rattle.map_io.proofs.CallLaws.{drop-next, counts_other, counts_first, fails_other, RisesAfter-skips, RisesAfter-rest, next_is_call}
use Rattle.map_io.proofs.plan.Plan.count.Goals as goal

pub returns-then-next-number-clause-fails : goal.returns-then-next-number-clause-fails
returns-then-next-number-clause-fails c =
    let xs = c.self.inside.failing.items in
    let p = c.self.inside.passed in
    let next = drop-next p c.index-next.result.now xs (omega arith) c.index-next.ensures in
    fails_other _ _ (drop p xs) c.self.view_is (RisesAfter-skips _ _ _ _ _ next (omega arith) c.saturating_add-number.ensures c.if-next-number.true c.self.invariant.1)

pub returns-then-next-number-clause-counts : goal.returns-then-next-number-clause-counts
returns-then-next-number-clause-counts c =
    let xs = c.self.inside.failing.items in
    let p = c.self.inside.passed in
    let next = drop-next p c.index-next.result.now xs (omega arith) c.index-next.ensures in
    counts_other _ _ _ (drop p xs) c.self.view_is (RisesAfter-skips _ _ _ _ _ next (omega arith) c.saturating_add-number.ensures c.if-next-number.true c.self.invariant.1) c.saturating_add-number.ensures

pub returns-clause-counts : goal.returns-clause-counts
returns-clause-counts c =
    let xs = c.self.inside.failing.items in
    let p = c.self.inside.passed in
    let next = drop-next p c.index-next.result.now xs (omega arith) c.index-next.ensures in
    let this = next_is_call _ _ _ (drop p xs) _ next c.saturating_add-number.ensures c.if-next-number.false (omega arith) c.self.invariant.1 in
    counts_first _ _ _ (drop p xs) (drop (p + 1) xs) c.self.view_is this (RisesAfter-rest _ _ _ this c.self.invariant.1) c.saturating_add-number.ensures
