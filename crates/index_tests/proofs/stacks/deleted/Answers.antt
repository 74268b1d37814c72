use Rattle.std.proofs.Common.{◌^◌, ◌<◌, Contains, sym, subst, arith}
use Rattle.log_levels.specs.Levels.{weight_of, live_items}
use Rattle.log_method.proofs.Taking.{lent_prepared, may_tick}
use Rattle.index_tests.proofs.stacks.deleted.Goals as goal

pub delete-requires-clause-ready : goal.delete-requires-clause-ready
delete-requires-clause-ready g c =
    let p = c.prepare.ensures in
    let light : weight_of c.prepare.new.self.levels < 2 ^ 31 = omega (arith, p.same.weight, c.in_ok-stack.ensures.weight) in
    may_tick _ _ light (c.in_ok-prepare.ensures.stocked light) (lent_prepared _ _ _ _ _ p.each p.taken c.in_ok-stack.ensures.lent)

pub delete-requires-clause-live : goal.delete-requires-clause-live
delete-requires-clause-live g c =
    subst (λ xs. Contains xs c.pair.result) (sym c.prepare.ensures.same.live)
    (subst (λ x. Contains (live_items g.B.Part.Part.contents c.in_ok-stack.stack.levels) x) (sym c.pair.ensures)
    (c.in_ok-stack.ensures.first (omega arith)))
