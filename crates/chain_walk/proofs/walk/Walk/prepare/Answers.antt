use Rattle.std.proofs.Common.{subst}
use Rattle.chain_walk.specs.Memory.{LendsFew}
use Rattle.chain_walk.proofs.Lending.{lends-prepared}
use Rattle.chain_walk.proofs.walk.Walk.prepare.Goals as goal

pub returns-clause-memory : goal.returns-clause-memory
returns-clause-memory g c =
    let e = c.prepare.ensures in
    subst (λ r. LendsFew r.stack.levels c.args.store.now c.prepare.new.self.levels c.prepare.new.store) c.self.view_is (lends-prepared e.each e.taken e.has_few)
