use Rattle.kd_tree.proofs.leaves.with_live.Goals as goal

pub returns-then-live-clause-least : goal.returns-then-live-clause-least
returns-then-live-clause-least c all inside has = c.with.ensures.least all inside (has c.if-live.true)
