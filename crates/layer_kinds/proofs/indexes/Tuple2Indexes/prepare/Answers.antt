use Rattle.layer_kinds.specs.Memory.{IsReadied}
use Rattle.layer_kinds.proofs.Keeping.{Each-same, Each-both, IsReadied-same}
use Rattle.layer_kinds.proofs.indexes.Tuple2Indexes.prepare.Goals as goal

pub returns-in_err-prepare-clause-kept : goal.returns-in_err-prepare-clause-kept
returns-in_err-prepare-clause-kept g c =
    let first = g.A.Indexes.memory in
    let second = g.B.Indexes.memory c.args.self.now.1 in
    Each-both IsReadied (first c.args.self.now.0) (first c.prepare.new.self) second second c.prepare.ensures.kept (Each-same IsReadied IsReadied-same second)

pub returns-clause-kept : goal.returns-clause-kept
returns-clause-kept g c =
    let first = g.A.Indexes.memory in
    let second = g.B.Indexes.memory in
    Each-both IsReadied (first c.args.self.now.0) (first c.prepare.new.self) (second c.args.self.now.1) (second c.prepare-2.new.self)
    c.prepare.ensures.kept c.prepare-2.ensures.kept
