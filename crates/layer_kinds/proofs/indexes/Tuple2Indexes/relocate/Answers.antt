use Rattle.layer_kinds.specs.Memory.{KeepsAll}
use Rattle.layer_kinds.proofs.Keeping.{Each-both}
use Rattle.layer_kinds.proofs.indexes.Tuple2Indexes.relocate.Goals as goal

pub returns-clause-held : goal.returns-clause-held
returns-clause-held g c =
    let first = g.A.Indexes.memory in
    let second = g.B.Indexes.memory in
    Each-both KeepsAll (first c.args.self.now.0) (first c.relocate.new.self) (second c.args.self.now.1) (second c.relocate-2.new.self)
    c.relocate.ensures.held c.relocate-2.ensures.held
