use Rattle.layer_kinds.specs.Memory.{KeepsAll}
use Rattle.layer_kinds.proofs.Keeping.{Each-both}
use Rattle.layer_kinds.proofs.indexes.Tuple2Indexes.delete.Goals as goal

pub returns-clause-held : goal.returns-clause-held
returns-clause-held g c =
    let first = g.A.Indexes.memory in
    let second = g.B.Indexes.memory in
    Each-both KeepsAll (first c.args.self.now.0) (first c.delete.new.self) (second c.args.self.now.1) (second c.delete-2.new.self)
    c.delete.ensures.held c.delete-2.ensures.held
