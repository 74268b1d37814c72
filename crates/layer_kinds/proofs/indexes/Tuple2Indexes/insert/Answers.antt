use Rattle.layer_kinds.specs.Memory.{KeepsAll}
use Rattle.layer_kinds.proofs.Keeping.{Each-both}
use Rattle.layer_kinds.proofs.indexes.Tuple2Indexes.insert.Goals as goal

pub returns-clause-held : goal.returns-clause-held
returns-clause-held g c =
    let first = g.A.Indexes.memory in
    let second = g.B.Indexes.memory in
    Each-both KeepsAll (first c.args.self.now.0) (first c.insert.new.self) (second c.args.self.now.1) (second c.insert-2.new.self)
    c.insert.ensures.held c.insert-2.ensures.held
