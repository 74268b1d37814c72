use Rattle.std.proofs.Common.{◌++◌, List}
use Rattle.builder_trait.specs.Parts.{Contents}
use Rattle.layer_kinds.specs.Indexing.{Placed}
use Rattle.layer_kinds.specs.Memory.{Memory, memories_of}
use Rattle.map_shapes.specs.declared.point.Point.{Point}
use Rattle.map_indexes.specs.declared.indexes.points.PointIndexes.{PointIndexes}
use Rattle.map_indexes.proofs.Begun.{IsPut, adds_memory, one_more_last}
use Rattle.map_indexes.proofs.indexes.points.PointIndexesOverPoints.add_index.Goals as goal

pub returns-in-Top-clause-kept : goal.returns-in-Top-clause-kept
returns-in-Top-clause-kept c =
    let old = c.args.layer.now in
    let new = c.add_index-in-Top.new.layer in
    let e = c.add_index-in-Top.ensures in
    let r = c.add_index-in-Top.result in
    let a = old.indexes.indexes.0 in
    let b = old.indexes.indexes.1.0 in
    let d = old.indexes.indexes.1.1 in
    let put = λ (q : Placed (Contents Point) Point) (s : PointIndexes). record s { indexes = (s.indexes.0, (s.indexes.1.0, q)) } in
    let memory = λ (s : PointIndexes).
    memories_of (λ (p : Contents Point). p) s.indexes.0 ++ (memories_of (λ (p : Contents Point). p) s.indexes.1.0 ++ memories_of (λ (p : Contents Point). p) s.indexes.1.1) in
    let h : IsPut old new d put r = record { refused = e.refused; put_in = e.begun; kept = e.kept } in
    adds_memory old new d put memory (λ none. one_more_last (λ p. p) d old.entries (memories_of (λ p. p) a) (memories_of (λ p. p) b) none) r h
