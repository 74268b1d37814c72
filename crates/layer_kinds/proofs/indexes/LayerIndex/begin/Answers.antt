use Rattle.std.proofs.Common.{rules, ◌≡◌, ◌≢◌, ◌∙◌, [], ap, sym, subst}
use Rattle.id_chain.specs.Chain.{HandlesDiffer}
use Rattle.layer_kinds.specs.Indexing.{Whole, Late, IsOf}
use Rattle.layer_kinds.specs.Places.{placed}
use Rattle.layer_kinds.proofs.Beginning.{begun_none, begun_some, begun_of}
use Rattle.layer_kinds.proofs.indexes.LayerIndex.begin.Goals as goal
use Rattle.layer_kinds.proofs.indexes.LayerIndex.begin.Goals.{then-is_empty, else-is_empty}

pub returns-clause-begun : goal.returns-clause-begun
returns-clause-begun g c =
    let es = c.args.chain.now.entries in
    elim c.if-is_empty.branch [
      | then-is_empty w ↦
          let none : es ≡ [] = search rules in
          ap placed w.place-is ∙ ap Whole w.new.ensures.empty ∙ sym (begun_none es none)
      | else-is_empty w ↦
          let some : es ≢ [] = search rules in
          ap placed w.place-is ∙ ap Late w.start.ensures.empty ∙ sym (begun_some es some)
    ]

pub returns-clause-of : goal.returns-clause-of
returns-clause-of g c stamps rise =
    let es = c.args.chain.now.entries in
    let differ : HandlesDiffer es = search rules in
    subst (λ q. IsOf g.B.Part.Part.contents g.B.Item.Item.stamp q es stamps) (sym (returns-clause-begun g c))
    (begun_of g.B.Part.Part.contents g.B.Item.Item.stamp es stamps rise differ c.requires.few)
