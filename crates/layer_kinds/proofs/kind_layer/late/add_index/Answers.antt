use Rattle.std.proofs.Common.{rules, ◌≡◌, ◌∙◌, length, ap, sym, subst, arith}
use Rattle.id_chain.specs.Chain.{HandlesDiffer}
use Rattle.id_chain.specs.StampsRise.{StampsRise}
use Rattle.layer_kinds.specs.Indexing.{begun}
use Rattle.layer_kinds.proofs.Beginning.{begun_of}
use Rattle.layer_kinds.proofs.kind_layer.late.add_index.Goals as goal

pub invariant_of-layer : goal.invariant_of-layer
invariant_of-layer g c =
    let l = c.layer.inside in
    let es = l.directory.entries in
    let adds = l.directory.adds in
    let stamp = g.R.Item.Item.stamp in
    let same : c.chain.result.now.entries ≡ es = search rules in
    let differ : HandlesDiffer es = c.chain.ensures.handles_differ in
    let rise : StampsRise stamp 0 es adds = search rules in
    let of = g.met.X.MayBeLate.are_with (begun es) l.indexes es adds c.layer.invariant.1
    (begun_of (λ part. part) stamp es adds rise differ (omega (arith, c.layer.invariant.2, c.layer.invariant.3))) in
    let is : c.begin.new.self ≡ g.X.MayBeLate.with_index (begun es) l.indexes = c.begin.ensures ∙ ap (λ xs. g.X.MayBeLate.with_index (begun xs) l.indexes) same in (
      c.layer.invariant.0,
      subst (λ s. g.X.Indexes.are_of s es adds) (sym is) of,
      c.layer.invariant.2,
      c.layer.invariant.3,
      omega (arith, c.layer.invariant.4, ap (λ s. length (g.X.Indexes.rates s)) is, g.met.X.MayBeLate.as_many (begun es) l.indexes),
    )
