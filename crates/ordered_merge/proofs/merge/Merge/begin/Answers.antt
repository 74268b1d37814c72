use Rattle.std.proofs.Common.{◌+◌, ◌*◌, arith, ◌∙◌, ap}
use Rattle.ordered_merge.specs.Merging.{Merging, unbegun}
use Rattle.ordered_merge.proofs.MergingLemmas.{Merges-of, Merges-begun}
use Rattle.ordered_merge.proofs.merge.Merge.begin.Goals as goal

pub overflow_add-self : goal.overflow_add-self
overflow_add-self g c = omega (arith, ap (λ m. m.capacity) c.self.view_is)

pub overflow_mul-self : goal.overflow_mul-self
overflow_mul-self g c = omega (arith, ap (λ m. m.capacity) c.self.view_is)

pub returns-clause-merges : goal.returns-clause-merges
returns-clause-merges g c level room =
    let a = g.B.Part.Part.contents c.args.a.now in
    let b = g.B.Part.Part.contents c.args.b.now in
    let cap = c.args.self.now.capacity in
    Merges-of
    (ap (λ (m : Merging g.row.B-Item.Denot). record m { left = 2 * (c.len.result + c.len-2.result) }) (c.self.view_is ∙ c.requires.unbegun)
    ∙ ap (λ n. record (unbegun cap) { left = 2 * n }) (omega (arith, c.len.ensures.value, c.len-2.ensures.value)))
    (Merges-begun {profile = record { stamp = g.B.Item.Item.stamp; before = g.B.Item.Item.before; slope = g.B.Builder.SLOPE; base = g.B.Builder.BASE }} a b cap level
    (record { fits = c.requires.fits; other_fits = c.requires.other_fits; room = room; stamps_differ = c.requires.stamps }))
