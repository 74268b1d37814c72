use Rattle.std.proofs.Common.{sym, ap, subst, slice_get}
use Rattle.builder_trait.specs.Builders.{PartProfile}
use Rattle.partial_build.specs.Construction.{Builds}
use Rattle.index_tests.proofs.constructions.built.Given.{Over}
use Rattle.index_tests.proofs.constructions.built.Goals as goal

abbrev profile : (g : Over) → PartProfile g.row.B-Item.Denot
profile g = record { stamp = g.B.Item.Item.stamp; before = g.B.Item.Item.before; slope = g.B.Builder.SLOPE; base = g.B.Builder.BASE }

pub tick-requires-2-clause-builds : goal.tick-requires-2-clause-builds
tick-requires-2-clause-builds g c =
    let b = g.B.Part.Part.contents c.in_ok-b.b in
    subst (λ p. Builds (profile g) c.note.new.self p b) (sym c.mark.ensures.marked)
    (c.note.ensures.of_a (g.B.Part.Part.contents c.in_ok-a.a) b 0 c.tick.ensures.builds
    (ap (λ p. slice_get p.items 0) c.in_ok-a.ensures) (ap (λ p. slice_get p.flags 0) c.in_ok-a.ensures))
