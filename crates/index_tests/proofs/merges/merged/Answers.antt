use Rattle.std.proofs.Common.{◌≡◌, ◌+◌, ◌*◌, ◌≤◌, ◌^◌, length, ap, arith, sym, subst}
use Rattle.builder_trait.specs.Builders.{PartProfile}
use Rattle.ordered_merge.specs.Merging.{Merges}
use Rattle.ordered_merge.proofs.MergingLemmas.{Merges-marked, Merges-marked_other}
use Rattle.index_tests.proofs.merges.merged.Given.{Over}
use Rattle.index_tests.proofs.merges.merged.Goals as goal

abbrev profile : (g : Over) → PartProfile g.row.B-Item.Denot
profile g = record { stamp = g.B.Item.Item.stamp; before = g.B.Item.Item.before; slope = g.B.Builder.SLOPE; base = g.B.Builder.BASE }

pub turns-requires-clause-enough : goal.turns-requires-clause-enough
turns-requires-clause-enough g c =
    omega (
      arith,
      ap (λ m. m.left) c.begin.ensures.left,
      ap (λ p. length p.items) c.in_ok-a.ensures,
      ap (λ p. length p.items) c.in_ok-b.ensures,
    )

pub turns-requires-clause-merges : goal.turns-requires-clause-merges
turns-requires-clause-merges g c =
    let a = g.B.Part.Part.contents c.in_ok-a.a in
    let b = g.B.Part.Part.contents c.in_ok-b.b in
    let few : length a.items + length b.items ≤ 2 ^ 2 = omega (arith, ap (λ p. length p.items) c.in_ok-a.ensures, ap (λ p. length p.items) c.in_ok-b.ensures) in
    subst (λ p. Merges (profile g) c.begin.new.self a b p) (sym c.in_ok-builder.ensures) (c.begin.ensures.merges 2 few)

pub run-done-requires : goal.run-done-requires
run-done-requires g c =
    let contents = g.B.Part.Part.contents in
    let builder = g.B.Builder.progress c.turns.new.builder in
    let first = subst (λ p. Merges (profile g) c.turns.new.self p (contents c.in_ok-b.b) builder) (sym c.mark.ensures.marked)
    (Merges-marked c.turns.ensures.merges (g.B.Item.Item.stamp c.args.first)) in
    subst (λ p. Merges (profile g) c.turns.new.self (contents c.mark.new.self) p builder) (sym c.mark-2.ensures.marked)
    (Merges-marked_other first (g.B.Item.Item.stamp c.args.fourth))
