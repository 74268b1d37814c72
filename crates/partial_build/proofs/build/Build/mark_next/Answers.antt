use Rattle.std.proofs.Common.{◌≡◌, ◌*◌, ◌-◌, ◌∙◌, refl, ap, sym, subst, arith, length}
use Rattle.std.proofs.lemmas.List.{length_push}
use Rattle.query_laws.specs.StepLedger.{Spends}
use Rattle.builder_trait.specs.Builders.{PartProfile}
use Rattle.partial_build.specs.Construction.{KeepsUp, IsUnderConstruction}
use Rattle.builder_trait.specs.Parts.{marked, live_of}
use Rattle.partial_build.proofs.Stamps.{length-fallen}
use Rattle.partial_build.proofs.Clock.{IsUnderConstruction-marked}
use Rattle.partial_build.proofs.KeepingUp.{Builds-of, KeepsUp-marked, OwnsStamp-waiting, few_items}
use Rattle.partial_build.proofs.build.Build.mark_next.Given.{Over}
use Rattle.partial_build.proofs.build.Build.mark_next.Goals as goal

abbrev profile : (g : Over) → PartProfile g.row.B-Item.Denot
profile g = record { stamp = g.B.Item.Item.stamp; before = g.B.Item.Item.before; slope = g.B.Builder.SLOPE; base = g.B.Builder.BASE }

pub mark-requires-clause-owner : goal.mark-requires-clause-owner
mark-requires-clause-owner g c =
    let h = Builds-of c.self.view_is c.requires.some.2 in
    OwnsStamp-waiting c.pop.new.self.items c.in-Some.item
    (subst (λ l. KeepsUp (profile g) c.self.inside.merge c.self.inside.part.contents l c.requires.some.0 c.requires.some.1)
    c.in-Some.ensures.items h)

pub returns-in-Some-clause-builds : goal.returns-in-Some-clause-builds
returns-in-Some-clause-builds g c a b builds =
    let h = subst (λ l. KeepsUp (profile g) c.self.inside.merge c.self.inside.part.contents l a b) c.in-Some.ensures.items
    (Builds-of c.self.view_is builds) in
    subst (λ p. KeepsUp (profile g) c.self.inside.merge p.contents c.pop.new.self.items a b) (sym c.mark.ensures.marked)
    (KeepsUp-marked c.pop.new.self.items c.in-Some.item h (ap (λ p. live_of p.contents) (sym c.mark.ensures.marked) ∙ c.mark.ensures.live))

pub returns-in-Some-clause-marks : goal.returns-in-Some-clause-marks
returns-in-Some-clause-marks g c =
    let few = few_items (Builds-of c.self.view_is c.requires.some.2) c.self.invariant.at_level in
    omega (
      arith,
      (c.mark.ensures.cost c.self.inside.level few).marks_spent,
      ap (λ v. length v.waiting) c.self.view_is,
      ap length c.in-Some.ensures.items,
      length_push c.pop.new.self.items c.in-Some.item,
    )

pub returns-in-Some-clause-drained : goal.returns-in-Some-clause-drained
returns-in-Some-clause-drained g c =
    let few = few_items (Builds-of c.self.view_is c.requires.some.2) c.self.invariant.at_level in
    omega (
      arith,
      (c.mark.ensures.cost c.self.inside.level few).marks_spent,
      ap (λ v. length v.waiting) c.self.view_is,
      ap length c.in-Some.ensures.items,
      length_push c.pop.new.self.items c.in-Some.item,
    )

pub returns-in-Some-clause-cost : goal.returns-in-Some-clause-cost
returns-in-Some-clause-cost g c =
    let level = c.args.self.now.level in
    let few = few_items (Builds-of c.self.view_is c.requires.some.2) (c.self.invariant.at_level ∙ ap (λ v. v.level) c.self.view_is) in
    let cost = c.mark.ensures.cost level few in
    let one : c.mark.new.steps.marks - c.args.steps.now.marks ≡ 1 = omega (arith, cost.marks_spent) in
    let touches = g.B.Part.Part.mark_touches level in
    let same : touches ≡ 1 * touches = omega arith in
    subst (λ n. Spends c.args.steps.now c.mark.new.steps 0 n (n * touches)) (sym one)
    (subst (λ t. Spends c.args.steps.now c.mark.new.steps 0 1 t) same cost)

pub invariant_of-self : goal.invariant_of-self
invariant_of-self g c =
    let h = c.self.invariant in
    let dead = g.B.Item.Item.stamp c.in-Some.item in
    let part = c.self.inside.part.contents in
    subst (λ n. IsUnderConstruction (profile g) n (record {
      level = c.self.inside.level;
      ticks = c.self.inside.ticks;
      merge = c.self.inside.merge;
      part = c.mark.new.self;
      waiting = c.pop.new.self.items;
    })) (sym c.pop.ensures.capacity)
    (IsUnderConstruction-marked h (ap (λ v. v.part.is_built) c.self.view_is ∙ c.requires.built) (marked g.B.Item.Item.stamp dead part) c.mark.new.self
    c.pop.new.self.items c.mark.ensures.marked refl (length-fallen g.B.Item.Item.stamp dead part.items part.flags h.flagged)
    (omega (arith, ap length c.in-Some.ensures.items, length_push c.pop.new.self.items c.in-Some.item)))
