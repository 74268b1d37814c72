use Rattle.std.proofs.Common.{◌≤◌, length, sym, subst, ⊎_elim}
use Rattle.std.proofs.lemmas.Bool.{cases_lt}
use Rattle.builder_trait.specs.Builders.{PartProfile}
use Rattle.builder_trait.specs.Parts.{marked}
use Rattle.partial_build.specs.NewPart.{put_of}
use Rattle.partial_build.specs.Construction.{KeepsUp}
use Rattle.partial_build.proofs.KeepingUp.{Builds-of, Builds-seen, KeepsUp-swap, KeepsUp-noted, KeepsUp-unread}
use Rattle.partial_build.proofs.build.Build.note.Given.{Over}
use Rattle.partial_build.proofs.build.Build.note.Goals as goal

abbrev profile : (g : Over) → PartProfile g.row.B-Item.Denot
profile g = record { stamp = g.B.Item.Item.stamp; before = g.B.Item.Item.before; slope = g.B.Builder.SLOPE; base = g.B.Builder.BASE }

pub returns-clause-of_a : goal.returns-clause-of_a
returns-clause-of_a g c a b k builds at live =
    let h = Builds-of c.self.view_is builds in
    let read = (c.passed.ensures.of_a a b (put_of c.self.inside.part.contents) k h.merges at).0 c.if-not-passed.false in
    subst (λ l. KeepsUp (profile g) c.self.inside.merge c.self.inside.part.contents l
    (marked g.B.Item.Item.stamp (g.B.Item.Item.stamp c.args.item.now) a) b)
    (sym c.push_reserved.ensures.items) (KeepsUp-noted h k c.args.item.now at read live)

pub returns-clause-of_b : goal.returns-clause-of_b
returns-clause-of_b g c a b k builds at live =
    let h = Builds-of c.self.view_is builds in
    let read = (c.passed.ensures.of_b a b (put_of c.self.inside.part.contents) k h.merges at).0 c.if-not-passed.false in
    subst (λ l. KeepsUp (profile g) c.self.inside.merge c.self.inside.part.contents l a
    (marked g.B.Item.Item.stamp (g.B.Item.Item.stamp c.args.item.now) b))
    (sym c.push_reserved.ensures.items) (KeepsUp-swap (KeepsUp-noted (KeepsUp-swap h) k c.args.item.now at read live))

pub returns-then-not-passed-clause-of_a : goal.returns-then-not-passed-clause-of_a
returns-then-not-passed-clause-of_a g c a b k builds at live =
    let h = Builds-of c.self.view_is builds in
    let unread : length c.self.inside.merge.a.table ≤ k =
    ⊎_elim (λ less. let passed = (c.passed.ensures.of_a a b (put_of c.self.inside.part.contents) k h.merges at).1 less in absurd cc) (λ later. later)
    (cases_lt k (length c.self.inside.merge.a.table)) in
    Builds-seen c.self.view_is (KeepsUp-unread h k c.args.item.now at unread)

pub returns-then-not-passed-clause-of_b : goal.returns-then-not-passed-clause-of_b
returns-then-not-passed-clause-of_b g c a b k builds at live =
    let h = Builds-of c.self.view_is builds in
    let unread : length c.self.inside.merge.b.table ≤ k =
    ⊎_elim (λ less. let passed = (c.passed.ensures.of_b a b (put_of c.self.inside.part.contents) k h.merges at).1 less in absurd cc) (λ later. later)
    (cases_lt k (length c.self.inside.merge.b.table)) in
    Builds-seen c.self.view_is (KeepsUp-swap (KeepsUp-unread (KeepsUp-swap h) k c.args.item.now at unread))
