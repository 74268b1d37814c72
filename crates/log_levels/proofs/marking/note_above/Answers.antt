use Rattle.std.proofs.Common.{◌≡◌, ◌∙◌, List, ◌∷◌, refl, sym, ap, subst, arith}
use Rattle.query_laws.specs.declared.item.Order.TheVariants.{First}
use Rattle.builder_trait.specs.Builders.{PartProfile}
use Rattle.log_levels.specs.Slots.{Slots}
use Rattle.log_levels.specs.Neighbours.{IsConstructionOf}
use Rattle.log_levels.specs.Marking.{AreNoted, read_into}
use Rattle.log_levels.proofs.Publishing.{none_of}
use Rattle.log_levels.proofs.MarkedLevels.{AreNoted-refl}
use Rattle.log_levels.proofs.marking.note_above.Given.{Over}
use Rattle.log_levels.proofs.marking.note_above.Goals as goal

abbrev profile : (g : Over) → PartProfile g.row.B-Item.Denot
profile g = record { stamp = g.B.Item.Item.stamp; before = g.B.Item.Item.before; slope = g.B.Builder.SLOPE; base = g.B.Builder.BASE }

-- two levels that were read of the same list
read_twice : {P Item : Type 0} {levels : List (Slots P Item)} {next l next' l' : Slots P Item} {above rest : List (Slots P Item)}
    (Q : Slots P Item → Slots P Item → Type 0) → levels ≡ next ∷ above → levels ≡ l ∷ rest → next' ∷ above ≡ l' ∷ rest → Q next next' → Q l l'
read_twice {P} {Item} {levels} {next} {l} {next'} {l'} {above} {rest} Q split was is h =
    let whole : next ∷ above ≡ l ∷ rest = sym split ∙ was in
    let from : next ≡ l = cc in
    let to : next' ≡ l' = cc in
    subst (Q l) to (subst (λ v. Q v next') from h)

pub note-requires : goal.note-requires
note-requires g c =
    let h = c.requires.early c.in-Some.next.now c.in-Some._above.now c.in-Some.ensures.cases.0 in
    record { early = h.0; punctual = h.1 }

pub returns-then-place-ge2-clause-noted : goal.returns-then-place-ge2-clause-noted
returns-then-place-ge2-clause-noted g c = AreNoted-refl c.args.above.now

pub returns-in-None-clause-noted : goal.returns-in-None-clause-noted
returns-in-None-clause-noted g c = AreNoted-refl c.args.above.now

pub returns-in-None-clause-waiting : goal.returns-in-None-clause-waiting
returns-in-None-clause-waiting g c read =
    let none = none_of c.args.above.now (omega (arith, c.in-None.ensures.cases)) in
    omega (arith, ap (read_into (g.B.Item.Item.before First) c.args.item.now) none)

pub returns-in-Some-clause-noted : goal.returns-in-Some-clause-noted
returns-in-Some-clause-noted g c =
    subst (λ ls. AreNoted ls (c.note.new.self ∷ c.in-Some._above.now)) (sym c.in-Some.ensures.cases.0)
    (c.note.new.self, refl, c.note.ensures.same, c.note.ensures.work)

pub returns-in-Some-clause-of_a : goal.returns-in-Some-clause-of_a
returns-in-Some-clause-of_a g c early l l' rest was is a b new live same =
    let built = IsConstructionOf g.B.Part.Part.contents (profile g) in
    read_twice (λ v v'. built a b v → built new b v') c.in-Some.ensures.cases.0 was is (c.note.ensures.of_a a b new live same)

pub returns-in-Some-clause-of_b : goal.returns-in-Some-clause-of_b
returns-in-Some-clause-of_b g c early l l' rest was is a b new live same =
    let built = IsConstructionOf g.B.Part.Part.contents (profile g) in
    read_twice (λ v v'. built a b v → built a new v') c.in-Some.ensures.cases.0 was is (c.note.ensures.of_b a b new live same)
