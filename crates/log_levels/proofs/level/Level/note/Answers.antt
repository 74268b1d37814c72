use Rattle.std.proofs.Common.{◌≡◌, ◌+◌, ◌∙◌, Bool, true, false, if◌then◌else◌, Option, Some, List, [], ◌∷◌, ◌++◌, length, ap, sym, subst, arith}
use Rattle.std.specs.Option.{option_map, option_map_or}
use Rattle.std.proofs.lemmas.List.{length_push}
use Rattle.query_laws.specs.declared.item.Order.TheVariants.{First}
use Rattle.builder_trait.specs.Builders.{PartProfile}
use Rattle.ordered_merge.specs.Merging.{is_passed}
use Rattle.partial_build.specs.Construction.{Construction, Builds}
use Rattle.part_store.specs.Shelves.{one_if}
use Rattle.log_levels.proofs.Held.{IsLevel-building}
use Rattle.log_levels.proofs.level.Level.note.Given.{Over}
use Rattle.log_levels.proofs.level.Level.note.Goals as goal

abbrev profile : (g : Over) → PartProfile g.row.B-Item.Denot
profile g = record { stamp = g.B.Item.Item.stamp; before = g.B.Item.Item.before; slope = g.B.Builder.SLOPE; base = g.B.Builder.BASE }

-- an item more waits, or none
pushed : {Item : Type 0} (b : Bool) (waiting : List Item) (x : Item) → length (if b then waiting ++ x ∷ [] else waiting) ≡ length waiting + one_if b
pushed true waiting x = omega (arith, length_push waiting x)
pushed false waiting x = omega arith

pub returns-clause-waiting : goal.returns-clause-waiting
returns-clause-waiting g c =
    let before = g.B.Item.Item.before First in
    let x = c.args.item.now in
    let build = c.in-Some.construction in
    let was : c.args.self.now.construction ≡ Some build = sym (ap (λ v. v.construction) c.self.view_is) ∙ c.in-Some.is in
    ap (λ v. length v.waiting) c.note.ensures.noted ∙ pushed (is_passed before build.merge.reached x) build.waiting x
    ∙ sym (ap (λ (o : Option (Construction g.row.B-Item.Denot)). option_map_or (λ v. length v.waiting) o 0
    + option_map_or (λ v. one_if (is_passed before v.merge.reached x)) o 0) was)

pub returns-clause-work : goal.returns-clause-work
returns-clause-work g c =
    let was : c.args.self.now.construction ≡ Some c.in-Some.construction = sym (ap (λ v. v.construction) c.self.view_is) ∙ c.in-Some.is in
    ap (λ (v : Construction g.row.B-Item.Denot). Some (record v { waiting = [] })) c.note.ensures.noted
    ∙ sym (ap (option_map (λ (v : Construction g.row.B-Item.Denot). record v { waiting = [] })) was)

pub invariant_of-self-2 : goal.invariant_of-self-2
invariant_of-self-2 g c =
    IsLevel-building c.self.invariant c.note.new.self (ap (λ v. v.level) c.note.ensures.noted ∙ c.self.invariant.builds c.in-Some.construction c.in-Some.is)

pub returns-clause-of_a : goal.returns-clause-of_a
returns-clause-of_a g c a b new live same old c' is =
    let contents = g.B.Part.Part.contents in
    let built = Builds (profile g) in
    let was : c.args.self.now.construction ≡ Some c.in-Some.construction = sym (ap (λ v. v.construction) c.self.view_is) ∙ c.in-Some.is in
    let e : c.note.new.self ≡ c' = cc in
    subst (λ d. built d (contents new) (contents b)) e
    (subst (λ p. built c.note.new.self p (contents b)) (sym same)
    (c.note.ensures.of_a (contents a) (contents b) live.0 (old c.in-Some.construction was) live.1 live.2))

pub returns-clause-of_b : goal.returns-clause-of_b
returns-clause-of_b g c a b new live same old c' is =
    let contents = g.B.Part.Part.contents in
    let built = Builds (profile g) in
    let was : c.args.self.now.construction ≡ Some c.in-Some.construction = sym (ap (λ v. v.construction) c.self.view_is) ∙ c.in-Some.is in
    let e : c.note.new.self ≡ c' = cc in
    subst (λ d. built d (contents a) (contents new)) e
    (subst (λ p. built c.note.new.self (contents a) p) (sym same)
    (c.note.ensures.of_b (contents a) (contents b) live.0 (old c.in-Some.construction was) live.1 live.2))
