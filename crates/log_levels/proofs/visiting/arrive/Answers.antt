use Rattle.std.proofs.Common.{◌∷◌, sym, subst, ap, arith}
use Rattle.builder_trait.specs.Builders.{PartProfile}
use Rattle.log_levels.specs.Level.{IsOfLevel}
use Rattle.log_levels.specs.Towers.{AreAllLevels, Arrives}
use Rattle.log_levels.specs.Trades.{IsQuiet}
use Rattle.log_levels.proofs.Publishing.{none_of}
use Rattle.log_levels.proofs.Towers.{place, at_once}
use Rattle.log_levels.proofs.visiting.arrive.Given.{Over}
use Rattle.log_levels.proofs.visiting.arrive.Goals as goal

abbrev profile : (g : Over) → PartProfile g.row.B-Item.Denot
profile g = record { stamp = g.B.Item.Item.stamp; before = g.B.Item.Item.before; slope = g.B.Builder.SLOPE; base = g.B.Builder.BASE }

pub arrive-requires : goal.arrive-requires
arrive-requires g c =
    let contents = g.B.Part.Part.contents in
    let lowest = c.in-Some.lowest.now in
    let above = c.in-Some._above.now in
    let h : AreAllLevels contents (profile g) (lowest ∷ above) = subst (AreAllLevels contents (profile g)) c.in-Some.ensures.cases.0 c.requires.levels in
    record {
      place = place contents (profile g) lowest above h.2 (sym (at_once contents (profile g) lowest above h));
      of_level = subst (λ k. IsOfLevel k (contents c.args.part)) (sym h.0) c.requires.of_level;
    }

pub unreachable-requires : goal.unreachable-requires
unreachable-requires g c = subst (IsQuiet 1) (none_of c.args.levels.now (omega (arith, c.in-None.ensures.cases))) c.requires.quiet

pub returns : goal.returns
returns g c =
    subst (λ ls. Arrives c.args.part ls (c.arrive.new.self ∷ c.in-Some._above.now)) (sym c.in-Some.ensures.cases.0)
    (ap (λ l. l ∷ c.in-Some._above.now) c.arrive.ensures)
