use Rattle.std.proofs.Common.{◌∙◌, length, sym, arith, ltb-false}
use Rattle.builder_trait.specs.Builders.{PartProfile}
use Rattle.log_method.proofs.Forecasting.{enough_highest, enough_light}
use Rattle.log_method.proofs.preparing.is_short.Given.{Over}
use Rattle.log_method.proofs.preparing.is_short.Goals as goal

abbrev profile : (g : Over) → PartProfile g.row.B-Item.Denot
profile g = record { stamp = g.B.Item.Item.stamp; before = g.B.Item.Item.before; slope = g.B.Builder.SLOPE; base = g.B.Builder.BASE }

pub returns-then-levels-clause-enough : goal.returns-then-levels-clause-enough
returns-then-levels-clause-enough g c quiet light =
    enough_highest c.args.levels.now c.in-Some.highest.now (sym c.in-Some.ensures.value) (sym c.is_due_soon.ensures ∙ quiet)

pub returns-else-levels-clause-enough : goal.returns-else-levels-clause-enough
returns-else-levels-clause-enough g c quiet light =
    enough_light g.B.Part.Part.contents (profile g) c.args.levels.now c.requires.levels
    (omega (arith, c.requires.few, ltb-false (length c.args.levels.now) 32 quiet)) light
