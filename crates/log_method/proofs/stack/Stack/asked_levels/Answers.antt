use Rattle.std.proofs.Common.{◌≤◌, ap, subst, arith}
use Rattle.builder_trait.specs.Builders.{PartProfile}
use Rattle.log_levels.specs.Levels.{parts_of}
use Rattle.log_method.specs.Height.{HaveFewParts}
use Rattle.log_method.proofs.FewParts.{parts-few}
use Rattle.log_method.proofs.Stacks.{size-all}
use Rattle.log_method.proofs.stack.Stack.asked_levels.Given.{Over}
use Rattle.log_method.proofs.stack.Stack.asked_levels.Goals as goal

abbrev profile : (g : Over) → PartProfile g.row.B-Item.Denot
profile g = record { stamp = g.B.Item.Item.stamp; before = g.B.Item.Item.before; slope = g.B.Builder.SLOPE; base = g.B.Builder.BASE }

pub returns-clause-room : goal.returns-clause-room
returns-clause-room g c =
    let levels = c.self.inside.levels.items in
    let few : parts_of levels ≤ 96 =
    parts-few g.B.Part.Part.contents (profile g) levels c.self.invariant.0.levels 31 (omega (arith, c.self.invariant.0.light)) in
    omega (arith, few, ap parts_of c.deref.ensures.value)

pub returns-clause-few : goal.returns-clause-few
returns-clause-few g c =
    let contents = g.B.Part.Part.contents in
    let levels = c.self.inside.levels.items in
    subst (λ s. HaveFewParts contents s.levels) c.self.view_is (record {
      parts = parts-few contents (profile g) levels c.self.invariant.0.levels;
      items = omega (arith, size-all contents levels, c.self.invariant.0.small);
    })
