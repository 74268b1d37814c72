use Rattle.std.proofs.Common.{◌≡◌, ◌∙◌, Bool, true, false, length, refl, ap, sym, subst, arith, ltb-false}
use mir.Val.{bool_byte}
use Rattle.std.specs.Option.{is_some}
use Rattle.part_store.specs.Shelves.{one_if}
use Rattle.builder_trait.specs.Builders.{PartProfile}
use Rattle.log_levels.specs.Trades.{used_at}
use Rattle.log_method.specs.Few.{HaveFew}
use Rattle.log_method.specs.Stack.{AreInPlace}
use Rattle.log_method.proofs.Forecasting.{in_place}
use Rattle.log_method.proofs.Fewness.{used_there, used_past, have_few}
use Rattle.log_method.proofs.stack.Stack.used.Given.{Over}
use Rattle.log_method.proofs.stack.Stack.used.Goals as goal

abbrev profile : (g : Over) → PartProfile g.row.B-Item.Denot
profile g = record { stamp = g.B.Item.Item.stamp; before = g.B.Item.Item.before; slope = g.B.Builder.SLOPE; base = g.B.Builder.BASE }

byte_is : (b : Bool) → bool_byte b ≡ one_if b
byte_is true = refl
byte_is false = refl

pub returns-in-Some-clause-value : goal.returns-in-Some-clause-value
returns-in-Some-clause-value g c =
    let k = c.args.level in
    let levels = c.deref.result.now in
    let found = c.in-Some.ensures.lookup in
    let places = subst (AreInPlace 0) (sym c.deref.ensures.value)
    (in_place g.B.Part.Part.contents (profile g) c.self.inside.levels.items c.self.invariant.0.levels) in
    omega (
      arith,
      used_there 0 k k levels c.in-Some.at.now places found.3.0 found.1 (omega arith),
      ap (used_at k) c.deref.ensures.value,
      ap (λ s. used_at k s.levels) c.self.view_is,
      ap length c.parts.ensures.value,
      c.from.ensures ∙ ap bool_byte c.is_building.ensures ∙ byte_is (is_some c.in-Some.at.now.construction),
    )

pub returns-in-None-clause-value : goal.returns-in-None-clause-value
returns-in-None-clause-value g c =
    let k = c.args.level in
    let levels = c.deref.result.now in
    let places = subst (AreInPlace 0) (sym c.deref.ensures.value)
    (in_place g.B.Part.Part.contents (profile g) c.self.inside.levels.items c.self.invariant.0.levels) in
    omega (
      arith,
      used_past 0 k levels places (omega (arith, ltb-false k (length levels) (sym c.in-None.ensures.lookup.0))),
      ap (used_at k) c.deref.ensures.value,
      ap (λ s. used_at k s.levels) c.self.view_is,
    )

pub returns-in-Some-clause-has_few : goal.returns-in-Some-clause-has_few
returns-in-Some-clause-has_few g c =
    subst (λ s. HaveFew s.levels) c.self.view_is (have_few g.B.Part.Part.contents (profile g) c.self.inside.levels.items c.self.invariant.0.levels)

pub returns-in-None-clause-has_few : goal.returns-in-None-clause-has_few
returns-in-None-clause-has_few g c =
    subst (λ s. HaveFew s.levels) c.self.view_is (have_few g.B.Part.Part.contents (profile g) c.self.inside.levels.items c.self.invariant.0.levels)
