use Rattle.std.proofs.Common.{◌≡◌, ◌-◌, ◌≤◌, ◌∙◌, Bool, true, false, length, refl, ap, sym, arith, ltb-false}
use mir.Val.{bool_byte}
use Rattle.part_store.specs.Shelves.{one_if}
use Rattle.log_levels.specs.Trades.{is_due}
use Rattle.log_method.proofs.Forecasting.{wanted_lowest, wanted_above, wanted_past}
use Rattle.log_method.proofs.preparing.wanted.Goals as goal

byte_is : (b : Bool) → bool_byte b ≡ one_if b
byte_is true = refl
byte_is false = refl

byte_few : (b : Bool) → bool_byte b ≤ 1
byte_few true = omega arith
byte_few false = omega arith

pub returns-then-level-eq0-clause-value : goal.returns-then-level-eq0-clause-value
returns-then-level-eq0-clause-value g c = wanted_lowest c.args.level c.args.levels.now c.if-level-eq0.true

pub returns-in-Some-clause-value : goal.returns-in-Some-clause-value
returns-in-Some-clause-value g c =
    let at = c.in-Some.ensures.lookup in
    c.from.ensures ∙ ap bool_byte c.is_due_soon.ensures ∙ byte_is (is_due 2 c.in-Some.below.now)
    ∙ sym (wanted_above c.args.level c.args.levels.now c.in-Some.below.now c.requires c.if-level-eq0.false at.3.0 at.1)

pub returns-in-Some-clause-few : goal.returns-in-Some-clause-few
returns-in-Some-clause-few g c = omega (arith, c.from.ensures, byte_few c.is_due_soon.result)

pub returns-in-None-clause-value : goal.returns-in-None-clause-value
returns-in-None-clause-value g c =
    wanted_past c.args.level c.args.levels.now c.requires c.if-level-eq0.false
    (ltb-false (c.args.level - 1) (length c.args.levels.now) (sym c.in-None.ensures.lookup.0))
