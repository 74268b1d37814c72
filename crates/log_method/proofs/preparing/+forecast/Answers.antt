use Rattle.std.proofs.Common.{◌≡◌, ℕ, ◌+◌, ◌*◌, ◌^◌, ◌%◌, ◌<◌, ◌≤◌, ◌∙◌, length, ap, sym, subst, arith, pow_mono}
use Rattle.log_method.specs.Stack.{AreInPlace}
use Rattle.log_method.specs.Preparing.{forecast_of}
use Rattle.log_method.proofs.Forecasting.{forecast_due}
use Rattle.log_method.proofs.preparing.+forecast.Goals as goal

-- a level below 32 weighs less than fits
fits : (number above : ℕ) → number + above ≤ 32 → 0 < above → 2 * 2 ^ number % 18446744073709551616 ≡ 2 * 2 ^ number
fits number above few some =
    let low : number ≤ 31 = omega (arith, few, some) in
    let small : 2 ^ number ≤ 2 ^ 31 = pow_mono low in
    omega (arith, small)

pub returns-in_default-clause-few : goal.returns-in_default-clause-few
returns-in_default-clause-few g t c =
    let up : c.args.number + 1 ≤ 33 = omega (arith, c.requires.few) in
    let small : 2 ^ (c.args.number + 1) ≤ 2 ^ 33 = pow_mono up in
    omega (arith, small)

pub overflow_add-result : goal.overflow_add-result
overflow_add-result g t c =
    let low : c.args.number ≤ 32 = omega (arith, c.requires.few) in
    let small : 2 ^ c.args.number ≤ 2 ^ 32 = pow_mono low in
    omega (arith, c.forecast-rest.ensures.few, small)

pub returns-then-is_due_soon-clause-value : goal.returns-then-is_due_soon-clause-value
returns-then-is_due_soon-clause-value g t c =
    let split = c.in-Some.ensures.cases.0 in
    let level = (subst (AreInPlace c.args.number) split c.requires.in_place).0 in
    let whole = fits c.args.number _ c.requires.few (omega (arith, ap length split)) in
    rw whole (
    forecast_due c.in-Some.level.now c.in-Some.above.now c.args.number c.forecast-rest.result level (sym c.is_due_soon.ensures ∙ c.if-is_due_soon.true)
    c.forecast-rest.ensures.value
    ∙ ap forecast_of (sym split)
    )
