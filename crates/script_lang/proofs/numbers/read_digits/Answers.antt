use Rattle.std.proofs.Common.{◌<◌, sym, ap, ◌∙◌, arith, length}
use Rattle.std.proofs.lemmas.Bool.{eqb-false}
use Rattle.script_lang.specs.Numbers.{in_64_bits}
use Rattle.script_lang.proofs.Digits.{one_more, all_more, other_byte, all_digits}
use Rattle.script_lang.proofs.numbers.read_digits.Goals as goal

pub returns-then-not-is_ascii_digit : goal.returns-then-not-is_ascii_digit
returns-then-not-is_ascii_digit c = sym (other_byte c.args.word.now c.loop-byte.byte-index c.loop-byte-test.true (sym c.is_ascii_digit.ensures.value ∙ c.if-not-is_ascii_digit.true))

pub loop-byte-preserved : goal.loop-byte-preserved
loop-byte-preserved c =
    let word = c.args.word.now in
    let i = c.loop-byte.byte-index in
    let digit = sym c.is_ascii_digit.ensures.value ∙ c.if-not-is_ascii_digit.false in
    (all_more word i c.loop-byte-test.true c.loop-byte.invariant.0 digit, c.with_digit-value.ensures _ c.loop-byte.invariant.1 ∙ ap in_64_bits (sym (one_more word i c.loop-byte-test.true digit)))

pub returns : goal.returns
returns c =
    let some : 0 < length c.args.word.now = omega (arith, eqb-false _ _ (sym c.is_empty.ensures ∙ c.if-is_empty.false)) in
    all_digits c.args.word.now c.loop-byte.byte-index c.loop-byte.value some c.loop-byte-test.false c.loop-byte.invariant.0 c.loop-byte.invariant.1
