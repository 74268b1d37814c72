use Rattle.answer_text.specs.declared.texts.Number.TheVariants.{Plain}
use Rattle.answer_text.specs.Texts.{spaced_number}
use Rattle.answer_text.proofs.Pieces.{gathers_none, gathers_more, prefix_second, prefix_of_texts, err_any}
use Rattle.answer_text.proofs.writing.put_numbers.Goals as goal

pub returns-in_err-put_number-clause-cut_off : goal.returns-in_err-put_number-clause-cut_off
returns-in_err-put_number-clause-cut_off g c =
    err_any c.from_residual.result _
    (prefix_of_texts _ _ c.args.piece.now.items spaced_number c.args.numbers.now c.loop-number.number-index (Plain 0) c.loop-number-test.true
    (prefix_second _ _ _ _ _ _ _ c.loop-number.invariant c.in_err-put_number.ensures.cut_off))

pub loop-number-preserved : goal.loop-number-preserved
loop-number-preserved g c =
    gathers_more _ _ _ _ _ _ spaced_number c.args.numbers.now c.loop-number.number-index (Plain 0) c.loop-number-test.true c.loop-number.invariant c.in_ok-put_number.ensures.gathered

pub loop-number-init : goal.loop-number-init
loop-number-init g c = gathers_none _ _ c.requires
