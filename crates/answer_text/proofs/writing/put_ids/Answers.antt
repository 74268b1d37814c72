use Rattle.map_model.specs.Reply.{spaced}
use Rattle.answer_text.proofs.Pieces.{gathers_none, gathers_more, prefix_second, prefix_of_texts, err_any}
use Rattle.answer_text.proofs.writing.put_ids.Goals as goal

pub returns-in_err-put_number-clause-cut_off : goal.returns-in_err-put_number-clause-cut_off
returns-in_err-put_number-clause-cut_off g c =
    err_any c.from_residual.result _
    (prefix_of_texts _ _ c.args.piece.now.items spaced c.args.ids.now c.loop-id.id-index 0 c.loop-id-test.true
    (prefix_second _ _ _ _ _ _ _ c.loop-id.invariant c.in_err-put_number.ensures.cut_off))

pub loop-id-preserved : goal.loop-id-preserved
loop-id-preserved g c =
    gathers_more _ _ _ _ _ _ spaced c.args.ids.now c.loop-id.id-index 0 c.loop-id-test.true c.loop-id.invariant c.in_ok-put_number.ensures.gathered

pub loop-id-init : goal.loop-id-init
loop-id-init g c = gathers_none _ _ c.requires
