use Rattle.std.proofs.Common.{◌++◌, codes, decimal}
use Rattle.map_model.specs.Cost.{out_of}
use Rattle.answer_text.proofs.Pieces.{gathers_both, prefix_first, prefix_second, ok_weaker, err_weaker, err_any}
use Rattle.answer_text.proofs.writing.put_turns.Goals as goal

pub returns-in_err-put_labelled-clause-cut_off : goal.returns-in_err-put_labelled-clause-cut_off
returns-in_err-put_labelled-clause-cut_off g c =
    let s = c.args.spent in
    err_any c.from_residual.result _ (prefix_first _ _ c.args.piece.now.items (codes " turns " ++ decimal s.turns) (codes " total" ++ out_of s.total s.turn_bound) c.in_err-put_labelled.ensures.cut_off)

pub returns-clause-gathered : goal.returns-clause-gathered
returns-clause-gathered g c = ok_weaker c.put_out_of.result _ _ (gathers_both _ _ _ _ _ _ _ _ c.in_ok-put_labelled.ensures.gathered) c.put_out_of.ensures.gathered

pub returns-clause-cut_off : goal.returns-clause-cut_off
returns-clause-cut_off g c = err_weaker c.put_out_of.result _ _ (prefix_second _ _ _ _ _ _ _ c.in_ok-put_labelled.ensures.gathered) c.put_out_of.ensures.cut_off
