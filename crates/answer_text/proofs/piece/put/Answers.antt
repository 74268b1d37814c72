use Rattle.std.proofs.Common.{rules, ◌-◌, ◌++◌, ap, ◌∙◌, length-append}
use Rattle.answer_text.proofs.Pieces.{gathers_in_piece, cut_in_piece, err_any}
use Rattle.answer_text.proofs.piece.put.Goals as goal

pub returns-then-bytes-room-clause-gathered : goal.returns-then-bytes-room-clause-gathered
returns-then-bytes-room-clause-gathered g c = gathers_in_piece _ _ _ _ c.append.ensures (search (rules, length-append))

pub returns-in_err-finish-clause-cut_off : goal.returns-in_err-finish-clause-cut_off
returns-in_err-finish-clause-cut_off g c =
    let piece = c.args.piece.now.items in
    let filled = c.append-2.ensures ∙ ap (λ front. piece ++ front) c.split_at.ensures.front in
    err_any c.from_residual.result _ (cut_in_piece _ _ piece c.args.bytes.now _ (64 - c.len-room.result) filled c.in_err-finish.ensures.cut_off)
