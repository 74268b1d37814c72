use Rattle.std.proofs.Common.{rules, [], ◌∷◌, ◌++◌, refl}
use Rattle.map_shapes.specs.Version.{version_of}
use Rattle.answer_text.specs.Texts.{reply_numbers, listed_ids, none_text, spaced_all, tail_text}
use Rattle.answer_text.proofs.Pieces.{gathers_both, gathers_end, prefix_second, before_two, before_three, before_four, before_five, before_last, prefix_end, ok_weaker, err_weaker, err_any}
use Rattle.answer_text.proofs.ReplyTexts.{line_appended, line_cut}
use Rattle.answer_text.proofs.writing.write_reply.Goals as goal

pub returns-in_err-put-clause-cut_off : goal.returns-in_err-put-clause-cut_off
returns-in_err-put-clause-cut_off g c =
    let r = c.args.reply.now in
    err_any c.from_residual.result _ (line_cut (version_of c.args.version) c.args.ledger r _ _ _ _ (listed_ids r) (none_text r) (tail_text c.args.ledger r) (before_five _ _ _ _ (reply_numbers (version_of c.args.version) r) (spaced_all (listed_ids r)) (none_text r) (tail_text c.args.ledger r) (10 ∷ []) c.in_err-put.ensures.cut_off) c.new-piece.ensures c.reply_word.ensures.word refl refl refl)

pub returns-in_err-put_reply_numbers-clause-cut_off : goal.returns-in_err-put_reply_numbers-clause-cut_off
returns-in_err-put_reply_numbers-clause-cut_off g c =
    let r = c.args.reply.now in
    err_any c.from_residual-in_err-put_reply_numbers.result _ (line_cut (version_of c.args.version) c.args.ledger r _ _ _ _ (listed_ids r) (none_text r) (tail_text c.args.ledger r) (before_four _ _ _ _ (spaced_all (listed_ids r)) (none_text r) (tail_text c.args.ledger r) (10 ∷ []) (prefix_second _ _ _ _ _ _ _ c.in_ok-put.ensures.gathered c.in_err-put_reply_numbers.ensures.cut_off)) c.new-piece.ensures c.reply_word.ensures.word refl refl refl)

pub returns-in_err-put_ids-clause-cut_off : goal.returns-in_err-put_ids-clause-cut_off
returns-in_err-put_ids-clause-cut_off g c =
    let r = c.args.reply.now in
    err_any c.from_residual-in_err-put_ids.result _ (line_cut (version_of c.args.version) c.args.ledger r _ _ _ _ _ (none_text r) (tail_text c.args.ledger r) (before_three _ _ _ _ (none_text r) (tail_text c.args.ledger r) (10 ∷ []) (prefix_second _ _ _ _ _ _ _ (gathers_both _ _ _ _ _ _ _ _ c.in_ok-put.ensures.gathered c.in_ok-put_reply_numbers.ensures.gathered) c.in_err-put_ids.ensures.cut_off)) c.new-piece.ensures c.reply_word.ensures.word (search rules) refl refl)

pub returns-in_err-put-2-clause-cut_off : goal.returns-in_err-put-2-clause-cut_off
returns-in_err-put-2-clause-cut_off g c =
    let r = c.args.reply.now in
    err_any c.from_residual-in_err-put-2.result _ (line_cut (version_of c.args.version) c.args.ledger r _ _ _ _ _ _ (tail_text c.args.ledger r) (before_two _ _ _ _ (tail_text c.args.ledger r) (10 ∷ []) (prefix_second _ _ _ _ _ _ _ (gathers_both _ _ _ _ _ _ _ _ (gathers_both _ _ _ _ _ _ _ _ c.in_ok-put.ensures.gathered c.in_ok-put_reply_numbers.ensures.gathered) c.in_ok-put_ids.ensures.gathered) c.in_err-put-2.ensures.cut_off)) c.new-piece.ensures c.reply_word.ensures.word (search rules) (search rules) refl)

pub returns-in_err-put_tail-clause-cut_off : goal.returns-in_err-put_tail-clause-cut_off
returns-in_err-put_tail-clause-cut_off g c =
    let r = c.args.reply.now in
    err_any c.from_residual-in_err-put_tail.result _ (line_cut (version_of c.args.version) c.args.ledger r _ _ _ _ _ _ (tail_text c.args.ledger r) (before_last _ _ _ ((((c.reply_word.result.now ++ reply_numbers (version_of c.args.version) r) ++ spaced_all _) ++ _)) (tail_text c.args.ledger r) (10 ∷ []) (prefix_second _ _ _ _ _ _ _ (gathers_both _ _ _ _ _ _ _ _ (gathers_both _ _ _ _ _ _ _ _ (gathers_both _ _ _ _ _ _ _ _ c.in_ok-put.ensures.gathered c.in_ok-put_reply_numbers.ensures.gathered) c.in_ok-put_ids.ensures.gathered) c.in_ok-put-2.ensures.gathered) c.in_err-put_tail.ensures.cut_off)) c.new-piece.ensures c.reply_word.ensures.word (search rules) (search rules) refl)

pub returns-in_err-put-3-clause-cut_off : goal.returns-in_err-put-3-clause-cut_off
returns-in_err-put-3-clause-cut_off g c =
    let r = c.args.reply.now in
    err_any c.from_residual-in_err-put-3.result _ (line_cut (version_of c.args.version) c.args.ledger r _ _ _ _ _ _ _ (prefix_second _ _ _ _ _ _ _ (gathers_both _ _ _ _ _ _ _ _ (gathers_both _ _ _ _ _ _ _ _ (gathers_both _ _ _ _ _ _ _ _ (gathers_both _ _ _ _ _ _ _ _ c.in_ok-put.ensures.gathered c.in_ok-put_reply_numbers.ensures.gathered) c.in_ok-put_ids.ensures.gathered) c.in_ok-put-2.ensures.gathered) c.in_ok-put_tail.ensures.gathered) c.in_err-put-3.ensures.cut_off) c.new-piece.ensures c.reply_word.ensures.word (search rules) (search rules) (search rules))

pub returns-clause-delivered : goal.returns-clause-delivered
returns-clause-delivered g c =
    let all = (gathers_both _ _ _ _ _ _ _ _ (gathers_both _ _ _ _ _ _ _ _ (gathers_both _ _ _ _ _ _ _ _ (gathers_both _ _ _ _ _ _ _ _ (gathers_both _ _ _ _ _ _ _ _ c.in_ok-put.ensures.gathered c.in_ok-put_reply_numbers.ensures.gathered) c.in_ok-put_ids.ensures.gathered) c.in_ok-put-2.ensures.gathered) c.in_ok-put_tail.ensures.gathered) c.in_ok-put-3.ensures.gathered) in
    ok_weaker c.finish.result _ _ (λ end. line_appended (version_of c.args.version) c.args.ledger c.args.reply.now _ _ _ _ _ _ _ (gathers_end _ _ _ _ _ _ all end) c.new-piece.ensures c.reply_word.ensures.word (search rules) (search rules) (search rules)) c.finish.ensures.delivered

pub returns-clause-cut_off : goal.returns-clause-cut_off
returns-clause-cut_off g c =
    let all = (gathers_both _ _ _ _ _ _ _ _ (gathers_both _ _ _ _ _ _ _ _ (gathers_both _ _ _ _ _ _ _ _ (gathers_both _ _ _ _ _ _ _ _ (gathers_both _ _ _ _ _ _ _ _ c.in_ok-put.ensures.gathered c.in_ok-put_reply_numbers.ensures.gathered) c.in_ok-put_ids.ensures.gathered) c.in_ok-put-2.ensures.gathered) c.in_ok-put_tail.ensures.gathered) c.in_ok-put-3.ensures.gathered) in
    err_weaker c.finish.result _ _ (λ end. line_cut (version_of c.args.version) c.args.ledger c.args.reply.now _ _ _ _ _ _ _ (prefix_end _ _ _ _ _ _ all end) c.new-piece.ensures c.reply_word.ensures.word (search rules) (search rules) (search rules)) c.finish.ensures.cut_off
