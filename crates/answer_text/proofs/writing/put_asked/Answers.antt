use Rattle.std.proofs.Common.{◌≡◌, ℕ, List, ◌++◌, codes, decimal, subst}
use Rattle.map_model.specs.Cost.{out_of}
use Rattle.answer_text.specs.Pieces.{CutOffInPieces, Gathers}
use Rattle.answer_text.proofs.Pieces.{gathers_both, prefix_first, prefix_second, ok_weaker, err_weaker, err_any}
use Rattle.answer_text.proofs.writing.put_asked.Goals as goal

-- the two texts of a question's cost
parts_text : ℕ → ℕ → List ℕ
parts_text parts bound = codes " parts" ++ out_of parts bound

touches_text : ℕ → List ℕ
touches_text touches = codes " touches " ++ decimal touches

pub returns-in_err-put_out_of-clause-cut_off : goal.returns-in_err-put_out_of-clause-cut_off
unfolding parts_text touches_text
returns-in_err-put_out_of-clause-cut_off g c =
    let told : parts_text c.from.result c.from-2.result ++ touches_text c.args.asked.touches ≡ parts_text c.args.asked.parts c.args.asked.part_bound ++ touches_text c.args.asked.touches = λ i. parts_text (c.from.ensures i) (c.from-2.ensures i) ++ touches_text c.args.asked.touches in
    err_any c.from_residual.result _ (subst (λ (t : List ℕ). CutOffInPieces (g.K.Sink.told c.args.sink.now) (g.K.Sink.told c.put_out_of.new.sink) (c.args.piece.now.items ++ t)) told
    (prefix_first _ _ c.args.piece.now.items (parts_text c.from.result c.from-2.result) (touches_text c.args.asked.touches) c.in_err-put_out_of.ensures.cut_off))

pub returns-clause-gathered : goal.returns-clause-gathered
unfolding parts_text touches_text
returns-clause-gathered g c =
    let told : parts_text c.from.result c.from-2.result ++ touches_text c.args.asked.touches ≡ parts_text c.args.asked.parts c.args.asked.part_bound ++ touches_text c.args.asked.touches = λ i. parts_text (c.from.ensures i) (c.from-2.ensures i) ++ touches_text c.args.asked.touches in
    ok_weaker c.put_labelled.result _ _ (λ more. subst (Gathers (g.K.Sink.told c.args.sink.now) (g.K.Sink.told c.put_labelled.new.sink) c.args.piece.now.items c.put_labelled.new.piece.items) told
    (gathers_both _ _ _ _ _ _ (parts_text c.from.result c.from-2.result) (touches_text c.args.asked.touches) c.in_ok-put_out_of.ensures.gathered more)) c.put_labelled.ensures.gathered

pub returns-clause-cut_off : goal.returns-clause-cut_off
unfolding parts_text touches_text
returns-clause-cut_off g c =
    let told : parts_text c.from.result c.from-2.result ++ touches_text c.args.asked.touches ≡ parts_text c.args.asked.parts c.args.asked.part_bound ++ touches_text c.args.asked.touches = λ i. parts_text (c.from.ensures i) (c.from-2.ensures i) ++ touches_text c.args.asked.touches in
    err_weaker c.put_labelled.result _ _ (λ more. subst (λ (t : List ℕ). CutOffInPieces (g.K.Sink.told c.args.sink.now) (g.K.Sink.told c.put_labelled.new.sink) (c.args.piece.now.items ++ t)) told
    (prefix_second _ _ _ _ _ (parts_text c.from.result c.from-2.result) (touches_text c.args.asked.touches) c.in_ok-put_out_of.ensures.gathered more)) c.put_labelled.ensures.cut_off
