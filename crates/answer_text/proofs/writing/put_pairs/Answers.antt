use Rattle.std.proofs.Common.{◌<◌, ◌≤◌, ◌++◌, List, length, sym, subst, arith, flat_map}
use Rattle.std.proofs.lemmas.Option.{get_or_from_slice_get}
use Rattle.std.proofs.lemmas.List.{take_all}
use Rattle.map_model.specs.Found.{Found}
use Rattle.answer_text.specs.Pieces.{CutOffInPieces, Gathers}
use Rattle.answer_text.specs.Texts.{found_text}
use Rattle.answer_text.proofs.Pieces.{gathers_none, gathers_more, prefix_second, prefix_of_texts, err_any}
use Rattle.answer_text.proofs.writing.put_pairs.Goals as goal

pub returns-in_err-put_found-clause-cut_off : goal.returns-in_err-put_found-clause-cut_off
returns-in_err-put_found-clause-cut_off g c =
    let list = c.args.found.now in
    let is = sym (get_or_from_slice_get list c.loop-k.k c.get.result c.get.result c.get.ensures) in
    let within : c.loop-k.k < length list = omega (arith, c.loop-k-test.true, c.len-k-end.ensures.count) in
    let here = subst (λ (f : Found). CutOffInPieces (g.K.Sink.told c.loop-k.sink) (g.K.Sink.told c.put_found.new.sink) (c.loop-k.piece.items ++ found_text f)) is c.in_err-put_found.ensures.cut_off in
    err_any c.from_residual.result _
    (prefix_of_texts _ _ c.args.piece.now.items found_text list c.loop-k.k c.get.result within
    (prefix_second _ _ _ _ _ _ _ c.loop-k.invariant here))

pub loop-k-preserved : goal.loop-k-preserved
loop-k-preserved g c =
    let list = c.args.found.now in
    let is = sym (get_or_from_slice_get list c.loop-k.k c.get.result c.get.result c.get.ensures) in
    let within : c.loop-k.k < length list = omega (arith, c.loop-k-test.true, c.len-k-end.ensures.count) in
    let here = subst (λ (f : Found). Gathers (g.K.Sink.told c.loop-k.sink) (g.K.Sink.told c.put_found.new.sink) c.loop-k.piece.items c.put_found.new.piece.items (found_text f)) is c.in_ok-put_found.ensures.gathered in
    gathers_more _ _ _ _ _ _ found_text list c.loop-k.k c.get.result within c.loop-k.invariant here

pub loop-k-init : goal.loop-k-init
loop-k-init g c = gathers_none _ _ c.requires

pub returns-clause-gathered : goal.returns-clause-gathered
returns-clause-gathered g c =
    let list = c.args.found.now in
    let ended : length list ≤ c.loop-k.k = omega (arith, c.loop-k-test.false, c.len-k-end.ensures.count) in
    subst (λ (l : List Found). Gathers (g.K.Sink.told c.args.sink.now) (g.K.Sink.told c.loop-k.sink) c.args.piece.now.items c.loop-k.piece.items (flat_map found_text l))
    (take_all c.loop-k.k list ended) c.loop-k.invariant
