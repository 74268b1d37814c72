use Rattle.std.proofs.Common.{length, sym, ap, ◌∙◌, arith}
use Rattle.std.specs.Prelude.{insert, not}
use Rattle.map_shapes.specs.Found.{nearer_le}
use Rattle.map_questions.proofs.InOrder.{count-searched}
use Rattle.map_questions.proofs.Offers.{insert_by-insert}
use Rattle.map_questions.proofs.near_k_tally.insert_in_order.Goals as goal

pub returns : goal.returns
returns c =
    let list = c.args.list.now in
    let found = c.args.found in
    let here = c.count_before-place.result in
    let counted = count-searched (λ kept. not (nearer_le found kept)) found list here (omega (arith, c.count_before-place.ensures.to_high, c.len.ensures.count))
    ((λ k d from below. c.count_before-place.ensures.before k d from below), (λ k d from below. c.count_before-place.ensures.after k d from (omega (arith, below, c.len.ensures.count)))) in
    c.insert.ensures ∙ ap (λ k. insert list k found) counted ∙ sym (insert_by-insert nearer_le found list)
