use Rattle.std.proofs.Common.{◌+◌, ◌-◌, ◌/◌, arith, sym, ◌∙◌, ap, ⊎_elim}
use Rattle.std.proofs.lemmas.Bool.{cases_lt}
use Rattle.map_questions.specs.QuestionLaws.{IsTotalOrder-nearer_le}
use Rattle.map_questions.proofs.InOrder.{comes_before, comes_behind}
use Rattle.map_questions.proofs.near_k_tally.+count_before.Goals as goal

pub returns-then-before-clause-before : goal.returns-then-before-clause-before
returns-then-before-clause-before t c k d above below =
    let middle = c.args.low + (c.args.high - c.args.low) / 2 in
    ⊎_elim
    (λ up_to. comes_before IsTotalOrder-nearer_le c.args.found.now c.args.list.now c.requires.sorted middle c.get.result c.get.ensures
    (sym c.if-before.ensures) k d (omega (arith, up_to)))
    (λ past. c.count_before.ensures.before k d past below)
    (cases_lt k (middle + 1))

pub returns-else-before-clause-after : goal.returns-else-before-clause-after
returns-else-before-clause-after t c k d above below =
    let middle = c.args.low + (c.args.high - c.args.low) / 2 in
    ⊎_elim
    (λ less. c.count_before-else-before.ensures.after k d above less)
    (λ from. comes_behind IsTotalOrder-nearer_le c.args.found.now c.args.list.now c.requires.sorted middle c.get.result c.get.ensures
    (sym c.if-before.ensures) k d from (omega (arith, below, c.requires.within)))
    (cases_lt k middle)
