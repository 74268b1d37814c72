use Rattle.std.proofs.Common.{◌+◌, ◌-◌, ◌/◌, arith, sym, ⊎_elim}
use Rattle.std.proofs.lemmas.Bool.{cases_lt}
use Rattle.builder_trait.proofs.SearchLemmas.{passes_up_to, fails_from}
use Rattle.interval_tree.proofs.Searching.{Spends-halved_twice}
use Rattle.interval_tree.proofs.search.+partition_reordered.Goals as goal

pub returns-then-passes-clause-before : goal.returns-then-passes-clause-before
returns-then-passes-clause-before g t c k d above below =
    ⊎_elim
    (λ up_to. passes_up_to (g.P.EntryTest.passes c.args.test.now) c.args.segments.now.reordered c.args.low c.args.high (c.args.low + (c.args.high - c.args.low) / 2)
    c.requires.up_to_some (omega arith) (omega arith) c.item-segment.result c.item-segment.ensures.value (sym c.if-passes.ensures) k d above up_to)
    (λ past. c.partition_reordered.ensures.before k d (omega arith) below)
    (cases_lt k (c.args.low + (c.args.high - c.args.low) / 2 + 1))

pub returns-then-passes-clause-cost : goal.returns-then-passes-clause-cost
returns-then-passes-clause-cost g t c h small =
    Spends-halved_twice h (c.args.high - c.args.low) _ c.item-segment.ensures.cost (omega arith) small (omega arith) c.partition_reordered.ensures.cost

pub returns-else-passes-clause-after : goal.returns-else-passes-clause-after
returns-else-passes-clause-after g t c k d above below =
    ⊎_elim
    (λ less. c.partition_reordered-else-passes.ensures.after k d above less)
    (λ from. fails_from (g.P.EntryTest.passes c.args.test.now) c.args.segments.now.reordered c.args.low c.args.high (c.args.low + (c.args.high - c.args.low) / 2)
    c.requires.up_to_some (omega arith) (omega arith) c.item-segment.result c.item-segment.ensures.value (sym c.if-passes.ensures) k d from below)
    (cases_lt k (c.args.low + (c.args.high - c.args.low) / 2))

pub returns-else-passes-clause-cost : goal.returns-else-passes-clause-cost
returns-else-passes-clause-cost g t c h small =
    Spends-halved_twice h (c.args.high - c.args.low) (c.args.low + (c.args.high - c.args.low) / 2 - c.args.low)
    c.item-segment.ensures.cost (omega arith) small (omega arith) c.partition_reordered-else-passes.ensures.cost
