use Rattle.std.proofs.Common.{◌+◌, ◌-◌, ◌/◌, arith, ap, sym, ⊎_elim}
use Rattle.std.proofs.lemmas.Bool.{cases_lt}
use Rattle.query_laws.specs.StepLedger.{Counts}
use Rattle.builder_trait.proofs.SearchLemmas.{passes_up_to, fails_from, Spends-halved}
use Rattle.builder_trait.proofs.search.+partition_point.Goals as goal

pub returns-then-passes-clause-before : goal.returns-then-passes-clause-before
returns-then-passes-clause-before g t c k d above below =
    ⊎_elim
    (λ up_to. passes_up_to (g.P.EntryTest.passes c.args.test.now) c.args.row.now.items c.args.low c.args.high (c.args.low + (c.args.high - c.args.low) / 2)
    c.requires.up_to_some (omega arith) (omega arith) c.at-entry.result c.at-entry.ensures.read (sym c.if-passes.ensures) k d above up_to)
    (λ past. c.partition_point.ensures.before k d past below)
    (cases_lt k (c.args.low + (c.args.high - c.args.low) / 2 + 1))

pub returns-then-passes-clause-read : goal.returns-then-passes-clause-read
returns-then-passes-clause-read g t c some =
    let rest = c.partition_point.ensures.cost 64 (omega arith) in
    omega (arith, ap (λ (s : Counts). s.touches) c.at-entry.ensures.touched, rest.touches_kept)

pub returns-then-passes-clause-cost : goal.returns-then-passes-clause-cost
returns-then-passes-clause-cost g t c h small =
    Spends-halved h (c.args.high - c.args.low) (c.args.high - (c.args.low + (c.args.high - c.args.low) / 2 + 1))
    c.at-entry.ensures.touched (omega arith) small (omega arith) c.partition_point.ensures.cost

pub returns-else-passes-clause-after : goal.returns-else-passes-clause-after
returns-else-passes-clause-after g t c k d above below =
    ⊎_elim
    (λ less. c.partition_point-else-passes.ensures.after k d above less)
    (λ from. fails_from (g.P.EntryTest.passes c.args.test.now) c.args.row.now.items c.args.low c.args.high (c.args.low + (c.args.high - c.args.low) / 2)
    c.requires.up_to_some (omega arith) (omega arith) c.at-entry.result c.at-entry.ensures.read (sym c.if-passes.ensures) k d from below)
    (cases_lt k (c.args.low + (c.args.high - c.args.low) / 2))

pub returns-else-passes-clause-read : goal.returns-else-passes-clause-read
returns-else-passes-clause-read g t c some =
    let rest = c.partition_point-else-passes.ensures.cost 64 (omega arith) in
    omega (arith, ap (λ (s : Counts). s.touches) c.at-entry.ensures.touched, rest.touches_kept)

pub returns-else-passes-clause-cost : goal.returns-else-passes-clause-cost
returns-else-passes-clause-cost g t c h small =
    Spends-halved h (c.args.high - c.args.low) (c.args.low + (c.args.high - c.args.low) / 2 - c.args.low)
    c.at-entry.ensures.touched (omega arith) small (omega arith) c.partition_point-else-passes.ensures.cost
