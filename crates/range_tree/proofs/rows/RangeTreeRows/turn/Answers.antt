use Rattle.std.proofs.Common.{sym, refl, subst, arith}
use Rattle.query_laws.specs.StepLedger.{Spends}
use Rattle.query_laws.proofs.Counting.{Spends-one_turn, Spends-then, Spends-within}
use Rattle.builder_trait.specs.Builders.{all_live}
use Rattle.range_tree.proofs.rows.RangeTreeRows.turn.Goals as goal

pub carry_next-requires-clause-growing : goal.carry_next-requires-clause-growing
carry_next-requires-clause-growing g c = (all_live c.args._points.now, c.requires.growing)

pub returns-clause-growing : goal.returns-clause-growing
returns-clause-growing g c = c.carry_next.ensures.growing (all_live c.args._points.now) c.requires.growing

pub returns-clause-cost : goal.returns-clause-cost
returns-clause-cost g c =
    Spends-within
    (Spends-then (subst (λ s. Spends c.args.steps.now s 1 0 0) (sym c.turn.ensures) (Spends-one_turn c.args.steps.now)) c.carry_next.ensures.cost)
    refl refl (omega arith)
