use Rattle.std.proofs.Common.{arith}
use Rattle.builder_trait.specs.Builders.{all_live}
use Rattle.priority_tree.proofs.rows.TopRowsRows.turn.Goals as goal

pub next_block-requires-clause-grown : goal.next_block-requires-clause-grown
next_block-requires-clause-grown g c = (all_live c.args._points.now, c.pull_next.ensures.grown (all_live c.args._points.now) c.requires.growing)

pub returns-then-self-eq0-clause-growing : goal.returns-then-self-eq0-clause-growing
returns-then-self-eq0-clause-growing g c =
    c.next_block.ensures.growing (all_live c.args._points.now) (c.pull_next.ensures.grown (all_live c.args._points.now) c.requires.growing)

pub returns-else-self-eq0-clause-growing : goal.returns-else-self-eq0-clause-growing
returns-else-self-eq0-clause-growing g c = (c.pull_next.ensures.grown (all_live c.args._points.now) c.requires.growing, λ le. omega (arith, c.if-self-eq0.false))
