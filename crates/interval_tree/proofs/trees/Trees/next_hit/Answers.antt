use Rattle.std.proofs.Common.{ℕ, Option, Some, None, length, ap, arith}
use Rattle.std.specs.Option.{IfSome}
use Rattle.interval_tree.proofs.Hits.{length-ends_of, hits-none, hits-some}
use Rattle.interval_tree.proofs.trees.Trees.next_hit.Goals as goal

-- a part of what is true of a place
if_some : {P Q : ℕ → Type 0} (o : Option ℕ) → IfSome o P → ((k : ℕ) → P k → Q k) → IfSome o Q
if_some None is weaker = tt
if_some (Some k) is weaker = weaker k is

pub next_at_least-requires-clause-within : goal.next_at_least-requires-clause-within
next_at_least-requires-clause-within g c =
    omega (arith, ap length c.requires.over.ends, length-ends_of c.args.x c.args.segments.now c.requires.over.flagged)

pub returns-clause-after : goal.returns-clause-after
returns-clause-after g c =
    if_some c.next_at_least.result
    (hits-some c.args.x c.args.segments.now c.requires.over.flagged c.args.self.now.ends.places c.requires.over.ends c.args.from c.args.to
    c.requires.ordered c.requires.within c.next_at_least.result c.next_at_least.ensures.first (omega arith)) (λ k is. is.0)

pub returns-clause-before : goal.returns-clause-before
returns-clause-before g c =
    if_some c.next_at_least.result
    (hits-some c.args.x c.args.segments.now c.requires.over.flagged c.args.self.now.ends.places c.requires.over.ends c.args.from c.args.to
    c.requires.ordered c.requires.within c.next_at_least.result c.next_at_least.ensures.first (omega arith)) (λ k is. is.1)

pub returns-clause-next : goal.returns-clause-next
returns-clause-next g c =
    if_some c.next_at_least.result
    (hits-some c.args.x c.args.segments.now c.requires.over.flagged c.args.self.now.ends.places c.requires.over.ends c.args.from c.args.to
    c.requires.ordered c.requires.within c.next_at_least.result c.next_at_least.ensures.first (omega arith)) (λ k is. is.2)

pub returns-clause-none : goal.returns-clause-none
returns-clause-none g c none =
    hits-none c.args.x c.args.segments.now c.requires.over.flagged c.args.self.now.ends.places c.requires.over.ends c.args.from c.args.to
    c.requires.ordered c.requires.within c.next_at_least.result c.next_at_least.ensures.first (omega arith) none

pub returns-clause-cost : goal.returns-clause-cost
returns-clause-cost g c h few =
    c.next_at_least.ensures.cost h (omega (arith, few, ap length c.requires.over.ends, length-ends_of c.args.x c.args.segments.now c.requires.over.flagged))
