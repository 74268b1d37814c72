use Rattle.std.proofs.Common.{arith}
use Rattle.std.proofs.lemmas.Bool.{both_ways, eqb-true, eq-eqb, le-leb}
use Rattle.range_tree.proofs.answers.are_scanned.Goals as goal

pub returns-then-places-most-clause-few : goal.returns-then-places-most-clause-few
returns-then-places-most-clause-few c = λ is apart. omega (arith, c.if-places-most.true)

pub returns-then-places-most-clause-some : goal.returns-then-places-most-clause-some
returns-then-places-most-clause-some c = λ no same. both_ways _ no (le-leb _ _ c.if-places-most.true)

pub returns-else-places-most-clause-few : goal.returns-else-places-most-clause-few
returns-else-places-most-clause-few c = λ is apart. absurd (apart (eqb-true c.args.whole.from c.args.whole.to is))

pub returns-else-places-most-clause-some : goal.returns-else-places-most-clause-some
returns-else-places-most-clause-some c = λ no same. both_ways _ no (eq-eqb c.args.whole.from c.args.whole.to same)
