use Rattle.std.proofs.Common.{◌≡◌, ◌+◌, arith, refl, subst, sym}
use Rattle.query_laws.proofs.Counting.{Spends-nothing, Spends-then, Spends-within}
use Rattle.range_tree.specs.Heights.{rows_to}
use Rattle.range_tree.specs.Marks.{IsStanding}
use Rattle.range_tree.proofs.Standing.{IsPlace-standing, IsStanding-next}
use Rattle.range_tree.proofs.listing.fall.Goals as goal

pub loop-below-init : goal.loop-below-init
loop-below-init g c = record {
  standing = λ part place carried standing. standing;
  spent = Spends-within (Spends-nothing c.args.steps.now) refl refl (omega arith);
}

pub next-k-requires : goal.next-k-requires
next-k-requires g c =
    let part = c.requires.standing.0 in
    let place = c.requires.standing.1 in
    let carried = c.requires.standing.2 in
    IsPlace-standing part place c.args.height c.loop-below.below c.loop-below.k c.args.ranks.now carried (c.loop-below.invariant.standing part place carried c.requires.standing.3)
    (omega (arith, c.rows_for-below-end.ensures))

pub loop-below-preserved : goal.loop-below-preserved
loop-below-preserved g c = record {
  standing = λ part place carried standing.
      subst (λ n. IsStanding part place c.args.height (c.loop-below.below + 1) n c.args.ranks.now carried) (sym c.next-k.ensures.value)
      (IsStanding-next part place c.args.height c.loop-below.below c.loop-below.k c.args.ranks.now carried (c.loop-below.invariant.standing part place carried standing)
      (omega (arith, c.rows_for-below-end.ensures)));
  spent = Spends-within (Spends-then c.loop-below.invariant.spent c.next-k.ensures.cost) refl refl (omega (arith, c.loop-below.auto.below));
}

pub returns-clause-there : goal.returns-clause-there
returns-clause-there g c part place carried standing =
    let now = c.loop-below.invariant.standing part place carried standing in
    let end : c.loop-below.below ≡ rows_to c.args.height = omega (arith, c.rows_for-below-end.ensures, now.below) in
    subst (λ r. IsStanding part place c.args.height r c.loop-below.k c.args.ranks.now carried) end now

pub returns-clause-cost : goal.returns-clause-cost
returns-clause-cost g c =
    let now = c.loop-below.invariant.standing c.requires.standing.0 c.requires.standing.1 c.requires.standing.2 c.requires.standing.3 in
    Spends-within c.loop-below.invariant.spent refl refl (omega (arith, now.below))
