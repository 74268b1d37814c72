use Rattle.std.proofs.Common.{ap, arith, sum_by, [], ◌∷◌}
use Rattle.std.proofs.lemmas.List.Sums.{sum_by-append}
use Rattle.builder_trait.specs.Rebuilding.{live_before}
use Rattle.builder_trait.proofs.Kept.{kept-more_live, kept-more_dead}
use Rattle.index_tests.proofs.sums.live_x.Goals as goal

pub returns-then-not-alive-clause-added : goal.returns-then-not-alive-clause-added
returns-then-not-alive-clause-added g c =
    omega (arith, ap (sum_by (λ pair. pair.x)) (kept-more_dead c.args.part.now.flags c.args.part.now.items c.args.k c.if-not-alive.ensures.value))

pub returns-clause-added : goal.returns-clause-added
returns-clause-added g c =
    omega (
      arith,
      ap (sum_by (λ pair. pair.x)) (kept-more_live c.args.part.now.flags c.args.part.now.items c.args.k c.item.result c.if-not-alive.ensures.value c.item.ensures.value),
      sum_by-append (λ pair. pair.x) (live_before c.args.k c.args.part.now) (c.item.result ∷ []),
    )
