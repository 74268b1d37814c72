use Rattle.std.proofs.Common.{◌+◌, ◌*◌, ◌≤◌, ◌^◌, ap, subst, arith}
use Rattle.log_levels.specs.Levels.{parts_of}
use Rattle.log_method.specs.Height.{HaveAtMost}
use Rattle.global_rebuild.proofs.Weights.{main_few}
use Rattle.global_rebuild.proofs.index.Index.parts.Goals as goal

pub returns-clause-few : goal.returns-clause-few
returns-clause-few g c g' light =
    subst (λ n. n ≤ 3 * (g' + 1)) (ap (λ i. parts_of i.main.levels) c.self.view_is)
    (c.parts.ensures.few g' (omega (arith, main_few c.self.view_is c.self.invariant g' light)))

pub returns-clause-sizes : goal.returns-clause-sizes
returns-clause-sizes g c g' light =
    subst (λ i. HaveAtMost g.B.Part.Part.contents (2 ^ g') i.main.levels) c.self.view_is
    (c.parts.ensures.sizes g' (omega (arith, main_few c.self.view_is c.self.invariant g' light)))
