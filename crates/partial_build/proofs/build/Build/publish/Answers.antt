use Rattle.std.proofs.Common.{◌≡◌, ◌^◌, ◌-◌, ◌∙◌, ap, sym, arith}
use Rattle.query_laws.specs.declared.item.Order.TheVariants.{First}
use Rattle.partial_build.specs.Quota.{quota}
use Rattle.partial_build.proofs.Clock.{twice, none_left}
use Rattle.partial_build.proofs.KeepingUp.{Builds-of, IsPublished-ended, IsPublished-seen}
use Rattle.partial_build.proofs.build.Build.publish.Goals as goal

pub returns-clause-published : goal.returns-clause-published
returns-clause-published g c a b builds =
    let inside = c.self.inside in
    let ticks : inside.ticks ≡ 2 ^ inside.level =
    ap (λ v. v.ticks) c.self.view_is ∙ c.requires.ended ∙ ap (λ v. 2 ^ v.level) (sym c.self.view_is) in
    let none = none_left (2 ^ (inside.level - 1)) inside.ticks (quota g.B.Builder.SLOPE g.B.Builder.BASE inside.level) _ c.self.invariant.in_time
    (omega (arith, ticks, twice inside.level c.self.invariant.least)) in
    IsPublished-seen c.self.view_is c.into_part.ensures.whole
    (IsPublished-ended _ a b (g.met.B.Item.Item.ordered First) (Builds-of c.self.view_is builds)
    (ap (λ v. v.waiting) c.self.view_is ∙ c.requires.none) (omega (arith, none)) c.self.invariant.flagged c.self.invariant.at_level)
