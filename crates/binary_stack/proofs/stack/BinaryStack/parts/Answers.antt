use Rattle.std.proofs.Common.{◌≡◌, ℕ, ◌+◌, ◌<◌, ◌∙◌, Option, Some, None, List, length, take, get_or, sum_by, refl, ap, subst, arith}
use Rattle.std.specs.Int.{from_bool}
use Rattle.std.specs.Option.{is_some}
use Rattle.std.proofs.lemmas.Grind.{common_steps}
use Rattle.std.proofs.lemmas.List.Sums.{sum_by_more}
use Rattle.std.proofs.lemmas.List.Recursion.{is_sum_by}
use Rattle.binary_stack.specs.Levels.{parts_in, parts_of, AreLevels}
use Rattle.binary_stack.proofs.Levels.{one_at_most, parts-ones, parts-few, small-levels}
use Rattle.binary_stack.proofs.stack.BinaryStack.parts.Goals as goal

summed : {P : Type 0} (levels : List (Option P)) (n : ℕ) → n ≡ length levels → sum_by parts_in (take n levels) ≡ parts_of levels
summed levels n e = grind (arith, common_steps, is_sum_by parts_of parts_in refl (λ _ _. refl) levels)

told : {P : Type 0} (l : Option P) → from_bool (is_some l) ≡ parts_in l
told None = refl
told (Some p) = refl

pub loop-level-preserved : goal.loop-level-preserved
loop-level-preserved g c =
    let levels = c.args.self.now.levels in
    let level = c.level-item.result in
    let i = c.loop-level.level-index in
    let same : c.deref-level-items.result.now ≡ levels = c.deref-level-items.ensures.value ∙ ap (λ s. s.levels) c.self.view_is in
    let less : i < length levels = omega (arith, c.loop-level-test.true, ap length same) in
    let here : level ≡ get_or levels i level = c.level-item.is ∙ ap (λ ls. get_or ls i level) same in
    let one : c.from-parts.result ≡ parts_in level = c.from-parts.ensures ∙ ap from_bool c.is_some.ensures ∙ told level in
    record {
      parts = omega (arith, one, c.loop-level.invariant.parts, ap parts_in here, sum_by_more parts_in levels i level less);
      few = omega (arith, one, one_at_most level, c.loop-level.invariant.few);
    }

pub returns-clause-value : goal.returns-clause-value
returns-clause-value g c =
    let levels = c.args.self.now.levels in
    let same : c.deref-level-items.result.now ≡ levels = c.deref-level-items.ensures.value ∙ ap (λ s. s.levels) c.self.view_is in
    c.loop-level.invariant.parts
    ∙ summed levels c.loop-level.level-index (omega (arith, c.loop-level-test.false, c.loop-level.auto.level-index-end, ap length same))

pub returns-clause-ones : goal.returns-clause-ones
returns-clause-ones g c g' light = returns-clause-value g c ∙ parts-ones c.args.self.now.levels (g' + 1) light

pub returns-clause-few : goal.returns-clause-few
returns-clause-few g c g' light = omega (arith, returns-clause-value g c, parts-few c.args.self.now.levels (g' + 1) light)

pub returns-clause-sizes : goal.returns-clause-sizes
returns-clause-sizes g c g' light =
    let contents = g.B.Part.Part.contents in
    let h = subst (λ s. AreLevels contents 0 s.levels) c.self.view_is c.self.invariant.0.levels in
    small-levels contents c.args.self.now.levels h g' light

pub returns-clause-levels : goal.returns-clause-levels
returns-clause-levels g c = subst (λ s. AreLevels g.B.Part.Part.contents 0 s.levels) c.self.view_is c.self.invariant.0.levels
