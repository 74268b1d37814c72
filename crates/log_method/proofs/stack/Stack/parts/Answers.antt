use Rattle.std.proofs.Common.{◌≡◌, ℕ, ◌<◌, ◌∙◌, All, List, length, take, get_or, sum_by, ◌^◌, ◌+◌, ◌*◌, ◌≤◌, refl, ap, subst, arith}
use Rattle.std.proofs.lemmas.Grind.{common_steps}
use Rattle.std.proofs.lemmas.List.{take_all}
use Rattle.std.proofs.lemmas.List.Elements.{All-more}
use Rattle.std.proofs.lemmas.List.Sums.{sum_by_more}
use Rattle.std.proofs.lemmas.List.Recursion.{is_sum_by}
use Rattle.builder_trait.specs.Builders.{PartProfile}
use Rattle.builder_trait.specs.Parts.{Contents}
use Rattle.log_levels.specs.Slots.{Slots}
use Rattle.log_levels.specs.Levels.{weight_of, parts_of}
use Rattle.log_levels.specs.Level.{IsOfLevel}
use Rattle.log_levels.specs.Towers.{AreOnTime}
use Rattle.log_method.proofs.FewParts.{three, parts-few, parts-small}
use Rattle.log_method.proofs.stack.Stack.parts.Given.{Over}
use Rattle.log_method.proofs.stack.Stack.parts.Goals as goal

abbrev profile : (g : Over) → PartProfile g.row.B-Item.Denot
profile g = record { stamp = g.B.Item.Item.stamp; before = g.B.Item.Item.before; slope = g.B.Builder.SLOPE; base = g.B.Builder.BASE }

summed : {P Item : Type 0} (levels : List (Slots P Item)) (n : ℕ) → n ≡ length levels
    → sum_by (λ v. length v.parts) (take n levels) ≡ parts_of levels
summed levels n e = grind (arith, common_steps, is_sum_by parts_of (λ v. length v.parts) refl (λ _ _. refl) levels)

-- the parts of a level are of it
abbrev IsLevelOf : {P Item : Type 0} → (P → Contents Item) → Slots P Item → Type 0
IsLevelOf contents v = All (λ p. IsOfLevel v.level (contents p)) v.parts

pub loop-level-preserved : goal.loop-level-preserved
loop-level-preserved g c =
    let levels = c.args.self.now.levels in
    let level = c.level-item.result in
    let i = c.loop-level.level-index in
    let same : c.deref-level-items.result.now ≡ levels = c.deref-level-items.ensures.value ∙ ap (λ s. s.levels) c.self.view_is in
    let less : i < length levels = omega (arith, c.loop-level-test.true, ap length same) in
    let here : level ≡ get_or levels i level = c.level-item.is ∙ ap (λ ls. get_or ls i level) same in
    let len : length c.parts.result.now ≡ length level.parts = ap length c.parts.ensures.value in
    record {
      parts = omega (arith, len, c.loop-level.invariant.parts, ap (λ l. length l.parts) here, sum_by_more (λ v. length v.parts) levels i level less);
      few = omega (arith, c.parts.ensures.few, len, c.loop-level.invariant.few);
      of_level = All-more (IsLevelOf g.B.Part.Part.contents) levels i level less c.loop-level.invariant.of_level
          (subst (IsLevelOf g.B.Part.Part.contents) here c.parts.ensures.of_level);
    }

pub returns-clause-value : goal.returns-clause-value
returns-clause-value g c =
    let levels = c.args.self.now.levels in
    let same : c.deref-level-items.result.now ≡ levels = c.deref-level-items.ensures.value ∙ ap (λ s. s.levels) c.self.view_is in
    c.loop-level.invariant.parts
    ∙ summed levels c.loop-level.level-index (omega (arith, c.loop-level-test.false, c.loop-level.auto.level-index-end, ap length same))

pub returns-clause-few : goal.returns-clause-few
returns-clause-few g c =
    subst (λ ls. (g' : ℕ) → weight_of ls < 2 ^ (g' + 1) → parts_of ls ≤ 3 * (g' + 1)) (ap (λ s. s.levels) c.self.view_is)
    (parts-few g.B.Part.Part.contents (profile g) c.self.inside.levels.items c.self.invariant.0.levels)

pub returns-clause-sizes : goal.returns-clause-sizes
returns-clause-sizes g c g' light =
    let levels = c.args.self.now.levels in
    let same : c.deref-level-items.result.now ≡ levels = c.deref-level-items.ensures.value ∙ ap (λ s. s.levels) c.self.view_is in
    let all : take c.loop-level.level-index levels ≡ levels =
    take_all c.loop-level.level-index levels (omega (arith, c.loop-level-test.false, c.loop-level.auto.level-index-end, ap length same)) in
    parts-small g.B.Part.Part.contents levels (subst (All (IsLevelOf g.B.Part.Part.contents)) all c.loop-level.invariant.of_level) g' light

pub returns-clause-on_time : goal.returns-clause-on_time
returns-clause-on_time g c =
    subst (AreOnTime g.B.Part.Part.contents (profile g)) (ap (λ s. s.levels) c.self.view_is)
    (record { levels = c.self.invariant.0.levels; punctual = c.self.invariant.0.punctual })

pub returns-clause-three : goal.returns-clause-three
returns-clause-three g c =
    subst (All (λ v. length v.parts ≤ 3)) (ap (λ s. s.levels) c.self.view_is)
    (three g.B.Part.Part.contents (profile g) c.self.inside.levels.items c.self.invariant.0.levels)
