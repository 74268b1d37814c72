use Rattle.std.proofs.Common.{◌≡◌, ℕ, ◌*◌, ◌^◌, ◌≤◌, ◌∙◌, length, All, ap, sym, subst, arith}
use Rattle.query_laws.specs.StepLedger.{Spends}
use Rattle.log_levels.specs.Slots.{asked_in}
use Rattle.log_levels.specs.Level.{IsOfLevel, AreHeld}
use Rattle.log_levels.specs.Marking.{AreMarkedAt}
use Rattle.log_levels.proofs.Publishing.{higher}
use Rattle.log_levels.proofs.Marks.{of_level-marked, length-marked}
use Rattle.log_levels.proofs.Held.{IsLevel-holding, written}
use Rattle.log_levels.proofs.level.Level.mark.Goals as goal

no_longer : {a b m : ℕ} → a ≤ b → b ≤ m → a ≤ m
no_longer first second = omega (arith, first, second)

pub invariant_of-self : goal.invariant_of-self
invariant_of-self g c =
    let contents = g.B.Part.Part.contents in
    let stamp = g.B.Item.Item.stamp in
    let h = c.self.invariant in
    let v = c.self.inside in
    let new = c.mark_parts.new.parts in
    let value : c.deref_mut.result.now ≡ v.parts.items = c.deref_mut.ensures.value in
    let marked : AreMarkedAt contents stamp c.args.item.now c.mark_parts.result v.parts.items new =
    subst (λ ps. AreMarkedAt contents stamp c.args.item.now c.mark_parts.result ps new) value c.mark_parts.ensures.marked in
    let as_long = length-marked contents stamp c.args.item.now marked in
    let whole = written v.parts.len v.parts.items new (sym c.deref_mut.ensures.len ∙ ap length value) as_long in
    IsLevel-holding h
    (subst (λ ps. AreHeld (λ p. IsOfLevel v.level (contents p)) 3 ps v.parts.cap) (sym whole) (record {
      each = of_level-marked contents stamp c.args.item.now v.level marked h.parts_held.each;
      few = omega (arith, as_long, h.parts_held.few);
      place = h.parts_held.place;
    }))

pub returns-clause-cost : goal.returns-clause-cost
returns-clause-cost g c h above =
    let contents = g.B.Part.Part.contents in
    let stamp = g.B.Item.Item.stamp in
    let s = stamp c.args.item.now in
    let v = c.self.inside in
    let value : c.deref_mut.result.now ≡ c.args.self.now.parts = c.deref_mut.ensures.value ∙ ap (λ l. l.parts) c.self.view_is in
    let level : v.level ≤ h = omega (arith, above, ap (λ l. l.level) c.self.view_is) in
    let fits : All (λ p. length (contents p).items ≤ 2 ^ h) v.parts.items =
    λ k d within. no_longer (c.self.invariant.parts_held.each k d within).fits (higher v.level h level) in
    subst (λ ps. Spends c.args.steps.now c.mark_parts.new.steps 0 (asked_in contents stamp s ps) (asked_in contents stamp s ps * g.B.Part.Part.mark_touches h)) value
    (c.mark_parts.ensures.cost h (subst (All (λ p. length (contents p).items ≤ 2 ^ h)) (sym c.deref_mut.ensures.value) fits))
