use Rattle.std.proofs.Common.{◌≡◌, ℕ, ◌≤◌, ◌^◌, Option, Some, None, IfSome, refl, sym, subst}
use Rattle.std.specs.Option.{option_map_or}
use Rattle.partial_build.specs.Construction.{Construction}
use Rattle.log_levels.specs.Slots.{Slots, ticks_of}
use Rattle.log_levels.proofs.Held.{IsLevel-built}
use Rattle.log_levels.proofs.level.Level.take_ended.Goals as goal

pub invariant_of-self : goal.invariant_of-self
invariant_of-self g c = IsLevel-built c.self.invariant c.take.ensures.after

ended_of : {Item : Type 0} (level : ℕ) (o : Option (Construction Item)) → ((c : Construction Item) → o ≡ Some c → c.level ≡ level)
    → 2 ^ level ≤ option_map_or (λ c. c.ticks) o 0
    → IfSome o (λ c. (o ≡ Some c) × (c.level ≡ level) × (2 ^ c.level ≤ c.ticks))
ended_of level None of_level late = tt
ended_of level (Some c) of_level late = (refl, of_level c refl, subst (λ k. 2 ^ k ≤ c.ticks) (sym (of_level c refl)) late)

pub returns-then-has_ended-clause-ended : goal.returns-then-has_ended-clause-ended
returns-then-has_ended-clause-ended g c =
    let same : c.take.result ≡ c.self.inside.construction = c.take.ensures.value in
    let late = c.has_ended.ensures.ended c.if-has_ended.true in
    subst (λ (v : Slots g.row.B-Part.Denot g.row.B-Item.Denot).
    IfSome c.take.result (λ c'. (v.construction ≡ Some c') × (c'.level ≡ v.level) × (2 ^ c'.level ≤ c'.ticks))) c.self.view_is
    (subst (λ o. IfSome o (λ c'. (c.self.inside.construction ≡ Some c') × (c'.level ≡ c.self.inside.level) × (2 ^ c'.level ≤ c'.ticks))) (sym same)
    (ended_of c.self.inside.level c.self.inside.construction c.self.invariant.builds
    (subst (λ (v : Slots g.row.B-Part.Denot g.row.B-Item.Denot). 2 ^ v.level ≤ ticks_of v) (sym c.self.view_is) late)))
