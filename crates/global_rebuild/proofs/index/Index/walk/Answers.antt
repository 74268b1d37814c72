use Rattle.std.proofs.Common.{◌≡◌, ◌≢◌, ℕ, ◌-◌, ◌*◌, min, None, Some, ◌∙◌, ⊎_elim, ap, sym, subst, arith}
use Rattle.log_levels.specs.Cost.{IsWithin, quotas}
use Rattle.log_method.proofs.Forecasting.{when_ok}
use Rattle.chain_walk.specs.Walk.{live_in}
use Rattle.global_rebuild.specs.Index.{IsInTime, to_walk}
use Rattle.global_rebuild.proofs.Weights.{IsIndex-shadow, paused, as_many, walked_few, live-walked, shadow_light, shadow_within, in_time-ahead, in_time-walked}
use Rattle.global_rebuild.proofs.Owning.{lent_to_shadow, owns-walked}
use Rattle.global_rebuild.proofs.index.Index.walk.Given.{Over}
use Rattle.global_rebuild.proofs.index.Index.walk.Goals as goal

pub walk-requires-clause-light : goal.walk-requires-clause-light
walk-requires-clause-light g c =
    let h = rw (← c.self.view_is) at c.requires.chain.1 in
    let light = shadow_light (c.self.invariant.in_time c.in-Some.shadow c.in-Some.is) (omega (arith, as_many _ _ _ _ h, h.few)) in
    omega (arith, light, c.requires.few)

pub walk-requires-clause-chain : goal.walk-requires-clause-chain
walk-requires-clause-chain g c =
    let h = rw (← c.self.view_is) at c.requires.chain.1 in (c.requires.chain.0, h.shadow c.in-Some.shadow c.in-Some.is, h.rise)

pub walk-requires-clause-lent : goal.walk-requires-clause-lent
walk-requires-clause-lent g c = lent_to_shadow c.self.invariant.memory c.in-Some.shadow c.in-Some.is

-- no more is live in the shadow than in the main stack, before the walk and after it
walked : (g : Over) (c : goal.After-walk g) → live_in g.B.Part.Part.contents c.walk.new.self.stack - live_in g.B.Part.Part.contents c.in-Some.shadow.stack
    ≡ to_walk g.B.Part.Part.contents c.args.self.now - (live_in g.B.Part.Part.contents c.self.inside.main - live_in g.B.Part.Part.contents c.walk.new.self.stack)
walked g c =
    let h = rw (← c.self.view_is) at c.requires.chain.1 in
    let own = c.walk.ensures.chain c.requires.chain.0 h.rise (h.shadow c.in-Some.shadow c.in-Some.is) in
    rw (← c.self.view_is, c.in-Some.is) (omega (arith, live-walked _ _ _ _ h c.walk.new.self own, c.walk.ensures.handed.no_fewer))

pub returns-clause-some_turns : goal.returns-clause-some_turns
returns-clause-some_turns g c = omega (arith, walked g c, c.walk.ensures.some_turns)

pub returns-clause-cost : goal.returns-clause-cost
returns-clause-cost g c g' light =
    let turns = quotas g.B.Builder.SLOPE g.B.Builder.BASE 0 g' in
    let t = c.self.invariant.in_time c.in-Some.shadow c.in-Some.is in
    let left : ℕ = live_in g.B.Part.Part.contents c.self.inside.main - live_in g.B.Part.Part.contents c.walk.new.self.stack in
    let few : live_in g.B.Part.Part.contents c.walk.new.self.stack - live_in g.B.Part.Part.contents c.in-Some.shadow.stack
    ≡ min c.args.most (to_walk g.B.Part.Part.contents c.args.self.now - left) = omega (arith, walked g c, c.walk.ensures.handed.at_most) in
    subst (λ n. IsWithin (n * turns) (n * (2 * g')) (g.B.Part.Part.mark_touches g') c.args.steps.now c.walk.new.steps) few
    (c.walk.ensures.cost g' (shadow_within t c.walk.ensures.handed g' c.requires.few
    (omega (arith, light, ap (λ i. live_in g.B.Part.Part.contents i.main) c.self.view_is))))

pub returns-clause-paused : goal.returns-clause-paused
returns-clause-paused g c = rw (← c.self.view_is) (paused _ _ c.in-Some.shadow c.walk.new.self c.walk.new.store c.in-Some.is c.walk.ensures.handed c.walk.ensures.memory.no_less)

pub returns-clause-in_time : goal.returns-clause-in_time
returns-clause-in_time g c =
    let h = rw (← c.self.view_is) at c.requires.chain.1 in
    let own = c.walk.ensures.chain c.requires.chain.0 h.rise (h.shadow c.in-Some.shadow c.in-Some.is) in
    let t = c.self.invariant.in_time c.in-Some.shadow c.in-Some.is in
    when_ok c.walk.result
    (λ taken r' is' going.
    let one : c.walk.new.self ≡ r' = cc in
    let at : c.walk.new.self.cursor ≢ None = λ none. going (sym (ap (λ r. r.cursor) one) ∙ none) in
    subst (IsInTime g.B.Part.Part.contents c.args.most c.self.inside.main) one (⊎_elim (λ none. absurd (at none))
    (in_time-ahead t c.walk.ensures.handed (walked_few _ _ _ _ h c.walk.new.self own at)) taken))
    c.walk.ensures.taken

pub invariant_of-self-2 : goal.invariant_of-self-2
invariant_of-self-2 g c =
    let h = rw (← c.self.view_is) at c.requires.chain.1 in
    let own = c.walk.ensures.chain c.requires.chain.0 h.rise (h.shadow c.in-Some.shadow c.in-Some.is) in
    IsIndex-shadow _ _ c.walk.new.self c.walk.new.store c.self.invariant
    (in_time-walked (c.self.invariant.in_time c.in-Some.shadow c.in-Some.is) c.walk.ensures.handed (live-walked _ _ _ _ h c.walk.new.self own))
    (owns-walked c.self.invariant.memory c.in-Some.shadow c.in-Some.is c.walk.new.self c.walk.new.store c.tell_few.ensures c.walk.ensures.memory)

pub returns-clause-quiet : goal.returns-clause-quiet
returns-clause-quiet g c none =
    let wrong : Some c.in-Some.shadow ≡ None = sym c.in-Some.is ∙ ap (λ i. i.shadow) c.self.view_is ∙ none in absurd cc
