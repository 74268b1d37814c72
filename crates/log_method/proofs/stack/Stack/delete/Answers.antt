use Rattle.std.proofs.Common.{◌≡◌, ◌+◌, ◌^◌, ◌<◌, ◌∙◌, ◌++◌, length, take, drop, ap, arith}
use Rattle.std.proofs.lemmas.List.{take_at}
use Rattle.query_laws.proofs.Permutations.{Permuted-length}
use Rattle.builder_trait.specs.Builders.{PartProfile}
use Rattle.log_levels.specs.Levels.{weight_of, live_items, all_items}
use Rattle.log_levels.proofs.Distinct.{AllStampsDiffer-part}
use Rattle.log_levels.proofs.MarkedLevels.{one_fewer}
use Rattle.log_method.proofs.Stacks.{IsStack-ticked, IsPartOf-length}
use Rattle.log_method.proofs.FewParts.{parts_asked-few, parts-few}
use Rattle.log_method.proofs.stack.Stack.delete.Given.{Over}
use Rattle.log_method.proofs.stack.Stack.delete.Goals as goal

abbrev profile : (g : Over) → PartProfile g.row.B-Item.Denot
profile g = record { stamp = g.B.Item.Item.stamp; before = g.B.Item.Item.before; slope = g.B.Builder.SLOPE; base = g.B.Builder.BASE }

pub take_out-requires-clause-on_time : goal.take_out-requires-clause-on_time
take_out-requires-clause-on_time g c =
    rw c.deref_mut.ensures.value (record { levels = c.self.invariant.0.levels; punctual = c.self.invariant.0.punctual })

pub take_out-requires-clause-stocked : goal.take_out-requires-clause-stocked
take_out-requires-clause-stocked g c = rw (c.deref_mut.ensures.value ∙ ap (λ s. s.levels) c.self.view_is) c.requires.ready.stocked

pub take_out-requires-clause-lent : goal.take_out-requires-clause-lent
take_out-requires-clause-lent g c = rw (c.deref_mut.ensures.value ∙ ap (λ s. s.levels) c.self.view_is) c.requires.ready.lent

pub take_out-requires-clause-apart : goal.take_out-requires-clause-apart
take_out-requires-clause-apart g c = rw c.deref_mut.ensures.value c.self.invariant.0.apart

pub take_out-requires-clause-live : goal.take_out-requires-clause-live
take_out-requires-clause-live g c = rw (c.deref_mut.ensures.value ∙ ap (λ s. s.levels) c.self.view_is) c.requires.live

pub overflow_sub-self : goal.overflow_sub-self
overflow_sub-self g c =
    omega (arith, c.self.invariant.2, ap (λ s. length (live_items g.B.Part.Part.contents s.levels)) c.self.view_is, c.requires.live.1)

-- the tick saw the levels, and the vector holds what it made of them
seen : (g : Over) (c : goal.After-self-2-1 g) → c.deref_mut.result.now ≡ c.args.self.now.levels
seen g c = c.deref_mut.ensures.value ∙ ap (λ s. s.levels) c.self.view_is

whole : (g : Over) (c : goal.After-self-2-1 g)
    → take c.self.inside.levels.len (c.take_out.new.levels ++ drop (length c.take_out.new.levels) c.self.inside.levels.items) ≡ c.take_out.new.levels
whole g c =
    take_at c.take_out.new.levels (drop (length c.take_out.new.levels) c.self.inside.levels.items) c.self.inside.levels.len
    (omega (arith, c.take_out.auto.levels, c.deref_mut.ensures.len))

pub invariant_of-self : goal.invariant_of-self
invariant_of-self g c =
    let contents = g.B.Part.Part.contents in
    let stamp = g.B.Item.Item.stamp in
    let old = c.self.inside.levels.items in
    let new = c.take_out.new.levels in
    let e = c.take_out.ensures in
    let st = c.self.invariant.0 in
    let value : c.deref_mut.result.now ≡ old = c.deref_mut.ensures.value in
    let weight : weight_of new ≡ weight_of old = e.weight ∙ ap weight_of value in
    let light : weight_of old < 2 ^ 31 = omega (arith, c.requires.ready.light, ap (λ s. weight_of s.levels) c.self.view_is) in
    let live : length (live_items contents new) + 1 ≡ length (live_items contents old) =
    ap (λ n. n + 1) (Permuted-length (rw value at e.live)) ∙ one_fewer contents stamp old c.args.item.now st.apart (rw (← c.self.view_is) at c.requires.live) in
    rw (whole g c) (
      IsStack-ticked st e.on_time (AllStampsDiffer-part stamp (all_items contents new) (all_items contents old) (rw value at e.items) st.apart)
          (omega (arith, weight, light)) (c.take_out.auto.levels ∙ ap length value)
          (omega (arith, IsPartOf-length (all_items contents new) (all_items contents old) (rw value at e.items), st.small, weight)),
      omega (arith, weight, c.self.invariant.1),
      omega (arith, live, c.self.invariant.2),
      omega (arith, c.self.invariant.3),
    )

pub returns-clause-deletes : goal.returns-clause-deletes
returns-clause-deletes g c =
    let e = c.take_out.ensures in rw (whole g c, ← seen g c) (record { live = e.live; items = e.items; weight = e.weight; ticks = e.each })

pub returns-clause-trades : goal.returns-clause-trades
returns-clause-trades g c = rw (whole g c, ← seen g c) c.take_out.ensures.trades

pub returns-clause-cost : goal.returns-clause-cost
returns-clause-cost g c = rw (whole g c, ← seen g c) c.take_out.ensures.cost

pub returns-clause-few_asked : goal.returns-clause-few_asked
returns-clause-few_asked g c g' light =
    let contents = g.B.Part.Part.contents in
    let stamp = g.B.Item.Item.stamp in
    let old = c.self.inside.levels.items in
    let lighter : weight_of old < 2 ^ (g' + 1) = omega (arith, rw (whole g c) at light, c.take_out.ensures.weight, ap weight_of c.deref_mut.ensures.value) in
    rw (← c.self.view_is) (omega (
      arith,
      parts_asked-few contents stamp (stamp c.args.item.now) old,
      parts-few contents (profile g) old c.self.invariant.0.levels g' lighter,
    ))

pub returns-clause-paid : goal.returns-clause-paid
returns-clause-paid g c = rw (whole g c, ← seen g c) c.take_out.ensures.paid
