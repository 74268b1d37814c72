use Rattle.std.proofs.Common.{◌≡◌, ◌+◌, ◌^◌, ◌<◌, ◌∙◌, ◌∷◌, ◌++◌, length, take, drop, ap, arith}
use Rattle.std.proofs.lemmas.List.{take_at}
use Rattle.query_laws.proofs.Permutations.{Permuted-length}
use Rattle.log_levels.specs.Levels.{weight_of, all_items}
use Rattle.log_levels.proofs.Distinct.{AllStampsDiffer-push, AllStampsDiffer-part}
use Rattle.log_method.proofs.Stacks.{IsStack-ticked, IsPartOf-length}
use Rattle.log_method.proofs.stack.Stack.insert.Given.{Over}
use Rattle.log_method.proofs.stack.Stack.insert.Goals as goal

pub take_in-requires-clause-levels : goal.take_in-requires-clause-levels
take_in-requires-clause-levels g c = rw c.deref_mut.ensures.value c.self.invariant.0.levels

pub take_in-requires-clause-stocked : goal.take_in-requires-clause-stocked
take_in-requires-clause-stocked g c = rw (c.deref_mut.ensures.value ∙ ap (λ s. s.levels) c.self.view_is) c.requires.ready.stocked

pub take_in-requires-clause-lent : goal.take_in-requires-clause-lent
take_in-requires-clause-lent g c = rw (c.deref_mut.ensures.value ∙ ap (λ s. s.levels) c.self.view_is) c.requires.ready.lent

pub take_in-requires-clause-apart : goal.take_in-requires-clause-apart
take_in-requires-clause-apart g c =
    rw c.deref_mut.ensures.value (AllStampsDiffer-push g.B.Item.Item.stamp c.args.item (all_items g.B.Part.Part.contents c.self.inside.levels.items)
    (rw (← c.self.view_is) at c.requires.apart) c.self.invariant.0.apart)

pub overflow_add-self-2 : goal.overflow_add-self-2
overflow_add-self-2 g c = omega (arith, c.self.invariant.0.light, c.self.invariant.1, c.self.invariant.3)

-- the tick saw the levels, and the vector holds what it made of them
seen : (g : Over) (c : goal.After-self-3-1 g) → c.deref_mut.result.now ≡ c.args.self.now.levels
seen g c = c.deref_mut.ensures.value ∙ ap (λ s. s.levels) c.self.view_is

whole : (g : Over) (c : goal.After-self-3-1 g)
    → take c.self.inside.levels.len (c.take_in.new.levels ++ drop (length c.take_in.new.levels) c.self.inside.levels.items) ≡ c.take_in.new.levels
whole g c =
    take_at c.take_in.new.levels (drop (length c.take_in.new.levels) c.self.inside.levels.items) c.self.inside.levels.len
    (omega (arith, c.take_in.auto.levels, c.deref_mut.ensures.len))

pub invariant_of-self : goal.invariant_of-self
invariant_of-self g c =
    let contents = g.B.Part.Part.contents in
    let stamp = g.B.Item.Item.stamp in
    let old = c.self.inside.levels.items in
    let new = c.take_in.new.levels in
    let e = c.take_in.ensures in
    let st = c.self.invariant.0 in
    let value : c.deref_mut.result.now ≡ old = c.deref_mut.ensures.value in
    let weight : weight_of new ≡ weight_of old + 1 = e.weight ∙ ap (λ ls. weight_of ls + 1) value in
    let light : weight_of old < 2 ^ 31 = omega (arith, c.requires.ready.light, ap (λ s. weight_of s.levels) c.self.view_is) in
    let live = Permuted-length (rw value at e.live) in
    let more = IsPartOf-length (all_items contents new) (c.args.item ∷ all_items contents old) (rw value at e.items) in
    let apart = AllStampsDiffer-push stamp c.args.item (all_items contents old) (rw (← c.self.view_is) at c.requires.apart) st.apart in
    rw (whole g c) (
      IsStack-ticked st e.on_time
          (AllStampsDiffer-part stamp (all_items contents new) (c.args.item ∷ all_items contents old) (rw value at e.items) apart)
          (omega (arith, weight, light)) (c.take_in.auto.levels ∙ ap length value) (omega (arith, more, st.small, weight)),
      omega (arith, weight, c.self.invariant.1),
      omega (arith, live, c.self.invariant.2),
      omega (arith, c.self.invariant.3),
    )

pub returns-clause-inserts : goal.returns-clause-inserts
returns-clause-inserts g c =
    let e = c.take_in.ensures in rw (whole g c, ← seen g c) (record { live = e.live; items = e.items; weight = e.weight; ticks = e.each })

pub returns-clause-trades : goal.returns-clause-trades
returns-clause-trades g c = rw (whole g c, ← seen g c) c.take_in.ensures.trades

pub returns-clause-cost : goal.returns-clause-cost
returns-clause-cost g c = rw (whole g c, ← seen g c) c.take_in.ensures.cost

pub returns-clause-paid : goal.returns-clause-paid
returns-clause-paid g c = rw (whole g c, ← seen g c) c.take_in.ensures.paid
