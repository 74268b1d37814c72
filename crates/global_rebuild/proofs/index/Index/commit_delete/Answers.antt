use Rattle.std.proofs.Common.{rules, ◌≡◌, ℕ, ◌+◌, ◌*◌, ◌^◌, ◌<◌, true, false, Some, None, refl, ap, subst, arith}
use Rattle.id_chain.specs.Chain.{is_linked, before_cursor}
use Rattle.part_store.specs.Store.{KeepsBoth}
use Rattle.log_levels.specs.Levels.{weight_of}
use Rattle.log_levels.specs.Cost.{IsWithin, quotas}
use Rattle.chain_walk.specs.Walk.{live_in}
use Rattle.global_rebuild.specs.Index.{IsIndexOf, is_heavy}
use Rattle.chain_walk.proofs.Forgetting.{live_item}
use Rattle.global_rebuild.proofs.Stocking.{stocked_less, main_ticks, shadow_ticks}
use Rattle.global_rebuild.proofs.Weights.{main_few, main_light}
use Rattle.chain_walk.proofs.Renewing.{one_delete}
use Rattle.global_rebuild.proofs.Dropping.{is_over, IsDropped, few_left, walked_light, walked_few_enough, walked_item, starts, stays_quiet, in_order_at, goes_on_without, goes_on_moved, goes_on_after, left_without, left_after, at_most_two, both_deletes}
use Rattle.global_rebuild.proofs.index.Index.commit_delete.Given.{Over}
use Rattle.global_rebuild.proofs.index.Index.commit_delete.Goals.{After-delete}
use Rattle.global_rebuild.proofs.index.Index.commit_delete.Goals as goal

pub delete-requires-clause-ready : goal.delete-requires-clause-ready
delete-requires-clause-ready g c =
    let p = rw (← c.self.view_is) at c.requires.prepared in
    main_ticks (stocked_less _ _ _ p.stocked) c.self.invariant.memory (main_light c.self.view_is c.self.invariant c.requires.chain.1)

pub delete-requires-clause-live : goal.delete-requires-clause-live
delete-requires-clause-live g c =
    let h = rw (← c.self.view_is) at c.requires.chain.1 in
    live_item c.args.handle c.item-item.result c.args.chain.now.entries h.live c.item-item.ensures.item

dropped : (g : Over) (c : After-delete g) (stamps : ℕ) → IsIndexOf g.B.Part.Part.contents g.B.Item.Item.stamp c.args.self.now c.args.chain.now.entries stamps
    → IsDropped g.B.Part.Part.contents g.B.Item.Item.stamp (record { store = c.self.inside.store; main = c.self.inside.main; shadow = c.self.inside.shadow; retired = c.self.inside.retired.items })
    c.args.self.now c.args.chain.now.entries stamps c.args.handle c.item-item.result c.delete.new.self c.delete.new.store
dropped g c stamps h = record {
  view = c.self.view_is;
  valid = c.self.invariant;
  prepared = c.requires.prepared;
  chain = h;
  linked = c.requires.linked;
  is = c.item-item.ensures.item;
  deletes = c.delete.ensures.deletes;
  ticks = c.delete.ensures.trades;
}

-- the same, whatever number is above the stamps
some_dropped : (g : Over) (c : After-delete g)
    → IsDropped g.B.Part.Part.contents g.B.Item.Item.stamp (record { store = c.self.inside.store; main = c.self.inside.main; shadow = c.self.inside.shadow; retired = c.self.inside.retired.items })
    c.args.self.now c.args.chain.now.entries c.requires.chain.0 c.args.handle c.item-item.result c.delete.new.self c.delete.new.store
some_dropped g c = dropped g c c.requires.chain.0 c.requires.chain.1

pub overflow_mul-weight : goal.overflow_mul-weight
overflow_mul-weight g c =
    let light = main_light c.self.view_is c.self.invariant c.requires.chain.1 in omega (arith, light, c.delete.ensures.deletes.weight, c.weight.ensures.value)

pub overflow_mul-live : goal.overflow_mul-live
overflow_mul-live g c = let few = few_left (some_dropped g (goal.at.overflow_mul-live g c).After-delete) in omega (arith, few, c.live.ensures)

pub overflow_add-live : goal.overflow_add-live
overflow_add-live g c = let few = few_left (some_dropped g (goal.at.overflow_add-live g c).After-delete) in omega (arith, few, c.live.ensures)

pub delete-requires-then-was_handed_over-clause-ready : goal.delete-requires-then-was_handed_over-clause-ready
delete-requires-then-was_handed_over-clause-ready g c =
    let p = rw (← c.self.view_is) at c.requires.prepared in
    shadow_ticks (stocked_less _ _ _ p.stocked) c.self.invariant.memory c.delete.new.self c.delete.new.store c.in-Some.shadow c.delete.ensures.trades c.in-Some.is
    (walked_light (some_dropped g (goal.at.delete-requires-then-was_handed_over-clause-ready g c).After-delete) c.in-Some.shadow c.in-Some.is)

pub delete-requires-then-was_handed_over-clause-live : goal.delete-requires-then-was_handed_over-clause-live
delete-requires-then-was_handed_over-clause-live g c =
    let walked : is_linked c.args.handle (before_cursor c.in-Some.shadow.cursor c.args.chain.now.entries) ≡ true = search rules in
    walked_item (some_dropped g (goal.at.delete-requires-then-was_handed_over-clause-live g c).After-delete) c.in-Some.shadow c.in-Some.is walked

pub invariant_of-self : goal.invariant_of-self
invariant_of-self g c =
    let f = some_dropped g (goal.at.invariant_of-self g c).After-delete in
    rw (c.start.ensures.started, c.new.ensures) (starts f (search rules) c.first_but.result c.first_but.ensures.cursor c.first_but.ensures.before).0

pub returns-then-weight-live-clause-chain : goal.returns-then-weight-live-clause-chain
returns-then-weight-live-clause-chain g c stamps h =
    let f = dropped g (goal.at.returns-then-weight-live-clause-chain g c).After-delete stamps h in
    rw (c.start.ensures.started, c.new.ensures) (starts f (search rules) c.first_but.result c.first_but.ensures.cursor c.first_but.ensures.before).1

pub invariant_of-self-else-weight-live : goal.invariant_of-self-else-weight-live
invariant_of-self-else-weight-live g c =
    let f = some_dropped g (goal.at.invariant_of-self-else-weight-live g c).After-delete in
    (stays_quiet f (search rules) (omega (arith, c.if-weight-live.false, c.weight.ensures.value, c.live.ensures))).0

pub returns-else-weight-live-clause-chain : goal.returns-else-weight-live-clause-chain
returns-else-weight-live-clause-chain g c stamps h =
    let f = dropped g (goal.at.returns-else-weight-live-clause-chain g c).After-delete stamps h in
    (stays_quiet f (search rules) (omega (arith, c.if-weight-live.false, c.weight.ensures.value, c.live.ensures))).1

pub invariant_of-self-then-was_handed_over : goal.invariant_of-self-then-was_handed_over
invariant_of-self-then-was_handed_over g c =
    let f = some_dropped g (goal.at.invariant_of-self-then-was_handed_over g c).After-delete in
    let e = c.delete-then-was_handed_over.ensures in
    (goes_on_without f c.in-Some.shadow c.in-Some.is c.delete-then-was_handed_over.new.self c.delete-then-was_handed_over.new.store e.cursor (search rules) e.deletes e.trades.trades).0

pub returns-then-was_handed_over-clause-chain : goal.returns-then-was_handed_over-clause-chain
returns-then-was_handed_over-clause-chain g c stamps h =
    let f = dropped g (goal.at.returns-then-was_handed_over-clause-chain g c).After-delete stamps h in
    let e = c.delete-then-was_handed_over.ensures in
    (goes_on_without f c.in-Some.shadow c.in-Some.is c.delete-then-was_handed_over.new.self c.delete-then-was_handed_over.new.store e.cursor (search rules) e.deletes e.trades.trades).1

pub invariant_of-self-then-eq : goal.invariant_of-self-then-eq
invariant_of-self-then-eq g c =
    let f = some_dropped g (goal.at.invariant_of-self-then-eq g c).After-delete in
    in_order_at f c.in-Some.shadow c.in-Some.is c.go_to.new.self (ap (λ s. s.stack) c.go_to.ensures)

pub returns-then-eq-clause-chain : goal.returns-then-eq-clause-chain
returns-then-eq-clause-chain g c stamps h =
    let f = dropped g (goal.at.returns-then-eq-clause-chain g c).After-delete stamps h in
    rw (c.go_to.ensures, c.next.ensures.neighbour) (goes_on_moved f c.in-Some.shadow c.in-Some.is (search rules)).1

pub invariant_of-self-else-eq : goal.invariant_of-self-else-eq
invariant_of-self-else-eq g c =
    in_order_at (some_dropped g (goal.at.invariant_of-self-else-eq g c).After-delete) c.in-Some.shadow c.in-Some.is c.in-Some.shadow refl

pub returns-else-eq-clause-chain : goal.returns-else-eq-clause-chain
returns-else-eq-clause-chain g c stamps h =
    (goes_on_after (dropped g (goal.at.returns-else-eq-clause-chain g c).After-delete stamps h) c.in-Some.shadow c.in-Some.is (search rules) (search rules)).1

main_delete : (g : Over) (c : After-delete g) (g' : ℕ) → 2 * live_in g.B.Part.Part.contents c.args.self.now.main + 10 < 2 ^ (g' + 1)
    → IsWithin (quotas g.B.Builder.SLOPE g.B.Builder.BASE 1 g') (5 * g' + 3) (g.B.Part.Part.mark_touches g') c.args.steps.now c.delete.new.steps
main_delete g c g' light =
    let lighter : weight_of c.delete.new.self.levels < 2 ^ (g' + 1) =
    omega (arith, main_few c.self.view_is c.self.invariant g' light, c.delete.ensures.deletes.weight) in
    one_delete g' (c.delete.ensures.cost.within g' lighter) (c.delete.ensures.few_asked g' lighter)

pub returns-then-weight-live-clause-cost : goal.returns-then-weight-live-clause-cost
returns-then-weight-live-clause-cost g c g' light = at_most_two (main_delete g (goal.at.returns-then-weight-live-clause-cost g c).After-delete g' light)

pub returns-else-weight-live-clause-cost : goal.returns-else-weight-live-clause-cost
returns-else-weight-live-clause-cost g c g' light = at_most_two (main_delete g (goal.at.returns-else-weight-live-clause-cost g c).After-delete g' light)

pub returns-then-eq-clause-cost : goal.returns-then-eq-clause-cost
returns-then-eq-clause-cost g c g' light = at_most_two (main_delete g (goal.at.returns-then-eq-clause-cost g c).After-delete g' light)

pub returns-else-eq-clause-cost : goal.returns-else-eq-clause-cost
returns-else-eq-clause-cost g c g' light = at_most_two (main_delete g (goal.at.returns-else-eq-clause-cost g c).After-delete g' light)

pub returns-then-was_handed_over-clause-cost : goal.returns-then-was_handed_over-clause-cost
returns-then-was_handed_over-clause-cost g c g' light =
    let d = (goal.at.returns-then-was_handed_over-clause-cost g c).After-delete in
    let lighter : weight_of c.delete-then-was_handed_over.new.self.stack.levels < 2 ^ (g' + 1) =
    omega (arith, walked_few_enough (some_dropped g d) c.in-Some.shadow c.in-Some.is g' light, c.delete-then-was_handed_over.ensures.deletes.weight) in
    both_deletes (main_delete g d g' light) (c.delete-then-was_handed_over.ensures.cost g' lighter)

pub returns-then-was_handed_over-clause-goes_on : goal.returns-then-was_handed_over-clause-goes_on
returns-then-was_handed_over-clause-goes_on g c r there =
    let f = some_dropped g (goal.at.returns-then-was_handed_over-clause-goes_on g c).After-delete in
    left_without f c.in-Some.shadow c.in-Some.is r there c.delete-then-was_handed_over.new.self.stack (search rules) c.delete-then-was_handed_over.ensures.deletes.live

pub returns-then-eq-clause-goes_on : goal.returns-then-eq-clause-goes_on
returns-then-eq-clause-goes_on g c r there =
    let f = some_dropped g (goal.at.returns-then-eq-clause-goes_on g c).After-delete in
    rw c.go_to.ensures (left_after f c.in-Some.shadow c.in-Some.is r there (search rules))

pub returns-else-eq-clause-goes_on : goal.returns-else-eq-clause-goes_on
returns-else-eq-clause-goes_on g c r there =
    left_after (some_dropped g (goal.at.returns-else-eq-clause-goes_on g c).After-delete) c.in-Some.shadow c.in-Some.is r there (search rules)

pub returns-then-weight-live-clause-held : goal.returns-then-weight-live-clause-held
returns-then-weight-live-clause-held g c = record {
  store = subst (λ i. KeepsBoth i.store c.delete.new.store) c.self.view_is c.delete.ensures.trades.trades.keeps;
  retired = ap (λ i. i.retired) c.self.view_is;
}

pub returns-then-weight-live-clause-starts : goal.returns-then-weight-live-clause-starts
returns-then-weight-live-clause-starts g c none =
    let heavy : is_heavy g.B.Part.Part.contents c.delete.new.self ≡ true =
    is_over (weight_of c.delete.new.self.levels) (live_in g.B.Part.Part.contents c.delete.new.self)
    (omega (arith, c.if-weight-live.true, c.weight.ensures.value, c.live.ensures)) in
    rw (c.start.ensures.started, c.new.ensures, heavy) (ap Some (omega arith))

pub returns-then-weight-live-clause-waiting : goal.returns-then-weight-live-clause-waiting
returns-then-weight-live-clause-waiting g c item at =
    let is : item ≡ c.item-item.result = cc in
    let none : c.self.inside.shadow ≡ None = search rules in
    rw (c.start.ensures.started, c.new.ensures, ← c.self.view_is, none, is) (omega (arith, c.delete.ensures.cost.drained))

pub returns-else-weight-live-clause-waiting : goal.returns-else-weight-live-clause-waiting
returns-else-weight-live-clause-waiting g c item at =
    let is : item ≡ c.item-item.result = cc in
    let none : c.self.inside.shadow ≡ None = search rules in
    rw (← c.self.view_is, none, is) (omega (arith, c.delete.ensures.cost.drained))

pub returns-then-was_handed_over-clause-waiting : goal.returns-then-was_handed_over-clause-waiting
returns-then-was_handed_over-clause-waiting g c item at =
    let is : item ≡ c.item-item.result = cc in
    let walked : is_linked c.args.handle (before_cursor c.in-Some.shadow.cursor c.args.chain.now.entries) ≡ true = search rules in
    rw (← c.self.view_is, c.in-Some.is, is, walked) (omega (arith, c.delete.ensures.cost.drained, c.delete-then-was_handed_over.ensures.waiting))

pub returns-then-eq-clause-waiting : goal.returns-then-eq-clause-waiting
returns-then-eq-clause-waiting g c item at =
    let is : item ≡ c.item-item.result = cc in
    let later : is_linked c.args.handle (before_cursor c.in-Some.shadow.cursor c.args.chain.now.entries) ≡ false = search rules in
    rw (← c.self.view_is, c.in-Some.is, is, later, c.go_to.ensures) (omega (arith, c.delete.ensures.cost.drained))

pub returns-else-eq-clause-waiting : goal.returns-else-eq-clause-waiting
returns-else-eq-clause-waiting g c item at =
    let is : item ≡ c.item-item.result = cc in
    let later : is_linked c.args.handle (before_cursor c.in-Some.shadow.cursor c.args.chain.now.entries) ≡ false = search rules in
    rw (← c.self.view_is, c.in-Some.is, is, later) (omega (arith, c.delete.ensures.cost.drained))
