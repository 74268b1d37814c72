use Rattle.std.proofs.Common.{rules, ◌≡◌, ℕ, ◌+◌, ◌*◌, ◌^◌, ◌<◌, ◌≤◌, ◌∙◌, true, false, List, Some, None, refl, ap, subst, arith}
use Rattle.id_chain.specs.Chain.{is_linked, before_cursor}
use Rattle.part_store.specs.Store.{KeepsBoth}
use Rattle.log_levels.specs.Slots.{Slots}
use Rattle.log_levels.specs.Levels.{all_items, weight_of}
use Rattle.log_levels.specs.Cost.{IsWithin, quotas}
use Rattle.log_levels.specs.Towers.{TakeTicks}
use Rattle.log_levels.proofs.Spending.{IsWithin-more, IsWithin-then, below_power}
use Rattle.chain_walk.specs.Walk.{live_in}
use Rattle.global_rebuild.specs.Index.{is_heavy}
use Rattle.chain_walk.proofs.Forgetting.{live_item}
use Rattle.global_rebuild.proofs.Stocking.{stocked_less, main_ticks, main_ticks_again, shadow_ticks_after}
use Rattle.chain_walk.proofs.Walking.{All-part}
use Rattle.global_rebuild.proofs.Weights.{main_few, main_light}
use Rattle.chain_walk.proofs.Renewing.{one_delete}
use Rattle.global_rebuild.proofs.Dropping.{is_over, IsDropped, walked_light, walked_few_enough, walked_item}
use Rattle.chain_walk.proofs.Renewing.{turns_rise}
use Rattle.global_rebuild.proofs.Moving.{IsMoved, keeps_then, few_then, heavier, moved_quiet, moved_starts, moved_without, in_order_at, moved_at, moved_after, more_left, as_many_left}
use Rattle.global_rebuild.proofs.index.Index.commit_move.Given.{Over}
use Rattle.global_rebuild.proofs.index.Index.commit_move.Goals.{After-insert}
use Rattle.global_rebuild.proofs.index.Index.commit_move.Goals as goal

pub delete-requires-clause-ready : goal.delete-requires-clause-ready
delete-requires-clause-ready g c =
    let p = rw (← c.self.view_is) at c.requires.prepared in
    main_ticks (stocked_less _ _ _ p.stocked) c.self.invariant.memory (main_light c.self.view_is c.self.invariant c.requires.chain)

pub delete-requires-clause-live : goal.delete-requires-clause-live
delete-requires-clause-live g c =
    let h = rw (← c.self.view_is) at c.requires.chain in
    live_item c.args.handle c.item-gone.result c.args.chain.now.entries h.live c.item-gone.ensures.item

pub insert-requires-clause-ready : goal.insert-requires-clause-ready
insert-requires-clause-ready g c =
    let p = rw (← c.self.view_is) at c.requires.prepared in
    main_ticks_again p.stocked c.self.invariant.memory c.delete.new.self c.delete.new.store c.delete.ensures.trades
    (omega (arith, main_light c.self.view_is c.self.invariant c.requires.chain, c.delete.ensures.deletes.weight))

pub insert-requires-clause-apart : goal.insert-requires-clause-apart
insert-requires-clause-apart g c k d within same =
    let h = rw (← c.self.view_is) at c.requires.chain in
    let stamp = g.B.Item.Item.stamp in
    let low = All-part (λ x. stamp x < stamp c.args.item) (all_items g.B.Part.Part.contents c.delete.new.self.levels)
    (all_items g.B.Part.Part.contents c.self.inside.main.levels) c.delete.ensures.deletes.items h.below k d within in
    omega (arith, low, same)

dropped : (g : Over) (c : After-insert g)
    → IsDropped g.B.Part.Part.contents g.B.Item.Item.stamp (record { store = c.self.inside.store; main = c.self.inside.main; shadow = c.self.inside.shadow; retired = c.self.inside.retired.items })
    c.args.self.now c.args.chain.now.entries (g.B.Item.Item.stamp c.args.item) c.args.handle c.item-gone.result c.delete.new.self c.delete.new.store
dropped g c = record {
  view = c.self.view_is;
  valid = c.self.invariant;
  prepared = c.requires.prepared;
  chain = c.requires.chain;
  linked = c.requires.linked;
  is = c.item-gone.ensures.item;
  deletes = c.delete.ensures.deletes;
  ticks = c.delete.ensures.trades;
}

moved : (g : Over) (c : After-insert g)
    → IsMoved g.B.Part.Part.contents g.B.Item.Item.stamp (record { store = c.self.inside.store; main = c.self.inside.main; shadow = c.self.inside.shadow; retired = c.self.inside.retired.items })
    c.args.self.now c.args.chain.now.entries c.args.handle c.item-gone.result c.args.item c.delete.new.self c.insert.new.self c.delete.new.store c.insert.new.store
moved g c = record { dropped = dropped g c; inserts = c.insert.ensures.inserts; ticks = c.insert.ensures.trades }

pub overflow_mul-weight : goal.overflow_mul-weight
overflow_mul-weight g c =
    let m = moved g (goal.at.overflow_mul-weight g c).After-insert in
    omega (arith, main_light c.self.view_is c.self.invariant c.requires.chain, heavier m, c.weight.ensures.value)

pub overflow_mul-live : goal.overflow_mul-live
overflow_mul-live g c =
    let m = moved g (goal.at.overflow_mul-live g c).After-insert in
    omega (arith, few_then m, c.live.ensures)

pub overflow_add-live : goal.overflow_add-live
overflow_add-live g c =
    let m = moved g (goal.at.overflow_add-live g c).After-insert in
    omega (arith, few_then m, c.live.ensures)

pub delete-requires-then-is_in_shadow-clause-ready : goal.delete-requires-then-is_in_shadow-clause-ready
delete-requires-then-is_in_shadow-clause-ready g c =
    let p = rw (← c.self.view_is) at c.requires.prepared in
    let m = moved g (goal.at.delete-requires-then-is_in_shadow-clause-ready g c).After-insert in
    shadow_ticks_after p.stocked c.self.invariant.memory c.delete.new.self c.insert.new.self c.delete.new.store c.insert.new.store c.in-Some.shadow
    c.delete.ensures.trades c.insert.ensures.trades c.in-Some.is (walked_light m.dropped c.in-Some.shadow c.in-Some.is)

pub delete-requires-then-is_in_shadow-clause-live : goal.delete-requires-then-is_in_shadow-clause-live
delete-requires-then-is_in_shadow-clause-live g c =
    let m = moved g (goal.at.delete-requires-then-is_in_shadow-clause-live g c).After-insert in
    let walked : is_linked c.args.handle (before_cursor c.in-Some.shadow.cursor c.args.chain.now.entries) ≡ true = search rules in
    walked_item m.dropped c.in-Some.shadow c.in-Some.is walked

pub invariant_of-self : goal.invariant_of-self
invariant_of-self g c =
    let m = moved g (goal.at.invariant_of-self g c).After-insert in
    rw (c.start.ensures.started, c.new.ensures)
    (moved_starts m (search rules) c.first_renewed.result (c.first_renewed.ensures.cursor c.args.item) (c.first_renewed.ensures.before c.args.item)).0

pub returns-then-weight-live-clause-chain : goal.returns-then-weight-live-clause-chain
returns-then-weight-live-clause-chain g c =
    let m = moved g (goal.at.returns-then-weight-live-clause-chain g c).After-insert in
    rw (c.start.ensures.started, c.new.ensures)
    (moved_starts m (search rules) c.first_renewed.result (c.first_renewed.ensures.cursor c.args.item) (c.first_renewed.ensures.before c.args.item)).1

pub invariant_of-self-else-weight-live : goal.invariant_of-self-else-weight-live
invariant_of-self-else-weight-live g c =
    let m = moved g (goal.at.invariant_of-self-else-weight-live g c).After-insert in
    (moved_quiet m (search rules) (omega (arith, c.if-weight-live.false, c.weight.ensures.value, c.live.ensures))).0

pub returns-else-weight-live-clause-chain : goal.returns-else-weight-live-clause-chain
returns-else-weight-live-clause-chain g c =
    let m = moved g (goal.at.returns-else-weight-live-clause-chain g c).After-insert in
    (moved_quiet m (search rules) (omega (arith, c.if-weight-live.false, c.weight.ensures.value, c.live.ensures))).1

pub invariant_of-self-then-is_in_shadow : goal.invariant_of-self-then-is_in_shadow
invariant_of-self-then-is_in_shadow g c =
    let m = moved g (goal.at.invariant_of-self-then-is_in_shadow g c).After-insert in
    let e = c.delete-then-is_in_shadow.ensures in
    (moved_without m c.in-Some.shadow c.in-Some.is c.delete-then-is_in_shadow.new.self c.delete-then-is_in_shadow.new.store e.cursor (search rules) e.deletes
    e.trades.trades).0

pub returns-then-is_in_shadow-clause-chain : goal.returns-then-is_in_shadow-clause-chain
returns-then-is_in_shadow-clause-chain g c =
    let m = moved g (goal.at.returns-then-is_in_shadow-clause-chain g c).After-insert in
    let e = c.delete-then-is_in_shadow.ensures in
    (moved_without m c.in-Some.shadow c.in-Some.is c.delete-then-is_in_shadow.new.self c.delete-then-is_in_shadow.new.store e.cursor (search rules) e.deletes
    e.trades.trades).1

pub invariant_of-self-then-eq : goal.invariant_of-self-then-eq
invariant_of-self-then-eq g c =
    let m = moved g (goal.at.invariant_of-self-then-eq g c).After-insert in
    in_order_at m c.in-Some.shadow c.in-Some.is c.go_to.new.self (ap (λ s. s.stack) c.go_to.ensures)

pub returns-then-eq-clause-chain : goal.returns-then-eq-clause-chain
returns-then-eq-clause-chain g c =
    let m = moved g (goal.at.returns-then-eq-clause-chain g c).After-insert in
    (moved_at m c.in-Some.shadow c.in-Some.is (search rules) c.go_to.new.self (ap (λ s. s.stack) c.go_to.ensures) (ap (λ s. s.cursor) c.go_to.ensures ∙ cc)).1

pub invariant_of-self-else-eq : goal.invariant_of-self-else-eq
invariant_of-self-else-eq g c =
    in_order_at (moved g (goal.at.invariant_of-self-else-eq g c).After-insert) c.in-Some.shadow c.in-Some.is c.in-Some.shadow refl

pub returns-else-eq-clause-chain : goal.returns-else-eq-clause-chain
returns-else-eq-clause-chain g c =
    (moved_after (moved g (goal.at.returns-else-eq-clause-chain g c).After-insert) c.in-Some.shadow c.in-Some.is (search rules) (search rules)).1

-- what both ticks of the main stack cost
main_ticked : (g : Over) (c : After-insert g) (g' : ℕ) → 2 * live_in g.B.Part.Part.contents c.args.self.now.main + 10 < 2 ^ (g' + 1)
    → IsWithin (quotas g.B.Builder.SLOPE g.B.Builder.BASE 1 g' + quotas g.B.Builder.SLOPE g.B.Builder.BASE 0 g') (5 * g' + 3 + 2 * g') (g.B.Part.Part.mark_touches g')
    c.args.steps.now c.insert.new.steps
main_ticked g c g' light =
    let few = main_few c.self.view_is c.self.invariant g' light in
    let first : weight_of c.delete.new.self.levels < 2 ^ (g' + 1) = omega (arith, few, c.delete.ensures.deletes.weight) in
    let second : weight_of c.insert.new.self.levels < 2 ^ (g' + 1) = omega (arith, few, c.delete.ensures.deletes.weight, c.insert.ensures.inserts.weight) in
    IsWithin-then (one_delete g' (c.delete.ensures.cost.within g' first) (c.delete.ensures.few_asked g' first)) (c.insert.ensures.cost.within g' second)

pub returns-then-weight-live-clause-cost : goal.returns-then-weight-live-clause-cost
returns-then-weight-live-clause-cost g c g' light =
    IsWithin-more (main_ticked g (goal.at.returns-then-weight-live-clause-cost g c).After-insert g' light) (omega arith) (omega arith) (omega arith)

pub returns-else-weight-live-clause-cost : goal.returns-else-weight-live-clause-cost
returns-else-weight-live-clause-cost g c g' light =
    IsWithin-more (main_ticked g (goal.at.returns-else-weight-live-clause-cost g c).After-insert g' light) (omega arith) (omega arith) (omega arith)

pub returns-then-eq-clause-cost : goal.returns-then-eq-clause-cost
returns-then-eq-clause-cost g c g' light =
    IsWithin-more (main_ticked g (goal.at.returns-then-eq-clause-cost g c).After-insert g' light) (omega arith) (omega arith) (omega arith)

pub returns-else-eq-clause-cost : goal.returns-else-eq-clause-cost
returns-else-eq-clause-cost g c g' light =
    IsWithin-more (main_ticked g (goal.at.returns-else-eq-clause-cost g c).After-insert g' light) (omega arith) (omega arith) (omega arith)

pub returns-then-is_in_shadow-clause-cost : goal.returns-then-is_in_shadow-clause-cost
returns-then-is_in_shadow-clause-cost g c g' light =
    let d = (goal.at.returns-then-is_in_shadow-clause-cost g c).After-insert in
    let m = moved g d in
    let lighter : weight_of c.delete-then-is_in_shadow.new.self.stack.levels < 2 ^ (g' + 1) =
    omega (arith, walked_few_enough m.dropped c.in-Some.shadow c.in-Some.is g' light, c.delete-then-is_in_shadow.ensures.deletes.weight) in
    IsWithin-more (IsWithin-then (main_ticked g d g' light) (c.delete-then-is_in_shadow.ensures.cost g' lighter)) (omega arith) (omega arith) (omega arith)

-- no turn is taken back
turned : (g : Over) (c : After-insert g) → c.args.steps.now.turns + 3 ≤ c.insert.new.steps.turns
turned g c =
    let w : ℕ = weight_of c.delete.new.self.levels in
    omega (arith, turns_rise (c.delete.ensures.cost.within w (below_power w)), c.insert.ensures.some_turns)

pub returns-then-weight-live-clause-some_turns : goal.returns-then-weight-live-clause-some_turns
returns-then-weight-live-clause-some_turns g c = turned g (goal.at.returns-then-weight-live-clause-some_turns g c).After-insert

pub returns-else-weight-live-clause-some_turns : goal.returns-else-weight-live-clause-some_turns
returns-else-weight-live-clause-some_turns g c = turned g (goal.at.returns-else-weight-live-clause-some_turns g c).After-insert

pub returns-then-is_in_shadow-clause-some_turns : goal.returns-then-is_in_shadow-clause-some_turns
returns-then-is_in_shadow-clause-some_turns g c =
    let w : ℕ = weight_of c.delete-then-is_in_shadow.new.self.stack.levels in
    omega (arith, turned g (goal.at.returns-then-is_in_shadow-clause-some_turns g c).After-insert, turns_rise (c.delete-then-is_in_shadow.ensures.cost w (below_power w)))

pub returns-then-eq-clause-some_turns : goal.returns-then-eq-clause-some_turns
returns-then-eq-clause-some_turns g c = turned g (goal.at.returns-then-eq-clause-some_turns g c).After-insert

pub returns-else-eq-clause-some_turns : goal.returns-else-eq-clause-some_turns
returns-else-eq-clause-some_turns g c = turned g (goal.at.returns-else-eq-clause-some_turns g c).After-insert

-- both ticks of the main stack, one after the other
two_ticks : (g : Over) (c : After-insert g) → (between : List (Slots g.row.B-Part.Denot g.row.B-Item.Denot)) × TakeTicks c.args.self.now.main.levels between
    × TakeTicks between c.insert.new.self.levels
two_ticks g c = (
  c.delete.new.self.levels,
  subst (λ i. TakeTicks i.main.levels c.delete.new.self.levels) c.self.view_is c.delete.ensures.deletes.ticks,
  c.insert.ensures.inserts.ticks,
)

pub returns-then-weight-live-clause-ticks : goal.returns-then-weight-live-clause-ticks
returns-then-weight-live-clause-ticks g c = two_ticks g (goal.at.returns-then-weight-live-clause-ticks g c).After-insert

pub returns-else-weight-live-clause-ticks : goal.returns-else-weight-live-clause-ticks
returns-else-weight-live-clause-ticks g c = two_ticks g (goal.at.returns-else-weight-live-clause-ticks g c).After-insert

pub returns-then-is_in_shadow-clause-ticks : goal.returns-then-is_in_shadow-clause-ticks
returns-then-is_in_shadow-clause-ticks g c = two_ticks g (goal.at.returns-then-is_in_shadow-clause-ticks g c).After-insert

pub returns-then-eq-clause-ticks : goal.returns-then-eq-clause-ticks
returns-then-eq-clause-ticks g c = two_ticks g (goal.at.returns-then-eq-clause-ticks g c).After-insert

pub returns-else-eq-clause-ticks : goal.returns-else-eq-clause-ticks
returns-else-eq-clause-ticks g c = two_ticks g (goal.at.returns-else-eq-clause-ticks g c).After-insert

-- what is in memory after both
kept : (g : Over) (c : After-insert g) → KeepsBoth c.args.self.now.store c.insert.new.store
kept g c = subst (λ i. KeepsBoth i.store c.insert.new.store) c.self.view_is (keeps_then c.delete.ensures.trades.trades.keeps c.insert.ensures.trades.trades.keeps)

pub returns-then-weight-live-clause-held : goal.returns-then-weight-live-clause-held
returns-then-weight-live-clause-held g c = record { store = kept g (goal.at.returns-then-weight-live-clause-held g c).After-insert; retired = ap (λ i. i.retired) c.self.view_is }

pub returns-else-weight-live-clause-held : goal.returns-else-weight-live-clause-held
returns-else-weight-live-clause-held g c = record { store = kept g (goal.at.returns-else-weight-live-clause-held g c).After-insert; retired = ap (λ i. i.retired) c.self.view_is }

pub returns-then-is_in_shadow-clause-held : goal.returns-then-is_in_shadow-clause-held
returns-then-is_in_shadow-clause-held g c = record { store = keeps_then (kept g (goal.at.returns-then-is_in_shadow-clause-held g c).After-insert) c.delete-then-is_in_shadow.ensures.trades.trades.keeps; retired = ap (λ i. i.retired) c.self.view_is }

pub returns-then-eq-clause-held : goal.returns-then-eq-clause-held
returns-then-eq-clause-held g c = record { store = kept g (goal.at.returns-then-eq-clause-held g c).After-insert; retired = ap (λ i. i.retired) c.self.view_is }

pub returns-else-eq-clause-held : goal.returns-else-eq-clause-held
returns-else-eq-clause-held g c = record { store = kept g (goal.at.returns-else-eq-clause-held g c).After-insert; retired = ap (λ i. i.retired) c.self.view_is }

pub returns-then-is_in_shadow-clause-goes_on : goal.returns-then-is_in_shadow-clause-goes_on
returns-then-is_in_shadow-clause-goes_on g c r there =
    let m = moved g (goal.at.returns-then-is_in_shadow-clause-goes_on g c).After-insert in
    more_left m c.in-Some.shadow c.in-Some.is r there c.delete-then-is_in_shadow.new.self.stack (search rules) c.delete-then-is_in_shadow.ensures.deletes.live

pub returns-then-eq-clause-goes_on : goal.returns-then-eq-clause-goes_on
returns-then-eq-clause-goes_on g c r there =
    let m = moved g (goal.at.returns-then-eq-clause-goes_on g c).After-insert in
    rw c.go_to.ensures (as_many_left m c.in-Some.shadow c.in-Some.is r there (search rules))

pub returns-else-eq-clause-goes_on : goal.returns-else-eq-clause-goes_on
returns-else-eq-clause-goes_on g c r there =
    as_many_left (moved g (goal.at.returns-else-eq-clause-goes_on g c).After-insert) c.in-Some.shadow c.in-Some.is r there (search rules)

pub returns-then-weight-live-clause-starts : goal.returns-then-weight-live-clause-starts
returns-then-weight-live-clause-starts g c none =
    let heavy : is_heavy g.B.Part.Part.contents c.insert.new.self ≡ true =
    is_over (weight_of c.insert.new.self.levels) (live_in g.B.Part.Part.contents c.insert.new.self)
    (omega (arith, c.if-weight-live.true, c.weight.ensures.value, c.live.ensures)) in
    rw (c.start.ensures.started, c.new.ensures, heavy) (ap Some (omega arith))

pub returns-then-weight-live-clause-waiting : goal.returns-then-weight-live-clause-waiting
returns-then-weight-live-clause-waiting g c gone at =
    let is : gone ≡ c.item-gone.result = cc in
    let none : c.self.inside.shadow ≡ None = search rules in
    rw (c.start.ensures.started, c.new.ensures, ← c.self.view_is, none, is) (omega (arith, c.delete.ensures.cost.drained, c.insert.ensures.cost.drained))

pub returns-else-weight-live-clause-waiting : goal.returns-else-weight-live-clause-waiting
returns-else-weight-live-clause-waiting g c gone at =
    let is : gone ≡ c.item-gone.result = cc in
    let none : c.self.inside.shadow ≡ None = search rules in
    rw (← c.self.view_is, none, is) (omega (arith, c.delete.ensures.cost.drained, c.insert.ensures.cost.drained))

pub returns-then-is_in_shadow-clause-waiting : goal.returns-then-is_in_shadow-clause-waiting
returns-then-is_in_shadow-clause-waiting g c gone at =
    let is : gone ≡ c.item-gone.result = cc in
    let walked : is_linked c.args.handle (before_cursor c.in-Some.shadow.cursor c.args.chain.now.entries) ≡ true = search rules in
    rw (← c.self.view_is, c.in-Some.is, is, walked)
    (omega (arith, c.delete.ensures.cost.drained, c.insert.ensures.cost.drained, c.delete-then-is_in_shadow.ensures.waiting))

pub returns-then-eq-clause-waiting : goal.returns-then-eq-clause-waiting
returns-then-eq-clause-waiting g c gone at =
    let is : gone ≡ c.item-gone.result = cc in
    let later : is_linked c.args.handle (before_cursor c.in-Some.shadow.cursor c.args.chain.now.entries) ≡ false = search rules in
    rw (← c.self.view_is, c.in-Some.is, is, later, c.go_to.ensures) (omega (arith, c.delete.ensures.cost.drained, c.insert.ensures.cost.drained))

pub returns-else-eq-clause-waiting : goal.returns-else-eq-clause-waiting
returns-else-eq-clause-waiting g c gone at =
    let is : gone ≡ c.item-gone.result = cc in
    let later : is_linked c.args.handle (before_cursor c.in-Some.shadow.cursor c.args.chain.now.entries) ≡ false = search rules in
    rw (← c.self.view_is, c.in-Some.is, is, later) (omega (arith, c.delete.ensures.cost.drained, c.insert.ensures.cost.drained))
