use Rattle.std.proofs.Common.{◌≡◌, ◌+◌, ◌-◌, ◌*◌, ◌∙◌, ◌∷◌, ◌^◌, ◌<◌, inr, length, ap, sym, subst, arith}
use Rattle.query_laws.specs.Permuted.{Permuted}
use Rattle.query_laws.proofs.Permutations.{Permuted-length}
use Rattle.log_levels.specs.Slots.{IsPartOf}
use Rattle.log_levels.specs.Levels.{live_items, all_items, weight_of}
use Rattle.log_levels.specs.Cost.{IsWithin, quotas}
use Rattle.log_levels.proofs.Spending.{IsWithin-more}
use Rattle.log_method.proofs.Taking.{lent_prepared}
use Rattle.chain_walk.specs.Walk.{live_in}
use Rattle.chain_walk.specs.Memory.{LendsFew}
use Rattle.chain_walk.proofs.Lending.{lends-none, lends-then, lends-prepared, lends-ticked}
use Rattle.chain_walk.proofs.Stocking.{ticks_less}
use Rattle.chain_walk.proofs.Walking.{IsWalkOf-next}
use Rattle.chain_walk.proofs.Handing.{handed_over}
use Rattle.chain_walk.proofs.walk.Walk.take_next.Given.{Over}
use Rattle.chain_walk.proofs.walk.Walk.take_next.Goals as goal

pub insert-requires-clause-ready : goal.insert-requires-clause-ready
insert-requires-clause-ready g c =
    let e = c.in_ok-prepare.ensures in
    let light : weight_of c.prepare.new.self.levels < 2 ^ 31 =
    omega (arith, e.same.weight, c.requires.light, ap (λ r. weight_of r.stack.levels) c.self.view_is) in
    let lent = rw (← c.self.view_is) at c.requires.lent in
    record {
      stocked = ticks_less _ _ (e.stocked light);
      lent = lent_prepared _ _ _ _ _ e.each e.taken lent;
      light = light;
    }

pub returns-clause-memory : goal.returns-clause-memory
returns-clause-memory g c =
    let e = c.in_ok-prepare.ensures in
    subst (λ r. LendsFew r.stack.levels c.args.store.now c.insert.new.self.levels c.insert.new.store) c.self.view_is
    (lends-then (lends-prepared e.each e.taken e.has_few) (lends-ticked c.insert.ensures.trades.trades))

pub returns-in_err-prepare-clause-memory : goal.returns-in_err-prepare-clause-memory
returns-in_err-prepare-clause-memory g c =
    let e = c.in_err-prepare.ensures in
    subst (λ r. LendsFew r.stack.levels c.args.store.now c.prepare.new.self.levels c.prepare.new.store) c.self.view_is (lends-prepared e.each e.taken e.has_few)

pub returns-in_default-clause-memory : goal.returns-in_default-clause-memory
returns-in_default-clause-memory g c = rw (← c.self.view_is) (lends-none _ _)

-- one more is live
more : (g : Over) (c : goal.After-self-1 g) → live_in g.B.Part.Part.contents c.insert.new.self ≡ live_in g.B.Part.Part.contents c.args.self.now.stack + 1
more g c =
    omega (arith, Permuted-length c.insert.ensures.inserts.live, ap length c.in_ok-prepare.ensures.same.live, ap (λ r. live_in g.B.Part.Part.contents r.stack) c.self.view_is)

pub returns-clause-taken : goal.returns-clause-taken
returns-clause-taken g c = inr (more g c)

pub returns-clause-handed : goal.returns-clause-handed
returns-clause-handed g c =
    handed_over 1 (more g c)
    (omega (arith, c.insert.ensures.inserts.weight, c.in_ok-prepare.ensures.same.weight, ap (λ r. weight_of r.stack.levels) c.self.view_is))
    (omega arith)

pub returns-in_err-prepare-clause-handed : goal.returns-in_err-prepare-clause-handed
returns-in_err-prepare-clause-handed g c =
    let same = c.in_err-prepare.ensures.same in
    handed_over 0 (omega (arith, ap length same.live, ap (λ r. live_in g.B.Part.Part.contents r.stack) c.self.view_is))
    (omega (arith, same.weight, ap (λ r. weight_of r.stack.levels) c.self.view_is))
    (omega arith)

pub returns-clause-chain : goal.returns-clause-chain
returns-clause-chain g c stamps rise h =
    let contents = g.B.Part.Part.contents in
    IsWalkOf-next contents g.B.Item.Item.stamp c.args.self.now (record { stack = c.insert.new.self; cursor = c.next-self-inside.result }) c.args.chain.now.entries
    stamps c.in-Some.handle c.item.result rise h (sym (ap (λ r. r.cursor) c.self.view_is) ∙ c.in-Some.is) c.item.ensures.item c.next-self-inside.ensures.linked
    (c.next-self-inside.ensures.before ∙ c.item.ensures.up_to)
    (subst (λ l. Permuted (live_items contents c.insert.new.self.levels) (c.item.result ∷ l)) (c.in_ok-prepare.ensures.same.live ∙ ap (λ r. live_items contents r.stack.levels) c.self.view_is) c.insert.ensures.inserts.live)
    (subst (λ l. IsPartOf (all_items contents c.insert.new.self.levels) (c.item.result ∷ l)) (c.in_ok-prepare.ensures.same.items ∙ ap (λ r. all_items contents r.stack.levels) c.self.view_is) c.insert.ensures.inserts.items)

pub returns-clause-cost : goal.returns-clause-cost
returns-clause-cost g c g' light =
    let live = live_in g.B.Part.Part.contents in
    let turns = quotas g.B.Builder.SLOPE g.B.Builder.BASE 0 g' in
    let one : 1 ≡ live c.insert.new.self - live c.args.self.now.stack = omega (arith, more g c) in
    subst (λ n. IsWithin (n * turns) (n * (2 * g')) (g.B.Part.Part.mark_touches g') c.args.steps.now c.insert.new.steps) one
    (IsWithin-more (c.insert.ensures.cost.within g' light) (omega arith) (omega arith) (omega arith))

pub returns-clause-some_turns : goal.returns-clause-some_turns
returns-clause-some_turns g c = omega (arith, more g c, c.insert.ensures.some_turns)

pub returns-in_err-prepare-clause-some_turns : goal.returns-in_err-prepare-clause-some_turns
returns-in_err-prepare-clause-some_turns g c =
    omega (arith, ap length c.in_err-prepare.ensures.same.live, ap (λ r. live_in g.B.Part.Part.contents r.stack) c.self.view_is)
