use Rattle.std.proofs.Common.{ℕ, ◌-◌, ◌∷◌, ◌∙◌, length, ap, sym, subst, arith}
use Rattle.query_laws.specs.Permuted.{composed}
use Rattle.builder_trait.specs.Builders.{PartProfile, IsQuota, begun}
use Rattle.builder_trait.specs.Parts.{live_of}
use Rattle.log_levels.specs.Levels.{weight_of, all_items}
use Rattle.log_levels.proofs.Clocks.{TakeTicks-from, clocks-worked}
use Rattle.log_levels.proofs.Distinct.{AllStampsDiffer-part, IsPartOf-permuted, IsPartOf-then}
use Rattle.log_levels.proofs.Paying.{due_of-worked, saved_of-worked}
use Rattle.log_levels.proofs.Spending.{below_power, IsWithin-one, IsWithin-first}
use Rattle.log_levels.proofs.Ticking.{HasArrived, has_arrived}
use Rattle.log_levels.proofs.visiting.take_in.Given.{Over}
use Rattle.log_levels.proofs.visiting.take_in.Goals.{After-arrive}
use Rattle.log_levels.proofs.visiting.take_in.Goals as goal

abbrev profile : (g : Over) → PartProfile g.row.B-Item.Denot
profile g = record { stamp = g.B.Item.Item.stamp; before = g.B.Item.Item.before; slope = g.B.Builder.SLOPE; base = g.B.Builder.BASE }

pub lend_builder-builder-requires : goal.lend_builder-builder-requires
lend_builder-builder-requires g c = omega (arith, c.requires.stocked.builders 0)

pub part_of_one-part-requires : goal.part_of_one-part-requires
part_of_one-part-requires g c =
    let b = c.lend_builder-builder.ensures.begun in b ∙ ap begun (sym (ap (λ p. p.at_level) b))

pub arrive-requires : goal.arrive-requires
arrive-requires g c =
    let whole = c.part_of_one-part.ensures.whole in
    record {
      levels = c.requires.levels;
      quiet = c.requires.stocked.quiet;
      of_level = record {
        at_level = ap (λ v. v.at_level) whole ∙ ap (λ p. p.at_level) c.lend_builder-builder.ensures.begun;
        fits = omega (arith, ap (λ v. length v.items) whole);
      };
    }

-- the part that has arrived
arrival : (g : Over) (c : After-arrive g)
    → HasArrived g.B.Part.Part.contents (profile g) c.args.item c.args.levels.now c.arrive.new.levels c.args.store.now c.lend_builder-builder.new.self
arrival g c =
    let whole = c.part_of_one-part.ensures.whole in
    has_arrived g.B.Part.Part.contents (profile g) c.part_of_one-part.result (ap (λ v. v.items) whole) (ap live_of whole) c.args.levels.now c.arrive.new.levels
    c.lend_builder-builder.ensures.lent c.requires.levels c.arrive.ensures c.requires.stocked c.requires.lent

pub take_tick-requires : goal.take_tick-requires
take_tick-requires g c =
    let contents = g.B.Part.Part.contents in
    let a = arrival g (goal.at.take_tick-requires g c).After-arrive in
    record {
      halfway = a.halfway;
      ready = a.ready;
      apart = AllStampsDiffer-part g.B.Item.Item.stamp (all_items contents c.arrive.new.levels) (c.args.item ∷ all_items contents c.args.levels.now)
          (IsPartOf-permuted (all_items contents c.arrive.new.levels) a.items) c.requires.apart;
    }

pub returns-clause-live : goal.returns-clause-live
returns-clause-live g c = composed c.take_tick.ensures.ticked.live (arrival g (goal.at.returns-clause-live g c).After-arrive).live

pub returns-clause-items : goal.returns-clause-items
returns-clause-items g c =
    let contents = g.B.Part.Part.contents in
    let a = arrival g (goal.at.returns-clause-items g c).After-arrive in
    let mid = c.arrive.new.levels in
    IsPartOf-then (all_items contents c.take_tick.new.levels) (all_items contents mid) (c.args.item ∷ all_items contents c.args.levels.now)
    c.take_tick.ensures.ticked.items (IsPartOf-permuted (all_items contents mid) a.items)

pub returns-clause-weight : goal.returns-clause-weight
returns-clause-weight g c = c.take_tick.ensures.ticked.weight ∙ (arrival g (goal.at.returns-clause-weight g c).After-arrive).weight

pub returns-clause-each : goal.returns-clause-each
returns-clause-each g c =
    let a = arrival g (goal.at.returns-clause-each g c).After-arrive in
    let old = c.args.levels.now in
    let mid = c.arrive.new.levels in
    TakeTicks-from old mid c.take_tick.new.levels a.numbers (clocks-worked old mid a.work) c.take_tick.ensures.each

pub returns-clause-trades : goal.returns-clause-trades
returns-clause-trades g c =
    (arrival g (goal.at.returns-clause-trades g c).After-arrive).ticks c.take_tick.new.levels c.take_tick.new.store c.take_tick.ensures.walk

-- the turns of the new part, beyond the two of its making
abbrev turns_left : (g : Over) → After-arrive g → ℕ
turns_left g c = c.part_of_one-part.new.steps.turns - c.args.steps.now.turns - 2

quota_of : (g : Over) (c : After-arrive g) → IsQuota g.B.Builder.SLOPE g.B.Builder.BASE 0 1 (turns_left g c)
quota_of g c =
    let slope = g.B.Builder.SLOPE in
    let base = g.B.Builder.BASE in
    subst (λ k. IsQuota slope base k 1 (turns_left g c)) (ap (λ v. v.at_level) c.lend_builder-builder.ensures.begun) c.part_of_one-part.ensures.quota

pub returns-clause-some_turns : goal.returns-clause-some_turns
returns-clause-some_turns g c =
    let quota = quota_of g (goal.at.returns-clause-some_turns g c).After-arrive in
    let weight = weight_of c.arrive.new.levels in
    omega (arith, quota.enough, c.part_of_one-part.ensures.cost.turns_spent, (c.take_tick.ensures.cost weight (below_power weight)).spent.turns_spent)

pub returns-clause-cost : goal.returns-clause-cost
returns-clause-cost g c =
    let slope = g.B.Builder.SLOPE in
    let base = g.B.Builder.BASE in
    let after = (goal.at.returns-clause-cost g c).After-arrive in
    let a = arrival g after in
    let t = c.take_tick.ensures in
    let cost = c.part_of_one-part.ensures.cost in
    record {
      within = λ g' light. IsWithin-first slope base g' (IsWithin-one slope base (turns_left g after) (quota_of g after) cost)
          (t.cost g' (omega (arith, light, t.ticked.weight)));
      drained = omega (arith, t.waiting, a.waiting, cost.marks_spent);
    }

pub returns-clause-paid : goal.returns-clause-paid
returns-clause-paid g c =
    let a = arrival g (goal.at.returns-clause-paid g c).After-arrive in
    let old = c.args.levels.now in
    let mid = c.arrive.new.levels in
    let new = c.take_tick.new.levels in
    omega (
      arith,
      due_of-worked (profile g) old mid new a.work,
      saved_of-worked (profile g) old mid new a.work,
      c.take_tick.ensures.paid,
      c.part_of_one-part.ensures.cost.turns_spent,
    )
