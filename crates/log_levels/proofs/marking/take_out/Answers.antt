use Rattle.std.proofs.Common.{◌≡◌, ◌+◌, ◌^◌, ◌<◌, ◌∙◌, sym, subst, arith}
use Rattle.query_laws.specs.Orders.{AllStampsDiffer}
use Rattle.builder_trait.specs.Builders.{PartProfile}
use Rattle.log_levels.specs.Slots.{IsPartOf}
use Rattle.log_levels.specs.Levels.{weight_of, all_items, parts_asked}
use Rattle.log_levels.specs.Cost.{IsWithin}
use Rattle.log_levels.proofs.Clocks.{TakeTicks-from, clocks-worked}
use Rattle.log_levels.proofs.Paying.{due_of-worked, saved_of-worked}
use Rattle.log_levels.proofs.Spending.{below_power, IsWithin-more, IsWithin-of, IsWithin-then}
use Rattle.log_levels.proofs.MarkedLevels.{owned_live, levels-from_all, halfway-marked, some_live}
use Rattle.log_levels.proofs.Ticking.{stocked-worked, lent-worked, ticks-worked, ready-idle, ticks-idle}
use Rattle.log_levels.proofs.marking.take_out.Given.{Over}
use Rattle.log_levels.proofs.marking.take_out.Goals as goal

abbrev profile : (g : Over) → PartProfile g.row.B-Item.Denot
profile g = record { stamp = g.B.Item.Item.stamp; before = g.B.Item.Item.before; slope = g.B.Builder.SLOPE; base = g.B.Builder.BASE }

pub mark_in-requires-clause-levels : goal.mark_in-requires-clause-levels
mark_in-requires-clause-levels g c = levels-from_all g.B.Part.Part.contents (profile g) c.args.levels.now c.requires.on_time.levels

pub mark_in-requires-clause-owner : goal.mark_in-requires-clause-owner
mark_in-requires-clause-owner g c = owned_live g.B.Part.Part.contents g.B.Item.Item.stamp c.args.levels.now c.args.item.now c.requires.apart c.requires.live

pub take_tick-requires-clause-halfway : goal.take_tick-requires-clause-halfway
take_tick-requires-clause-halfway g c =
    halfway-marked g.B.Part.Part.contents (profile g) c.args.levels.now c.mark_in.new.levels c.requires.on_time.levels
    (some_live g.B.Part.Part.contents c.args.levels.now c.args.item.now c.requires.live) c.mark_in.ensures.same c.mark_in.ensures.levels
    (let m = c.mark_in.ensures.marked in
    stocked-worked c.args.levels.now c.mark_in.new.levels m.numbers m.as_many m.work c.requires.stocked).quiet

pub take_tick-requires-clause-ready : goal.take_tick-requires-clause-ready
take_tick-requires-clause-ready g c =
    let m = c.mark_in.ensures.marked in
    ready-idle g.B.Part.Part.contents (profile g) c.mark_in.new.levels c.args.store.now c.mark_in.ensures.levels
    (stocked-worked c.args.levels.now c.mark_in.new.levels m.numbers m.as_many m.work c.requires.stocked)
    (lent-worked c.args.levels.now c.mark_in.new.levels m.numbers m.as_many m.work c.requires.lent)

pub take_tick-requires-clause-apart : goal.take_tick-requires-clause-apart
take_tick-requires-clause-apart g c = subst (AllStampsDiffer g.B.Item.Item.stamp) (sym c.mark_in.ensures.marked.items) c.requires.apart

pub returns-clause-items : goal.returns-clause-items
returns-clause-items g c =
    subst (IsPartOf (all_items g.B.Part.Part.contents c.take_tick.new.levels)) c.mark_in.ensures.marked.items c.take_tick.ensures.ticked.items

pub returns-clause-trades : goal.returns-clause-trades
returns-clause-trades g c =
    let m = c.mark_in.ensures.marked in
    ticks-worked c.args.levels.now c.mark_in.new.levels m.numbers m.as_many m.work
    (ticks-idle g.B.Part.Part.contents (profile g) c.mark_in.new.levels c.take_tick.new.levels c.args.store.now c.take_tick.new.store c.mark_in.ensures.levels
    c.take_tick.ensures.walk)

pub returns-clause-each : goal.returns-clause-each
returns-clause-each g c =
    TakeTicks-from c.args.levels.now c.mark_in.new.levels c.take_tick.new.levels c.mark_in.ensures.marked.numbers
    (clocks-worked c.args.levels.now c.mark_in.new.levels c.mark_in.ensures.marked.work) c.take_tick.ensures.each

pub returns-clause-cost : goal.returns-clause-cost
returns-clause-cost g c =
    let n = parts_asked g.B.Part.Part.contents g.B.Item.Item.stamp (g.B.Item.Item.stamp c.args.item.now) c.args.levels.now in
    let old = weight_of c.args.levels.now in
    let mid = weight_of c.mark_in.new.levels in
    let asking : c.mark_in.new.steps.marks ≡ c.args.steps.now.marks + n = (c.mark_in.ensures.cost old (below_power old)).marks_spent in
    record {
      within = λ g' light.
          let t = g.B.Part.Part.mark_touches g' in
          let light_old : weight_of c.args.levels.now < 2 ^ (g' + 1) =
          subst (λ w. w < 2 ^ (g' + 1)) (c.take_tick.ensures.ticked.weight ∙ c.mark_in.ensures.marked.weight) light in
          let light_mid : weight_of c.mark_in.new.levels < 2 ^ (g' + 1) = subst (λ w. w < 2 ^ (g' + 1)) c.take_tick.ensures.ticked.weight light in
          let first : IsWithin 0 n t c.args.steps.now c.mark_in.new.steps =
          IsWithin-of (c.mark_in.ensures.cost g' light_old) (omega arith) (omega arith) (omega arith) in
          IsWithin-more (IsWithin-then first (c.take_tick.ensures.cost g' light_mid)) (omega arith) (omega arith) (omega arith);
      all_asked = omega (arith, asking, (c.take_tick.ensures.cost mid (below_power mid)).spent.marks_spent);
      drained = omega (arith, asking, c.mark_in.ensures.marked.waiting, c.take_tick.ensures.waiting);
    }

pub returns-clause-paid : goal.returns-clause-paid
returns-clause-paid g c =
    let old = c.args.levels.now in
    let mid = c.mark_in.new.levels in
    let new = c.take_tick.new.levels in
    let work = c.mark_in.ensures.marked.work in
    let weight = weight_of old in
    omega (
      arith,
      due_of-worked (profile g) old mid new work,
      saved_of-worked (profile g) old mid new work,
      c.take_tick.ensures.paid,
      (c.mark_in.ensures.cost weight (below_power weight)).turns_spent,
    )
