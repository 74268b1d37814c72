use Rattle.std.proofs.Common.{◌≡◌, ℕ, ◌+◌, ◌-◌, ◌*◌, ◌^◌, ◌<◌, ◌∙◌, Some, None, ◌∷◌, subst, sym, ap, arith}
use Rattle.std.specs.Option.{option_map}
use Rattle.std.proofs.lemmas.List.Elements.{All-cons}
use Rattle.query_laws.specs.Orders.{AllStampsDiffer}
use Rattle.builder_trait.specs.Builders.{PartProfile}
use Rattle.log_levels.specs.Slots.{waiting_in}
use Rattle.log_levels.specs.Levels.{weight_of, all_items}
use Rattle.log_levels.specs.Neighbours.{IsPunctual, rests}
use Rattle.log_levels.specs.Cost.{IsWithin, quotas}
use Rattle.log_levels.specs.Towers.{AreHalfway, TakeTicks}
use Rattle.log_levels.specs.Trades.{WalkAll}
use Rattle.log_levels.proofs.Publishing.{none_of}
use Rattle.log_levels.proofs.Paying.{due_in-same}
use Rattle.log_levels.proofs.Spending.{IsWithin-more}
use Rattle.log_levels.proofs.visiting.take_tick.Given.{Over}
use Rattle.log_levels.proofs.visiting.take_tick.Goals as goal

abbrev profile : (g : Over) → PartProfile g.row.B-Item.Denot
profile g = record { stamp = g.B.Item.Item.stamp; before = g.B.Item.Item.before; slope = g.B.Builder.SLOPE; base = g.B.Builder.BASE }

pub walk-requires-clause-apart : goal.walk-requires-clause-apart
walk-requires-clause-apart g c = subst (λ ls. AllStampsDiffer g.B.Item.Item.stamp (all_items g.B.Part.Part.contents ls)) c.in-Some.ensures.cases.0 c.requires.apart

pub unreachable-requires : goal.unreachable-requires
unreachable-requires g c =
    subst (AreHalfway g.B.Part.Part.contents (profile g)) (none_of c.args.levels.now (omega (arith, c.in-None.ensures.cases)))
    c.requires.halfway

pub returns : goal.returns
returns g c =
    let contents = g.B.Part.Part.contents in
    let split = c.in-Some.ensures.cases.0 in
    let w = c.walk.ensures in
    let h = subst (AreHalfway contents (profile g)) split c.requires.halfway in
    let none : c.walk.new.lower.construction ≡ None = ap (λ v. v.construction) w.same ∙ h.1 in
    record {
      on_time = record {
        levels = (ap (λ v. v.level) w.same ∙ h.0, none, w.tower);
        punctual = All-cons (IsPunctual (profile g)) c.walk.new.lower c.walk.new.above
            (λ c' is. let wrong : None ≡ Some c' = sym none ∙ is in absurd cc) w.punctual;
      };
      ticked = rw split w.ticked;
      each = subst (λ ls. TakeTicks ls (c.walk.new.lower ∷ c.walk.new.above)) (sym split)
          (rests (ap (option_map (λ o. o.ticks)) h.1) (ap (option_map (λ o. o.ticks)) none), w.each);
      waiting =
          let here : waiting_in c.walk.new.lower ≡ waiting_in c.in-Some.lowest.now = ap waiting_in w.same in
          rw split (omega (arith, here, w.waiting));
      paid =
          let due = due_in-same (profile g) c.in-Some.lowest.now c.walk.new.lower (ap (λ l. l.construction) w.same) in
          rw split (omega (arith, due, w.paid));
      walk = subst (λ ls. WalkAll ls c.args.store.now (c.walk.new.lower ∷ c.walk.new.above) c.walk.new.store) (sym split) w.walks;
      cost = λ g' light.
          let cost = λ (k : ℕ). IsWithin (quotas g.B.Builder.SLOPE g.B.Builder.BASE (k + 1) g') (2 * (g' - k)) (g.B.Part.Part.mark_touches g')
          c.args.steps.now c.walk.new.steps in
          IsWithin-more (subst cost h.0 (w.cost g' (subst (λ ls. weight_of ls < 2 ^ (g' + 1)) split light))) (omega arith) (omega arith) (omega arith);
    }
