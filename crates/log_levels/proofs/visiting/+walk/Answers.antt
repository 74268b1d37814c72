use Rattle.std.proofs.Common.{◌≡◌, ℕ, ◌+◌, ◌-◌, ◌*◌, ◌^◌, ◌<◌, ◌≤◌, ◌∙◌, ◌∷◌, length, refl, subst, sym, ap, ⊎_elim, arith}
use Rattle.std.specs.Option.{option_map}
use Rattle.std.proofs.lemmas.Bool.{cases_lt}
use Rattle.std.proofs.lemmas.List.Elements.{All-cons}
use Rattle.query_laws.specs.Orders.{AllStampsDiffer}
use Rattle.query_laws.proofs.Permutations.{Permuted-refl}
use Rattle.builder_trait.specs.Builders.{PartProfile}
use Rattle.partial_build.specs.Quota.{quota}
use Rattle.log_levels.specs.Slots.{clock_of, waiting_in, left_in, due_in, saved_in, items_in}
use Rattle.log_levels.specs.Levels.{weight_of, live_items, all_items}
use Rattle.log_levels.specs.Neighbours.{IsPunctual, TakesTick}
use Rattle.log_levels.specs.Towers.{IsHalfway, IsTower, TakeTicks}
use Rattle.log_levels.specs.Trades.{AreReady, Walks}
use Rattle.log_levels.specs.Cost.{IsWithin, quotas}
use Rattle.log_levels.proofs.Distinct.{AllStampsDiffer-part, AllStampsDiffer-back, IsPartOf-refl}
use Rattle.log_levels.proofs.Publishing.{none_of}
use Rattle.log_levels.proofs.MarkedLevels.{light_below}
use Rattle.log_levels.proofs.Towers.{place, below-same, live-walked, items-walked, part_of_rest, weight-walked, weight-rest}
use Rattle.log_levels.proofs.Trading.{lent-pair, room_now, walks_none}
use Rattle.log_levels.proofs.Ticking.{level-visited, ready-visited, halfway-visited, walks-visited}
use Rattle.log_levels.proofs.Spending.{IsWithin-level, IsWithin-above}
use Rattle.log_levels.proofs.visiting.+walk.Given.{Over}
use Rattle.log_levels.proofs.visiting.+walk.Goals as goal

abbrev profile : (g : Over) → PartProfile g.row.B-Item.Denot
profile g = record { stamp = g.B.Item.Item.stamp; before = g.B.Item.Item.before; slope = g.B.Builder.SLOPE; base = g.B.Builder.BASE }

lighter : {a b m : ℕ} → a ≤ b → b < m → a < m
lighter le lt = omega (arith, le, lt)

pub visit-requires : goal.visit-requires
visit-requires g p c =
    let contents = g.B.Part.Part.contents in
    let stamp = g.B.Item.Item.stamp in
    let lower = c.args.lower.now in
    let h = subst (IsHalfway contents (profile g) lower) c.in-Some.ensures.cases.0 c.requires.halfway in
    let ready = subst (λ ls. AreReady lower ls c.args.store.now) c.in-Some.ensures.cases.0 c.requires.ready in
    record {
      below = h.0;
      kept = room_now lower c.in-Some.level.now c.in-Some.above.now c.args.store.now ready;
      lent = lent-pair ready.lent;
      place = place contents (profile g) c.in-Some.level.now c.in-Some.above.now h.1;
      apart = AllStampsDiffer-back stamp (all_items contents c.args.above.now) (items_in contents lower) c.requires.apart;
    }

pub walk-requires : goal.walk-requires
walk-requires g p c κs lives =
    let contents = g.B.Part.Part.contents in
    let stamp = g.B.Item.Item.stamp in
    let split = c.in-Some.ensures.cases.0 in
    let lower = c.args.lower.now in
    let level = c.in-Some.level.now in
    let above = c.in-Some.above.now in
    let h = subst (IsHalfway contents (profile g) lower) split c.requires.halfway in
    let ready = subst (λ ls. AreReady lower ls c.args.store.now) split c.requires.ready in
    let v = c.visit.ensures in
    let halfway = halfway-visited contents (profile g) above h.0 h.1 v.visited v.same_below v.trades ready in
    let rest_ready = ready-visited contents (profile g) above h.0 h.1 v.visited v.same_below v.trades ready in
    let apart = AllStampsDiffer-part stamp (all_items contents (c.visit.new.self ∷ above)) (all_items contents (lower ∷ level ∷ above))
    (part_of_rest contents (profile g) c.visit.ensures.visited above)
    (subst (λ ls. AllStampsDiffer stamp (all_items contents (lower ∷ ls))) split c.requires.apart) in (
      omega (arith, c.decreases, c.in-Some.ensures.cases.1),
      (lives.0, (lives.1.0, (lives.1.1.0, (lives.1.1.1, (halfway, (rest_ready, apart)))))),
    )

pub returns-in-Some : goal.returns-in-Some
returns-in-Some g p c =
    let contents = g.B.Part.Part.contents in
    let stamp = g.B.Item.Item.stamp in
    let slope = g.B.Builder.SLOPE in
    let base = g.B.Builder.BASE in
    let touches = g.B.Part.Part.mark_touches in
    let split = c.in-Some.ensures.cases.0 in
    let lower = c.args.lower.now in
    let level = c.in-Some.level.now in
    let above = c.in-Some.above.now in
    let lower' = c.visit.new.lower in
    let level' = c.walk.new.lower in
    let above' = c.walk.new.above in
    let v = c.visit.ensures in
    let w = c.walk.ensures in
    let k = lower.level in
    let h = subst (IsHalfway contents (profile g) lower) split c.requires.halfway in
    let next : level.level ≡ k + 1 = h.0.next_level in
    let same_level = level-visited contents (profile g) above h.0 h.1 v.visited v.same_below v.trades in
    record {
      tower = (
        below-same contents (profile g) lower' c.visit.new.self level' v.visited.below (ap (λ l. l.level) w.same) (ap (λ l. l.construction) w.same),
        w.tower,
      );
      punctual = All-cons (IsPunctual (profile g)) level' above' (λ c' is. v.punctual c' (sym (ap (λ l. l.construction) w.same) ∙ is)) w.punctual;
      ticked = record {
        live = rw split (live-walked contents (profile g) v.visited above (level' ∷ above') w.ticked.live);
        items = rw split (items-walked contents (profile g) v.visited above (level' ∷ above') w.ticked.items);
        weight = weight-walked contents (profile g) v.visited above level' above' w.ticked.weight ∙ ap (λ ls. weight_of (lower ∷ ls)) (sym split);
      };
      each = subst (λ ls. TakeTicks ls (level' ∷ above')) (sym split)
          (subst (TakesTick level.level (clock_of level)) (ap (option_map (λ c. c.ticks)) (sym (ap (λ l. l.construction) w.same))) v.visited.ticked, w.each);
      same = v.same_below;
      waiting =
          let here : waiting_in level' ≡ waiting_in c.visit.new.self = ap waiting_in w.same in
          rw split (omega (arith, here, v.cost.drained, w.waiting));
      paid =
          let left : left_in (profile g) level' ≡ left_in (profile g) c.visit.new.self = ap (left_in (profile g)) w.same in
          let due : due_in (profile g) level level' ≡ due_in (profile g) level c.visit.new.self = ap (due_in (profile g) level) w.same in
          let saved : saved_in (profile g) level level' ≡ saved_in (profile g) level c.visit.new.self = ap (saved_in (profile g) level) w.same in
          rw split (omega (arith, due, left, saved, v.paid, w.paid));
      walks = subst (λ ls. Walks lower ls c.args.store.now lower' (level' ∷ above') c.walk.new.store) (sym split)
          (walks-visited contents (profile g) above h.0 h.1 v.visited v.same_below v.trades w.walks);
      cost = λ g' light.
          let light' : weight_of (lower ∷ level ∷ above) < 2 ^ (g' + 1) = subst (λ ls. weight_of (lower ∷ ls) < 2 ^ (g' + 1)) split light in
          let rest : IsWithin (quotas slope base (k + 1 + 1) g') (2 * (g' - (k + 1))) (touches g') c.visit.new.steps c.walk.new.steps =
          subst (λ n. IsWithin (quotas slope base (n + 1) g') (2 * (g' - n)) (touches g') c.visit.new.steps c.walk.new.steps)
          (same_level ∙ next) (w.cost g' (lighter (weight-rest contents (profile g) v.visited above) light')) in
          ⊎_elim
          (λ less. subst (λ s. IsWithin (quotas slope base (k + 1) g') (2 * (g' - k)) (touches g') s c.walk.new.steps) (v.cost.idle less)
          (IsWithin-above slope base k g' rest))
          (λ two. IsWithin-level slope base touches g.met.B.Part.Part.mark_touches_rise k g'
          (subst (λ n. IsWithin (quota slope base n) 2 (touches n) c.args.steps.now c.visit.new.steps) next v.cost.within)
          (light_below (length lower.parts) k g' (weight_of (level ∷ above)) two light') rest)
          (cases_lt (length lower.parts) 2);
    }

pub returns-in_default-clause-tower : goal.returns-in_default-clause-tower
returns-in_default-clause-tower g p c =
    let none = none_of c.args.above.now (omega (arith, c.in_default.ensures.cases)) in
    let contents = g.B.Part.Part.contents in
    let stamp = g.B.Item.Item.stamp in
    subst (IsTower contents (profile g) c.args.lower.now) (sym none) (subst (IsHalfway contents (profile g) c.args.lower.now) none c.requires.halfway)

pub returns-in_default-clause-ticked : goal.returns-in_default-clause-ticked
returns-in_default-clause-ticked g p c =
    let levels = c.args.lower.now ∷ c.args.above.now in
    record {
      live = Permuted-refl (live_items g.B.Part.Part.contents levels);
      items = IsPartOf-refl (all_items g.B.Part.Part.contents levels);
      weight = refl;
    }

pub returns-in_default-clause-walks : goal.returns-in_default-clause-walks
returns-in_default-clause-walks g p c =
    let none = none_of c.args.above.now (omega (arith, c.in_default.ensures.cases)) in
    subst (λ ls. Walks c.args.lower.now ls c.args.store.now c.args.lower.now ls c.args.store.now) (sym none) (walks_none c.args.lower.now c.args.store.now)

pub returns-in_default-clause-each : goal.returns-in_default-clause-each
returns-in_default-clause-each g p c =
    let none = none_of c.args.above.now (omega (arith, c.in_default.ensures.cases)) in subst (λ ls. TakeTicks ls ls) (sym none) refl
