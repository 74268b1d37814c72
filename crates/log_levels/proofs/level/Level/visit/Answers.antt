use Rattle.std.proofs.Common.{◌≡◌, ℕ, ◌+◌, ◌-◌, ◌^◌, ◌<◌, ◌≤◌, ◌⊎◌, ◌∙◌, Option, Some, None, true, List, [], ◌∷◌, ◌++◌, length, drop, refl, sym, ap, subst, inl, inr, ⊎_elim, arith}
use Rattle.std.specs.Option.{is_some, option_map_or}
use Rattle.std.proofs.lemmas.Bool.{cases_lt}
use Rattle.builder_trait.specs.Builders.{PartProfile}
use Rattle.partial_build.specs.Construction.{turns_left}
use Rattle.partial_build.specs.Quota.{quota}
use Rattle.log_levels.specs.Slots.{Slots, ticks_of, turns_to_go, most_turns, open_turns, all_turns, saved_by, left_in, items_in}
use Rattle.log_levels.specs.Cost.{IsWithin, IsPaid}
use Rattle.log_levels.specs.Neighbours.{IsVisited}
use Rattle.log_levels.specs.Trades.{used_at, built_at}
use Rattle.log_levels.proofs.Distinct.{AllStampsDiffer-part}
use Rattle.log_levels.proofs.Paying.{due_in-runs, due_in-none, saved_in-gone}
use Rattle.log_levels.proofs.Publishing.{are_oldest, oldest_items}
use Rattle.log_levels.proofs.Neighbouring.{begun-idle, fed_by, visited-idle, visited-ticked, visited-published}
use Rattle.log_levels.proofs.Trading.{AreLent-on, will_begin-on, trades-begun, less-published, less_built-published, visits-of, visits-idle}
use Rattle.log_levels.proofs.level.Level.visit.Given.{Over}
use Rattle.log_levels.proofs.level.Level.visit.Goals as goal

abbrev profile : (g : Over) → PartProfile g.row.B-Item.Denot
profile g = record { stamp = g.B.Item.Item.stamp; before = g.B.Item.Item.before; slope = g.B.Builder.SLOPE; base = g.B.Builder.BASE }

pub returns-in_default-clause-visited : goal.returns-in_default-clause-visited
returns-in_default-clause-visited g c =
    visited-idle g.B.Part.Part.contents (profile g) c.requires.below
    (subst (λ ps. length ps < 2) c.parts.ensures.value c.in_default.len_below)

pub returns-in_default-clause-trades : goal.returns-in_default-clause-trades
returns-in_default-clause-trades g c = visits-idle c.args.lower.now c.args.self.now c.args.store.now

pub begin-requires-clause-kept : goal.begin-requires-clause-kept
begin-requires-clause-kept g c none =
    c.requires.kept (will_begin-on c.args.lower.now c.args.self.now (subst (λ ps. 2 ≤ length ps) c.parts.ensures.value c.in-len2-up.len_at_least) none)

pub begin-requires-clause-apart : goal.begin-requires-clause-apart
begin-requires-clause-apart g c =
    let f : g.row.B-Part.Denot → List g.row.B-Item.Denot = λ p. (g.B.Part.Part.contents p).items in
    let a = c.a-item.result in
    let b = c.b-item.result in
    AllStampsDiffer-part g.B.Item.Item.stamp (f a ++ f b) (items_in g.B.Part.Part.contents c.args.lower.now)
    (oldest_items f c.args.lower.now.parts a b
    (are_oldest c.args.lower.now.parts c.parts.ensures.value c.in-len2-up.len_at_least c.a-item.is c.b-item.is)) c.requires.apart

pub begin-requires-clause-fed : goal.begin-requires-clause-fed
begin-requires-clause-fed g c c' is =
    c.requires.below.fed c.a-item.result c.b-item.result (drop 2 c.args.lower.now.parts)
    (are_oldest c.args.lower.now.parts c.parts.ensures.value c.in-len2-up.len_at_least c.a-item.is c.b-item.is) c' is

pub publish-requires-clause-lent : goal.publish-requires-clause-lent
publish-requires-clause-lent g c =
    AreLent-on
    (trades-begun c.args.lower.now c.args.self.now c.tick.new.self c.args.store.now c.begin.new.store (ap (λ v. v.level) c.tick.ensures.same ∙ ap (λ v. v.level) c.begin.ensures.same)
    (ap (λ v. v.parts) c.tick.ensures.same ∙ ap (λ v. v.parts) c.begin.ensures.same) c.tick.ensures.runs
    (subst (λ ps. 2 ≤ length ps) c.parts.ensures.value c.in-len2-up.len_at_least)
    (λ none. (c.begin.ensures.begun none).lent) (λ some. (c.begin.ensures.running some).1)) c.requires.lent

pub publish-requires-clause-fed : goal.publish-requires-clause-fed
publish-requires-clause-fed g c =
    fed_by g.B.Part.Part.contents (profile g) c.args.lower.now c.tick.new.self
    (are_oldest c.args.lower.now.parts c.parts.ensures.value c.in-len2-up.len_at_least c.a-item.is c.b-item.is) c.tick.ensures.fed

either : {A : Type 0} (o : Option A) → (o ≡ None) ⊎ (is_some o ≡ true)
either None = inl refl
either (Some x) = inr refl

pub returns-clause-cost : goal.returns-clause-cost
returns-clause-cost g c =
    let old = c.args.self.now in
    let taken = c.tick.new.steps.turns - c.args.steps.now.turns in
    let per_tick = quota g.B.Builder.SLOPE g.B.Builder.BASE in
    let cost = λ (n : ℕ). IsWithin (per_tick n) 2 (g.B.Part.Part.mark_touches n) c.args.steps.now c.tick.new.steps in
    let here : cost old.level = subst cost (ap (λ v. v.level) c.begin.ensures.same) c.tick.ensures.cost in
    record {
      idle = λ less. absurd (omega (arith, less, c.in-len2-up.len_at_least, ap length c.parts.ensures.value));
      to_go = ⊎_elim
          (λ none. subst (λ o. taken ≤ option_map_or (turns_left (profile g)) o (per_tick old.level)) (sym none) here.few_turns)
          (λ some. subst (λ l. taken ≤ turns_to_go (profile g) l) (c.begin.ensures.running some).0 c.tick.ensures.to_go)
          (either old.construction);
      drained = omega (arith, (begun-idle c.begin.ensures.begun c.begin.ensures.running).1, c.tick.ensures.waiting, c.publish.ensures.waiting);
      within = here;
    }

pub returns-clause-paid : goal.returns-clause-paid
returns-clause-paid g c =
    let old = c.args.self.now in
    let mid = c.tick.new.self in
    let new = c.publish.new.self in
    let before = c.args.steps.now in
    let after = c.tick.new.steps in
    let level : mid.level ≡ old.level = ap (λ v. v.level) c.tick.ensures.same ∙ ap (λ v. v.level) c.begin.ensures.same in
    let ticked : ticks_of mid ≡ ticks_of old + 1 = c.tick.ensures.ticked ∙ ap (λ n. n + 1) (begun-idle c.begin.ensures.begun c.begin.ensures.running).0 in
    ⊎_elim
    (λ none.
    let first : IsPaid (profile g) (record c.begin.new.self { construction = None }) mid before after = c.tick.ensures.first (c.begin.ensures.begun none).begun in
    let paid : IsPaid (profile g) old mid before after =
    subst (λ o. option_map_or (turns_left (profile g)) o (option_map_or (all_turns (profile g)) mid.construction 0) + before.turns
    ≤ left_in (profile g) mid + saved_by (option_map_or (open_turns (profile g)) o (option_map_or (most_turns (profile g)) mid.construction 0)) mid.construction + after.turns)
    (sym none) first in
    ⊎_elim
    (λ early. subst (λ l. IsPaid (profile g) old l before after) (sym (c.publish.ensures.waits early).0) paid)
    (λ late. let ended : ticks_of mid ≡ 2 ^ mid.level = omega (arith, late, ticked, c.requires.below.early, ap (λ k. 2 ^ k) level) in
    omega (arith, due_in-none (profile g) old new none (ap (λ v. v.construction) (c.publish.ensures.ends ended).arrived), c.tick.ensures.cost.spent.turns_spent))
    (cases_lt (ticks_of mid) (2 ^ mid.level)))
    (λ some.
    let paid : IsPaid (profile g) old mid before after = subst (λ l. IsPaid (profile g) l mid before after) (c.begin.ensures.running some).0 c.tick.ensures.paid in
    ⊎_elim
    (λ early. subst (λ l. IsPaid (profile g) old l before after) (sym (c.publish.ensures.waits early).0) paid)
    (λ late. let ended : ticks_of mid ≡ 2 ^ mid.level = omega (arith, late, ticked, c.requires.below.early, ap (λ k. 2 ^ k) level) in
    omega (
      arith,
      paid,
      due_in-runs (profile g) old mid some,
      due_in-runs (profile g) old new some,
      c.publish.ensures.left,
      saved_in-gone (profile g) old mid new some (ap (λ v. v.construction) (c.publish.ensures.ends ended).arrived),
    ))
    (cases_lt (ticks_of mid) (2 ^ mid.level)))
    (either old.construction)

pub returns-clause-visited : goal.returns-clause-visited
returns-clause-visited g c =
    let h = c.requires.below in
    let mid = c.tick.new.self in
    let old = c.args.self.now in
    let is_visited = IsVisited g.B.Part.Part.contents (profile g) old c.args.lower.now in
    let two : 2 ≤ length c.args.lower.now.parts = subst (λ ps. 2 ≤ length ps) c.parts.ensures.value c.in-len2-up.len_at_least in
    let parts : mid.parts ≡ old.parts = ap (λ v. v.parts) c.tick.ensures.same ∙ ap (λ v. v.parts) c.begin.ensures.same in
    let level : mid.level ≡ old.level = ap (λ v. v.level) c.tick.ensures.same ∙ ap (λ v. v.level) c.begin.ensures.same in
    let ticked : ticks_of mid ≡ ticks_of old + 1 = c.tick.ensures.ticked ∙ ap (λ n. n + 1) (begun-idle c.begin.ensures.begun c.begin.ensures.running).0 in
    let fed = fed_by g.B.Part.Part.contents (profile g) c.args.lower.now mid
    (are_oldest c.args.lower.now.parts c.parts.ensures.value c.in-len2-up.len_at_least c.a-item.is c.b-item.is) c.tick.ensures.fed in
    ⊎_elim
    (λ early. let w = c.publish.ensures.waits early in
    subst (λ n. is_visited n c.publish.new.lower) (sym w.0)
    (subst (λ l. is_visited mid l) (sym w.1)
    (visited-ticked g.B.Part.Part.contents (profile g) h two parts level ticked c.tick.ensures.runs fed early)))
    (λ late. let ended : ticks_of mid ≡ 2 ^ mid.level = omega (arith, late, ticked, h.early, ap (λ k. 2 ^ k) level) in
    visited-published g.B.Part.Part.contents (profile g) h two parts level ticked c.publish.new.self c.publish.new.lower
    (sym (ended ∙ ap (λ k. 2 ^ k) level)) (c.publish.ensures.ends ended))
    (cases_lt (ticks_of mid) (2 ^ mid.level))

pub returns-clause-same_below : goal.returns-clause-same_below
returns-clause-same_below g c =
    let h = c.requires.below in
    let mid = c.tick.new.self in
    let old = c.args.self.now in
    let level : mid.level ≡ old.level = ap (λ v. v.level) c.tick.ensures.same ∙ ap (λ v. v.level) c.begin.ensures.same in
    let ticked : ticks_of mid ≡ ticks_of old + 1 = c.tick.ensures.ticked ∙ ap (λ n. n + 1) (begun-idle c.begin.ensures.begun c.begin.ensures.running).0 in
    let lower' = c.publish.new.lower in
    ⊎_elim
    (λ early. let same = (c.publish.ensures.waits early).1 in same ∙ ap {A = Slots g.row.B-Part.Denot g.row.B-Item.Denot} (λ v. record c.args.lower.now { parts = v.parts }) (sym same))
    (λ late. let ended : ticks_of mid ≡ 2 ^ mid.level = omega (arith, late, ticked, h.early, ap (λ k. 2 ^ k) level) in
    ap {A = Slots g.row.B-Part.Denot g.row.B-Item.Denot} (λ v. record v { parts = lower'.parts }) (sym (c.publish.ensures.ends ended).retired))
    (cases_lt (ticks_of mid) (2 ^ mid.level))

pub returns-clause-trades : goal.returns-clause-trades
returns-clause-trades g c =
    let h = c.requires.below in
    let mid = c.tick.new.self in
    let old = c.args.self.now in
    let lower = c.args.lower.now in
    let lower' = c.publish.new.lower in
    let new = c.publish.new.self in
    let parts : mid.parts ≡ old.parts = ap (λ v. v.parts) c.tick.ensures.same ∙ ap (λ v. v.parts) c.begin.ensures.same in
    let level : mid.level ≡ old.level = ap (λ v. v.level) c.tick.ensures.same ∙ ap (λ v. v.level) c.begin.ensures.same in
    let ticked : ticks_of mid ≡ ticks_of old + 1 = c.tick.ensures.ticked ∙ ap (λ n. n + 1) (begun-idle c.begin.ensures.begun c.begin.ensures.running).0 in
    let two : 2 ≤ length lower.parts = subst (λ ps. 2 ≤ length ps) c.parts.ensures.value c.in-len2-up.len_at_least in
    let less : ((k : ℕ) → used_at k (lower' ∷ new ∷ []) ≤ used_at k (lower ∷ mid ∷ [])) × ((k : ℕ) → built_at k (lower' ∷ new ∷ []) ≤ built_at k (lower ∷ mid ∷ [])) =
    ⊎_elim
    (λ early. let w = c.publish.ensures.waits early in (
      λ k. omega (arith, ap (λ v. used_at k (v ∷ [])) w.0, ap (λ v. used_at k (v ∷ [])) w.1),
      λ k. omega (arith, ap (λ v. built_at k (v ∷ [])) w.0, ap (λ v. built_at k (v ∷ [])) w.1),
    ))
    (λ late. let ended : ticks_of mid ≡ 2 ^ mid.level = omega (arith, late, ticked, h.early, ap (λ k. 2 ^ k) level) in
    let p = c.publish.ensures.ends ended in
    (less-published g.B.Part.Part.contents p c.tick.ensures.runs, less_built-published g.B.Part.Part.contents p c.tick.ensures.runs))
    (cases_lt (ticks_of mid) (2 ^ mid.level)) in
    visits-of lower old mid c.args.store.now c.begin.new.store level parts c.tick.ensures.runs two (λ none. (c.begin.ensures.begun none).lent) (λ some. (c.begin.ensures.running some).1)
    c.publish.ensures.trades less.0 less.1
