use Rattle.std.proofs.Common.{◌≡◌, ℕ, ◌+◌, ◌-◌, ◌≤◌, ◌∙◌, Option, Some, ap, sym, subst, arith, Bool, true, false, if◌then◌else◌, min, length}
use Rattle.std.specs.Option.{option_map_or}
use Rattle.std.specs.Prelude.{IfSome}
use Rattle.builder_trait.specs.Builders.{PartProfile}
use Rattle.partial_build.specs.Construction.{Construction, IsBegun, turns_left}
use Rattle.partial_build.specs.Quota.{quota}
use Rattle.log_levels.specs.Slots.{waiting_in, most_turns, open_turns, all_turns, saved_by}
use Rattle.log_levels.specs.Cost.{IsWithin}
use Rattle.log_levels.proofs.Held.{IsLevel-building}
use Rattle.log_levels.proofs.Paying.{paid-ticked, paid-first}
use Rattle.log_levels.proofs.level.Level.tick.Given.{Over}
use Rattle.log_levels.proofs.level.Level.tick.Goals as goal

abbrev profile : (g : Over) → PartProfile g.row.B-Item.Denot
profile g = record { stamp = g.B.Item.Item.stamp; before = g.B.Item.Item.before; slope = g.B.Builder.SLOPE; base = g.B.Builder.BASE }

at_most_two : (b : Bool) (n : ℕ) → (if b then min 2 n else 0) ≤ 2
at_most_two true n = omega arith
at_most_two false n = omega arith

pub tick-requires-clause-builds : goal.tick-requires-clause-builds
tick-requires-clause-builds g c = c.requires.fed c.in-Some.construction (sym (ap (λ v. v.construction) c.self.view_is) ∙ c.in-Some.is)

pub invariant_of-self : goal.invariant_of-self
invariant_of-self g c =
    IsLevel-building c.self.invariant c.tick.new.self (c.tick.ensures.ticked.0 ∙ c.self.invariant.builds c.in-Some.construction c.in-Some.is)

pub returns-clause-to_go : goal.returns-clause-to_go
returns-clause-to_go g c =
    let runs : c.args.self.now.construction ≡ Some c.in-Some.construction = sym (ap (λ v. v.construction) c.self.view_is) ∙ c.in-Some.is in
    subst (λ o. c.tick.new.steps.turns - c.args.steps.now.turns ≤ option_map_or (turns_left (profile g)) o (quota g.B.Builder.SLOPE g.B.Builder.BASE c.args.self.now.level)) (sym runs)
    (omega (arith, c.tick.ensures.taken.most))

pub returns-clause-cost : goal.returns-clause-cost
returns-clause-cost g c =
    let h = c.tick.ensures in
    let of_level : c.in-Some.construction.level ≡ c.args.self.now.level =
    c.self.invariant.builds c.in-Some.construction c.in-Some.is ∙ ap (λ v. v.level) c.self.view_is in
    subst (λ k. IsWithin (quota g.B.Builder.SLOPE g.B.Builder.BASE k) 2 (g.B.Part.Part.mark_touches k) c.args.steps.now c.tick.new.steps) of_level
    (record {
      few_turns = h.taken.few;
      few_marks = subst (λ n. n ≤ 2) (sym h.drained.two) (at_most_two c.tick.new.self.part.is_built (length c.in-Some.construction.waiting));
      spent = h.cost;
    })

pub returns-clause-waiting : goal.returns-clause-waiting
returns-clause-waiting g c =
    let runs : c.args.self.now.construction ≡ Some c.in-Some.construction = sym (ap (λ v. v.construction) c.self.view_is) ∙ c.in-Some.is in
    let before : waiting_in c.args.self.now ≡ length c.in-Some.construction.waiting = ap (λ (o : Option (Construction g.row.B-Item.Denot)). option_map_or (λ v. length v.waiting) o 0) runs in
    omega (arith, before, c.tick.ensures.drained.fewer, c.tick.ensures.cost.marks_spent)

pub returns-clause-paid : goal.returns-clause-paid
returns-clause-paid g c =
    let build = c.in-Some.construction in
    let new = c.tick.new.self in
    let before = c.args.steps.now.turns in
    let after = c.tick.new.steps.turns in
    let h = c.tick.ensures in
    let runs : c.args.self.now.construction ≡ Some build = sym (ap (λ v. v.construction) c.self.view_is) ∙ c.in-Some.is in
    let left = turns_left (profile g) in
    let paid = paid-ticked (profile g) (after - before) build new h.ticked.0 h.paid h.taken in
    subst (λ o. option_map_or left o (all_turns (profile g) new) + before
    ≤ left new + saved_by (option_map_or (open_turns (profile g)) o (most_turns (profile g) new)) (Some new) + after) (sym runs)
    (omega (arith, paid, h.cost.turns_spent))

pub returns-clause-first : goal.returns-clause-first
returns-clause-first g c fresh =
    let build = c.in-Some.construction in
    let new = c.tick.new.self in
    let h = c.tick.ensures in
    let runs : c.args.self.now.construction ≡ Some build = sym (ap (λ v. v.construction) c.self.view_is) ∙ c.in-Some.is in
    let begun : IsBegun build = subst (λ o. IfSome o IsBegun) runs fresh in
    let first = paid-first (profile g) (c.tick.new.steps.turns - c.args.steps.now.turns) build new (g.B.Part.Part.contents c.args.a.now) (g.B.Part.Part.contents c.args.b.now) h.ticked.0 h.paid h.taken begun
    (c.requires.fed build runs) h.builds in
    omega (arith, first, h.cost.turns_spent)
