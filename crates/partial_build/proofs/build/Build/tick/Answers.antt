use Rattle.std.proofs.Common.{◌≡◌, ℕ, zero, suc, refl, Bool, true, ◌+◌, ◌-◌, ◌^◌, ◌<◌, ◌∙◌, if◌then◌else◌, inl, inr, ap, sym, subst, arith, length, ⊎_elim}
use Rattle.std.proofs.lemmas.Bool.{cases_lt}
use Rattle.builder_trait.specs.Builders.{PartProfile}
use Rattle.partial_build.specs.Quota.{quota}
use Rattle.partial_build.specs.Construction.{Construction, Builds, turns_left}
use Rattle.partial_build.proofs.Clock.{twice, built_ended, ended_built, turns_left-sealed, IsTicked, IsTicked-paid}
use Rattle.partial_build.proofs.build.Build.tick.Given.{Over}
use Rattle.partial_build.proofs.build.Build.tick.Goals as goal

abbrev profile : (g : Over) → PartProfile g.row.B-Item.Denot
profile g = record { stamp = g.B.Item.Item.stamp; before = g.B.Item.Item.before; slope = g.B.Builder.SLOPE; base = g.B.Builder.BASE }

abbrev seen : (g : Over) (c : goal.After-self-1 g) → Construction g.row.B-Item.Denot
seen g c = record {
  level = c.self-2.inside.level;
  ticks = c.self-2.inside.ticks;
  merge = c.self-2.inside.merge;
  part = c.self-2.inside.part;
  waiting = c.self-2.inside.waiting.items;
}

marked_where_built : {b : Bool} {marks most : ℕ} → marks ≡ (if b then most else 0) → b ≡ true → marks ≡ most
marked_where_built {b} {marks} {most} h built = h ∙ ap (λ c. if c then most else 0) built

ticked : (g : Over) (c : goal.After-self-1 g) → IsTicked (2 ^ (c.self-2.inside.level - 1)) c.self-2.inside.ticks
    (quota g.B.Builder.SLOPE g.B.Builder.BASE c.self-2.inside.level)
    (turns_left (profile g) (seen g c)) (length c.self-2.inside.waiting.items)
ticked g c =
    let left : Construction g.row.B-Item.Denot → ℕ = turns_left (profile g) in
    let inside = c.self.inside in
    let level : c.self-2.inside.level ≡ inside.level =
    ap (λ v. v.level) c.self-2.view_is ∙ ap (λ v. v.level) c.drain.ensures.same ∙ ap (λ v. v.level) c.grow.ensures.same
    ∙ ap (λ v. v.level) c.read.ensures.same ∙ ap (λ v. v.level) (sym c.self.view_is) in
    let ticks : c.self-2.inside.ticks ≡ inside.ticks =
    ap (λ v. v.ticks) c.self-2.view_is ∙ ap (λ v. v.ticks) c.drain.ensures.same ∙ ap (λ v. v.ticks) c.grow.ensures.same
    ∙ ap (λ v. v.ticks) c.read.ensures.same ∙ ap (λ v. v.ticks) (sym c.self.view_is) in
    let waits : length c.grow.new.self.waiting ≡ length inside.waiting.items =
    ap (λ v. length v.waiting) c.grow.ensures.same ∙ ap (λ v. length v.waiting) c.read.ensures.same ∙ ap (λ v. length v.waiting) (sym c.self.view_is) in
    let after : left (seen g c) ≡ left c.grow.new.self = ap left c.self-2.view_is ∙ ap left c.drain.ensures.same in
    let built : (seen g c).part.is_built ≡ c.grow.new.self.part.is_built =
    ap (λ v. v.part.is_built) c.self-2.view_is ∙ ap (λ v. v.part.is_built) c.drain.ensures.same in
    let q = quota g.B.Builder.SLOPE g.B.Builder.BASE inside.level in
    let per_tick : c.quota-quota.result ≡ q = c.quota-quota.ensures ∙ ap (λ v. quota g.B.Builder.SLOPE g.B.Builder.BASE v.level) (sym c.self.view_is) in
    let marks = c.drain.new.steps.marks - c.grow.new.steps.marks in
    subst (λ l. IsTicked (2 ^ (l - 1)) c.self-2.inside.ticks (quota g.B.Builder.SLOPE g.B.Builder.BASE l) (left (seen g c)) (length c.self-2.inside.waiting.items))
    (sym level)
    (subst (λ t. IsTicked (2 ^ (inside.level - 1)) t q (left (seen g c)) (length c.self-2.inside.waiting.items)) (sym ticks)
    (IsTicked-paid (2 ^ (inside.level - 1)) inside.ticks q (left c.args.self.now) (left (seen g c)) (length inside.waiting.items)
    (length c.self-2.inside.waiting.items) marks
    (omega (arith, c.requires.early, twice inside.level c.self.invariant.least, ap (λ v. v.ticks) c.self.view_is, ap (λ v. 2 ^ v.level) c.self.view_is))
    (omega (arith, c.self.invariant.in_time, ap left c.self.view_is))
    c.self.invariant.few_waiting
    (omega (arith, c.self.invariant.few_to_come, twice inside.level c.self.invariant.least))
    (⊎_elim
    (λ less. inr (built_ended c.self-2.invariant (built ∙ c.grow.ensures.all_turns (omega (arith, less, per_tick)))))
    (λ full. inl (omega (arith, after, per_tick, full, c.grow.ensures.left, c.read.ensures.fewer)))
    (cases_lt (c.min-reading.result + (c.grow.new.steps.turns - c.read.new.steps.turns)) q))
    (omega (arith, waits, c.drain.ensures.drained, ap (λ v. length v.waiting) c.self-2.view_is))
    (λ ended. let drained = marked_where_built c.drain.ensures.marks (sym built ∙ ended_built c.self-2.invariant ended) in omega (arith, drained, waits))))

pub invariant_of-self : goal.invariant_of-self
invariant_of-self g c =
    let h = c.self-2.invariant in
    let double = twice c.self-2.inside.level h.least in
    let level : c.self-2.inside.level ≡ c.args.self.now.level =
    ap (λ v. v.level) c.self-2.view_is ∙ ap (λ v. v.level) c.drain.ensures.same ∙ ap (λ v. v.level) c.grow.ensures.same
    ∙ ap (λ v. v.level) c.read.ensures.same in
    let ticks : c.self-2.inside.ticks ≡ c.args.self.now.ticks =
    ap (λ v. v.ticks) c.self-2.view_is ∙ ap (λ v. v.ticks) c.drain.ensures.same ∙ ap (λ v. v.ticks) c.grow.ensures.same
    ∙ ap (λ v. v.ticks) c.read.ensures.same in
    record {
      least = h.least;
      most = h.most;
      ticks_few = omega (arith, c.requires.early, ticks, ap (λ n. 2 ^ n) level);
      at_level = h.at_level;
      flagged = h.flagged;
      wide = h.wide;
      as_wide = h.as_wide;
      fresh = h.fresh;
      sealed = h.sealed;
      unsealed = h.unsealed;
      to_turn = h.to_turn;
      built = h.built;
      in_time = (ticked g c).in_time;
      few_waiting = omega (arith, (ticked g c).few_waiting);
      few_to_come = omega (arith, (ticked g c).few_to_come, double);
    }

pub returns-clause-on_time : goal.returns-clause-on_time
returns-clause-on_time g c = record {
  in_time = (ticked g c).in_time;
  few_waiting = (ticked g c).few_waiting;
  few_to_come = omega (arith, (ticked g c).few_to_come, twice c.self-2.inside.level c.self-2.invariant.least);
}

pub drain-requires : goal.drain-requires
drain-requires g c =
    let contents = g.B.Part.Part.contents in
    let a = contents c.args.a.now in
    let b = contents c.args.b.now in
    record { some = (a, b, subst (λ v. Builds (profile g) v a b) (sym c.grow.ensures.same) c.read.ensures.builds) }

none_if : (n : ℕ) → (0 < n → ⊥) → n ≡ 0
none_if zero some = refl
none_if (suc n) some = absurd (some (omega arith))

pub returns-clause-paid : goal.returns-clause-paid
returns-clause-paid g c =
    let merge : c.self-2.inside.merge.left ≡ c.read.new.self.merge.left =
    ap (λ v. v.merge.left) c.self-2.view_is ∙ ap (λ v. v.merge.left) c.drain.ensures.same ∙ ap (λ v. v.merge.left) c.grow.ensures.same in
    record {
      read = omega (arith, merge, c.read.ensures.left, c.read.ensures.cost.turns_spent, c.grow.ensures.cost.turns_spent, c.drain.ensures.cost.turns_spent);
      made = λ open_still closed.
          let sealed : c.read.new.self.part.is_sealed ≡ true =
          sym c.grow.ensures.sealed ∙ sym (ap (λ v. v.part.is_sealed) c.drain.ensures.same) ∙ sym (ap (λ v. v.part.is_sealed) c.self-2.view_is) ∙ closed in
          let left : c.self-2.inside.part.left ≡ c.grow.new.self.part.left = ap (λ v. v.part.left) c.self-2.view_is ∙ ap (λ v. v.part.left) c.drain.ensures.same in
          let items : length c.self-2.inside.part.contents.items ≡ length c.read.new.self.part.contents.items =
          ap (λ v. length v.part.contents.items) c.self-2.view_is ∙ ap length c.drain.ensures.items ∙ ap (λ v. length v.part.contents.items) c.grow.ensures.same in
          let ended : c.self-2.inside.merge.left ≡ 0 =
          none_if c.self-2.inside.merge.left (λ some. let no : ⊥ = cc (sym closed ∙ (c.self-2.invariant.unsealed some).0) in no) in
          omega (
            arith,
            ended,
            merge,
            c.read.ensures.sealed open_still sealed,
            turns_left-sealed (profile g) c.read.new.self sealed,
            turns_left-sealed (profile g) c.grow.new.self (c.grow.ensures.sealed ∙ sealed),
            c.grow.ensures.left,
            ap (λ v. v.merge.left) c.grow.ensures.same,
            left,
            items,
            c.read.ensures.left,
            c.read.ensures.cost.turns_spent,
            c.grow.ensures.cost.turns_spent,
            c.drain.ensures.cost.turns_spent,
          );
    }
