use Rattle.std.proofs.Common.{◌≡◌, ◌+◌, ◌-◌, ◌*◌, ◌≤◌, ◌∙◌, ap, arith, subst, sym}
use Rattle.query_laws.specs.StepLedger.{Spends}
use Rattle.query_laws.proofs.Counting.{Spends-then, Spends-weaker}
use Rattle.partial_build.specs.Construction.{Construction}
use Rattle.partial_build.proofs.build.Build.drain.Goals as goal

pub mark_next-requires-clause-some : goal.mark_next-requires-clause-some
mark_next-requires-clause-some g c =
    let a = c.requires.some.0 in
    let b = c.requires.some.1 in (a, b, c.loop-drained.invariant.builds a b c.requires.some.2)

pub loop-drained-preserved : goal.loop-drained-preserved
loop-drained-preserved g c =
    let before = c.loop-drained.invariant in
    let earlier = c.loop-drained.steps.marks - c.args.steps.now.marks in
    let marks = c.mark_next.new.steps.marks - c.loop-drained.steps.marks in
    let touches = g.B.Part.Part.mark_touches c.args.self.now.level in
    let all : c.mark_next.new.steps.marks - c.args.steps.now.marks ≡ earlier + marks =
    omega (arith, before.spent.marks_spent, c.mark_next.ensures.cost.marks_spent) in
    let cost : Spends c.loop-drained.steps c.mark_next.new.steps 0 marks (marks * touches) =
    subst (λ n. Spends c.loop-drained.steps c.mark_next.new.steps 0 marks (marks * g.B.Part.Part.mark_touches n))
    (ap (λ (v : Construction g.row.B-Item.Denot). v.level) before.same) c.mark_next.ensures.cost in
    let sum : earlier * touches + marks * touches ≤ (earlier + marks) * touches = omega arith in
    record {
      builds = λ a b h. c.mark_next.ensures.builds a b (before.builds a b h);
      same = c.mark_next.ensures.same ∙ ap (λ (v : Construction g.row.B-Item.Denot). record v {
        part = record v.part { contents = c.mark_next.new.self.part.contents };
        waiting = c.mark_next.new.self.waiting;
      }) before.same;
      items = c.mark_next.ensures.items ∙ before.items;
      marks = omega (arith, all, before.marks, before.drained, c.mark_next.ensures.marks);
      drained = omega (arith, all, before.drained, c.mark_next.ensures.drained);
      spent = subst (λ n. Spends c.args.steps.now c.mark_next.new.steps 0 n (n * touches)) (sym all)
          (Spends-weaker (Spends-then before.spent cost) sum);
    }
