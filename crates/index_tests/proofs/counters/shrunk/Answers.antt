use Rattle.std.proofs.Common.{◌<◌, All, Contains, length, ap, sym, subst, arith}
use Rattle.binary_stack.specs.Levels.{weight_of, live_items, all_items}
use Rattle.binary_stack.proofs.Marked.{all-same, weight-same, fewer-without}
use Rattle.index_tests.proofs.counters.shrunk.Goals as goal

pub delete-requires : goal.delete-requires
delete-requires g c =
    subst (λ x. Contains (live_items g.B.Part.Part.contents c.insert_up_to.new.stack.levels) x) (sym c.pair.ensures)
    (c.in_ok-insert_up_to.ensures.first (omega arith))

pub insert-requires-clause-light : goal.insert-requires-clause-light
insert-requires-clause-light g c =
    omega (
      arith,
      ap (λ s. weight_of s.levels) c.prepare.ensures.same,
      weight-same g.B.Part.Part.contents c.insert_up_to.new.stack.levels c.delete.new.self.levels c.delete.ensures.marked.same,
      c.in_ok-insert_up_to.ensures.weight,
    )

pub insert-requires-clause-few : goal.insert-requires-clause-few
insert-requires-clause-few g c =
    let contents = g.B.Part.Part.contents in
    omega (
      arith,
      ap (λ s. length (live_items contents s.levels)) c.prepare.ensures.same,
      ap length c.delete.ensures.marked.live,
      fewer-without (λ x. x.stamp) c.pair.result.stamp (live_items contents c.insert_up_to.new.stack.levels),
      c.in_ok-insert_up_to.ensures.live,
    )

pub insert-requires-clause-apart : goal.insert-requires-clause-apart
insert-requires-clause-apart g c k d within same =
    let contents = g.B.Part.Part.contents in
    let old = c.insert_up_to.new.stack.levels in
    let marked = all-same contents old c.delete.new.self.levels c.delete.ensures.marked.same in
    let below = subst (All (λ x. x.stamp < 3)) (sym marked) c.in_ok-insert_up_to.ensures.below in
    let here = subst (λ s. All (λ x. x.stamp < 3) (all_items contents s.levels)) (sym c.prepare.ensures.same) below in
    absurd (omega (arith, here k d within, same, ap (λ x. x.stamp) c.pair-2.ensures))
