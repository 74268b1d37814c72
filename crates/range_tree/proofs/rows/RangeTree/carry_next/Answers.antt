use Rattle.std.proofs.Common.{◌≡◌, ◌+◌, ◌-◌, ◌*◌, ◌<◌, length, sym, ap, ◌∙◌, subst, arith}
use Rattle.query_laws.specs.StepLedger.{Entries}
use Rattle.range_tree.specs.declared.growing.Carried.{Carried}
use Rattle.range_tree.specs.declared.rows.RangeTree.{RangeTree}
use Rattle.range_tree.specs.Heights.{words_for}
use Rattle.range_tree.specs.Growing.{AreGrown, IsGrowing}
use Rattle.range_tree.proofs.Carrying.{source_long}
use Rattle.range_tree.proofs.Ended.{points_few, height_low, room_left, IsGrowing-on, IsGrowing-turned}
use Rattle.range_tree.proofs.rows.RangeTree.carry_next.Goals as goal

pub put_place-requires-clause-grown : goal.put_place-requires-clause-grown
put_place-requires-clause-grown g c = (c.requires.growing.0, c.requires.growing.1.grown c.requires.more)

pub put_place-requires-clause-unended : goal.put_place-requires-clause-unended
put_place-requires-clause-unended g c =
    let growing = c.requires.growing.1 in
    subst (λ n. c.args.self.now.at < 64 * words_for n) (sym (source_long c.requires.growing.0 c.args.self.now (growing.grown c.requires.more))) (growing.unended c.requires.more)

pub put_place-requires-clause-room : goal.put_place-requires-clause-room
put_place-requires-clause-room g c = room_left c.requires.growing.0 c.args.self.now c.requires.growing.1 c.requires.more

pub put_place-requires-clause-low : goal.put_place-requires-clause-low
put_place-requires-clause-low g c = height_low c.requires.growing.0 c.args.self.now c.requires.growing.1 c.requires.more

pub overflow_add-self : goal.overflow_add-self
overflow_add-self g c =
    let growing = c.requires.growing.1 in
    omega (
      arith,
      growing.unended c.requires.more,
      points_few c.requires.growing.0 c.args.self.now growing c.requires.more,
      ap (λ (r : RangeTree). r.at) c.put_place.ensures.kept,
    )

pub overflow_sub-self : goal.overflow_sub-self
overflow_sub-self g c = omega (arith, c.requires.more, ap (λ (r : RangeTree). r.left) c.put_place.ensures.kept)

pub overflow_mul-div_ceil : goal.overflow_mul-div_ceil
overflow_mul-div_ceil g c =
    let growing = c.requires.growing.1 in
    omega (
      arith,
      c.div_ceil.ensures,
      c.len.ensures.value,
      ap (λ (r : RangeTree). length r.source.items) c.put_place.ensures.kept,
      source_long c.requires.growing.0 c.args.self.now (growing.grown c.requires.more),
      points_few c.requires.growing.0 c.args.self.now growing c.requires.more,
    )

pub returns-then-self-div_ceil-clause-growing : goal.returns-then-self-div_ceil-clause-growing
returns-then-self-div_ceil-clause-growing g c part growing =
    let old = c.args.self.now in
    let mid = c.put_place.new.self in
    let kept = c.put_place.ensures.kept in
    let before = growing.grown c.requires.more in
    let grown = subst (λ (m : RangeTree). AreGrown part (record m { at = old.at + 1; left = old.left - 1 })) kept (c.put_place.ensures.grown part before) in
    let end : old.at + 1 ≡ 64 * words_for (length part.items) =
    omega (
      arith,
      c.if-self-div_ceil.true,
      c.div_ceil.ensures,
      c.len.ensures.value,
      ap (λ (r : RangeTree). r.at) kept,
      ap (λ (r : RangeTree). length r.source.items) kept,
      source_long part old before,
    ) in
    let first : c.swap.new.x ≡ mid.target = c.swap.ensures.x_after in
    let second : c.swap.new.y ≡ old.source = c.swap.ensures.y_after ∙ ap (λ (r : RangeTree). r.source) kept in
    subst (λ (m : RangeTree). IsGrowing part (record m { source = c.swap.new.x; target = c.swap.new.y; at = 0; left = m.left - 1 })) (sym kept)
    (subst (λ (x : Entries Carried). IsGrowing part (record old { ranks = mid.ranks; source = x; target = c.swap.new.y; at = 0; left = old.left - 1 })) (sym first)
    (subst (λ (y : Entries Carried). IsGrowing part (record old { ranks = mid.ranks; source = mid.target; target = y; at = 0; left = old.left - 1 })) (sym second)
    (IsGrowing-turned part old growing c.requires.more mid.ranks mid.target c.put_place.ensures.room c.put_place.ensures.capacity grown end)))

pub returns-then-self-div_ceil-clause-left : goal.returns-then-self-div_ceil-clause-left
returns-then-self-div_ceil-clause-left g c = omega (arith, c.requires.more, ap (λ (r : RangeTree). r.left) c.put_place.ensures.kept)

pub returns-else-self-div_ceil-clause-growing : goal.returns-else-self-div_ceil-clause-growing
returns-else-self-div_ceil-clause-growing g c part growing =
    let old = c.args.self.now in
    let mid = c.put_place.new.self in
    let kept = c.put_place.ensures.kept in
    let before = growing.grown c.requires.more in
    let grown = subst (λ (m : RangeTree). AreGrown part (record m { at = old.at + 1; left = old.left - 1 })) kept (c.put_place.ensures.grown part before) in
    let inside : old.at + 1 < 64 * words_for (length part.items) =
    omega (
      arith,
      c.if-self-div_ceil.false,
      c.div_ceil.ensures,
      c.len.ensures.value,
      ap (λ (r : RangeTree). r.at) kept,
      ap (λ (r : RangeTree). length r.source.items) kept,
      source_long part old before,
      growing.unended c.requires.more,
    ) in
    subst (λ (m : RangeTree). IsGrowing part (record m { at = m.at + 1; left = m.left - 1 })) (sym kept)
    (IsGrowing-on part old growing c.requires.more mid.ranks mid.target c.put_place.ensures.room c.put_place.ensures.capacity grown inside)

pub returns-else-self-div_ceil-clause-left : goal.returns-else-self-div_ceil-clause-left
returns-else-self-div_ceil-clause-left g c = omega (arith, c.requires.more, ap (λ (r : RangeTree). r.left) c.put_place.ensures.kept)
