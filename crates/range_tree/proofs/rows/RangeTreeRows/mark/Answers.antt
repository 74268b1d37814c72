use Rattle.std.proofs.Common.{◌≡◌, ◌+◌, ◌*◌, ◌≤◌, ◌∙◌, false, length, ap, arith, refl, subst, sym, set}
use Rattle.std.proofs.lemmas.Nat.{mul-le}
use Rattle.std.proofs.lemmas.Option.{slice_get_within}
use Rattle.query_laws.proofs.Counting.{Spends-then, Spends-within}
use Rattle.builder_trait.specs.Parts.{Contents}
use Rattle.row_blocks.specs.Heights.{IsLeastHeight-height_of}
use Rattle.map_shapes.specs.declared.point.Point.{Point}
use Rattle.range_tree.specs.declared.rows.RangeTree.{RangeTree}
use Rattle.range_tree.specs.Heights.{rows_to}
use Rattle.range_tree.specs.Growing.{IsKept}
use Rattle.range_tree.specs.Tree.{AreRows}
use Rattle.range_tree.specs.Marks.{IsDying}
use Rattle.range_tree.proofs.SpanLemmas.{height-small}
use Rattle.range_tree.proofs.Struck.{IsDying-before, IsDying-leaves, IsKept-struck}
use Rattle.range_tree.proofs.rows.RangeTreeRows.mark.Goals as goal

pub rows_for-rows-requires : goal.rows_for-rows-requires
rows_for-rows-requires g c =
    let behind = c.requires.behind in
    let height = ap (λ (r : RangeTree). r.height) c.strike_leaf.ensures.kept in
    omega (arith, height, height-small (record c.args.points.now { flags = behind.flags }) c.args.self.now behind.done.tree)

pub returns-then-rows-eq0-clause-done : goal.returns-then-rows-eq0-clause-done
returns-then-rows-eq0-clause-done g c =
    let behind = c.requires.behind in
    let old : RangeTree = c.args.self.now in
    let height = ap (λ (r : RangeTree). r.height) c.strike_leaf.ensures.kept in
    subst (λ (r : RangeTree). IsKept c.args.points.now r) (sym c.strike_leaf.ensures.kept)
    (IsKept-struck c.args.points.now behind.flags c.args.place old c.strike_leaf.new.self.leaves old.ranks behind.died
    (slice_get_within behind.flags c.args.place _ behind.was_live) behind.done c.strike_leaf.ensures.room c.strike_leaf.ensures.own c.strike_leaf.ensures.ys
    c.strike_leaf.ensures.bits c.strike_leaf.ensures.many refl (λ some. absurd (omega (arith, some, height, c.rows_for-rows.ensures, c.if-rows-eq0.true))))

pub mark_rows-requires-clause-there : goal.mark_rows-requires-clause-there
mark_rows-requires-clause-there g c =
    let behind = c.requires.behind in
    let part : Contents Point = record c.args.points.now { flags = behind.flags } in
    let height = ap (λ (r : RangeTree). r.height) c.strike_leaf.ensures.kept in
    let dying = IsDying-before c.args.points.now behind.flags c.args.place c.args.item.now c.args.self.now c.requires.valid behind.died behind.was_live c.requires.there
    behind.done.tree (omega (arith, height, c.rows_for-rows.ensures, c.if-rows-eq0.false)) in (
      part,
      subst (λ (r : RangeTree). IsDying part c.args.place c.args.item.now r) (sym c.strike_leaf.ensures.kept)
          (IsDying-leaves part c.args.place c.args.item.now c.args.self.now c.strike_leaf.new.self.leaves dying),
    )

pub returns-clause-done : goal.returns-clause-done
returns-clause-done g c =
    let behind = c.requires.behind in
    let old : RangeTree = c.args.self.now in
    let part : Contents Point = record c.args.points.now { flags = behind.flags } in
    let marked : Contents Point = record c.args.points.now { flags = set behind.flags c.args.place false } in
    let height = ap (λ (r : RangeTree). r.height) c.strike_leaf.ensures.kept in
    let dying = IsDying-before c.args.points.now behind.flags c.args.place c.args.item.now c.args.self.now c.requires.valid behind.died behind.was_live c.requires.there
    behind.done.tree (omega (arith, height, c.rows_for-rows.ensures, c.if-rows-eq0.false)) in
    let here : IsDying part c.args.place c.args.item.now c.strike_leaf.new.self =
    subst (λ (r : RangeTree). IsDying part c.args.place c.args.item.now r) (sym c.strike_leaf.ensures.kept)
    (IsDying-leaves part c.args.place c.args.item.now c.args.self.now c.strike_leaf.new.self.leaves dying) in
    let all : c.mark_rows.new.self ≡ record old { leaves = c.strike_leaf.new.self.leaves; ranks = c.mark_rows.new.self.ranks } =
    c.mark_rows.ensures.kept ∙ ap (λ (r : RangeTree). record r { ranks = c.mark_rows.new.self.ranks }) c.strike_leaf.ensures.kept in
    let rows : AreRows marked old.height (rows_to old.height) c.mark_rows.new.self.ranks old.source.items =
    subst (λ (r : RangeTree). AreRows marked r.height (rows_to r.height) c.mark_rows.new.self.ranks r.source.items) all (c.mark_rows.ensures.marked part here) in
    subst (λ (r : RangeTree). IsKept c.args.points.now r) (sym all)
    (IsKept-struck c.args.points.now behind.flags c.args.place old c.strike_leaf.new.self.leaves c.mark_rows.new.self.ranks behind.died
    (slice_get_within behind.flags c.args.place _ behind.was_live) behind.done c.strike_leaf.ensures.room c.strike_leaf.ensures.own c.strike_leaf.ensures.ys
    c.strike_leaf.ensures.bits c.strike_leaf.ensures.many (c.mark_rows.ensures.room ∙ ap (λ (r : RangeTree). r.ranks.room) c.strike_leaf.ensures.kept) (λ some. rows))

pub returns-clause-cost : goal.returns-clause-cost
returns-clause-cost g c h few =
    let behind = c.requires.behind in
    let part : Contents Point = record c.args.points.now { flags = behind.flags } in
    let height = ap (λ (r : RangeTree). r.height) c.strike_leaf.ensures.kept in
    let dying = IsDying-before c.args.points.now behind.flags c.args.place c.args.item.now c.args.self.now c.requires.valid behind.died behind.was_live c.requires.there
    behind.done.tree (omega (arith, height, c.rows_for-rows.ensures, c.if-rows-eq0.false)) in
    let here : IsDying part c.args.place c.args.item.now c.strike_leaf.new.self =
    subst (λ (r : RangeTree). IsDying part c.args.place c.args.item.now r) (sym c.strike_leaf.ensures.kept)
    (IsDying-leaves part c.args.place c.args.item.now c.args.self.now c.strike_leaf.new.self.leaves dying) in
    let low : c.strike_leaf.new.self.height ≤ h =
    omega (arith, height, behind.done.tree.height, (IsLeastHeight-height_of (length part.items) (omega (arith, behind.done.tree.few))).least h few) in
    Spends-within (Spends-then c.strike_leaf.ensures.cost (c.mark_rows.ensures.cost part h here few low)) refl refl
    (omega (arith, mul-le (rows_to h) (2 * h + 2) (h + 1) (2 * h + 2) (omega arith) (omega arith)))
