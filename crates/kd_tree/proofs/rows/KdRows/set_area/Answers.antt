use Rattle.std.proofs.Common.{◌≡◌, ℕ, ◌+◌, ◌-◌, ◌/◌, ◌%◌, ◌^◌, ◌<◌, List, length, get_or, set, arith, rules, sym, ap, ◌∙◌, subst, Some, slice_get}
use Rattle.std.proofs.lemmas.Option.{slice_get_within}
use Rattle.kd_tree.specs.declared.area.Area.{Area}
use Rattle.kd_tree.specs.declared.rows.KdRows.{KdRows}
use Rattle.kd_tree.specs.Heights.{index}
use Rattle.kd_tree.specs.HeightLaws.{four_below, four_small}
use Rattle.kd_tree.specs.Shrinking.{Death, IsShrinking, rest}
use Rattle.kd_tree.proofs.NodeLemmas.{IsLeastBox-whole}
use Rattle.kd_tree.proofs.Shrinkings.{node_written, IsShrinking-up, AreNodes-stay}
use Rattle.kd_tree.proofs.rows.KdRows.set_area.Goals as goal

below : (depth level block : ℕ) → level < depth → block < 4 ^ (depth - level) → block / 4 < 4 ^ (depth - 1 - level)
below depth level block inside few = omega (arith, four_below depth level inside)

-- the block's node stands where it is read
stands : (death : Death) (rows : KdRows) (level block : ℕ) (area : Area) → IsShrinking death rows.depth level block area rows.nodes.items
    → level < rows.depth → block < 4 ^ (rows.depth - level) → index rows.depth level (block / 4) < length rows.nodes.items
stands death rows level block area shrinking inside few =
    let found = shrinking.above.each level (block / 4) (omega arith) inside (below rows.depth level block inside few) in
    slice_get_within rows.nodes.items (index rows.depth level (block / 4)) found.0 found.1

pub index-node-requires-clause-few : goal.index-node-requires-clause-few
index-node-requires-clause-few g c = omega (arith, c.requires.block, c.requires.small, four_small (c.args.self.now.depth - c.args.level) (omega arith))

pub at-areas-requires : goal.at-areas-requires
at-areas-requires g c =
    let there = c.requires.shrinking in
    omega (
      arith,
      c.index-node.ensures,
      stands there.0 c.args.self.now c.args.level c.args.block c.args.area there.1 c.requires.level c.requires.block,
    )

pub set-requires : goal.set-requires
set-requires g c =
    let there = c.requires.shrinking in
    omega (
      arith,
      c.index-node.ensures,
      stands there.0 c.args.self.now c.args.level c.args.block c.args.area there.1 c.requires.level c.requires.block,
    )

pub returns-then-eq-clause-there : goal.returns-then-eq-clause-there
returns-then-eq-clause-there g c death shrinking =
    let rows = c.args.self.now in
    let at : slice_get rows.nodes.items (index rows.depth c.args.level (c.args.block / 4)) ≡ Some c.at-areas.result =
    ap (slice_get rows.nodes.items) (sym c.index-node.ensures) ∙ c.at-areas.ensures.read in
    let same : get_or c.at-areas.result (c.args.block % 4) c.args.area ≡ c.args.area = search rules in
    AreNodes-stay death rows.depth c.args.level c.args.block c.args.area rows.nodes.items c.at-areas.result shrinking c.requires.level
    (below rows.depth c.args.level c.args.block c.requires.level c.requires.block) at same

pub returns-clause-above : goal.returns-clause-above
returns-clause-above g c death shrinking =
    let rows = c.args.self.now in
    let level = c.args.level in
    let block = c.args.block in
    let node = index rows.depth level (block / 4) in
    let at : slice_get rows.nodes.items node ≡ Some c.at-areas.result = ap (slice_get rows.nodes.items) (sym c.index-node.ensures) ∙ c.at-areas.ensures.read in
    let few = below rows.depth level block c.requires.level c.requires.block in
    let areas : List Area = set c.at-areas.result (block % 4) c.args.area in
    let written : set rows.nodes.items node areas ≡ c.set.new.self.items =
    ap (λ k. set rows.nodes.items k areas) (sym c.index-node.ensures) ∙ sym (ap (λ e. e.items) c.set.ensures.written) in
    subst (λ (l : List (List Area)). IsShrinking death rows.depth (level + 1) (block / 4) c.whole.result l) written
    (IsShrinking-up death rows.depth level block c.args.area rows.nodes.items c.at-areas.result shrinking c.requires.level few at c.whole.result
    (IsLeastBox-whole (rest death) death.order level (block / 4) areas c.whole.result
    (node_written death rows.depth level block c.args.area rows.nodes.items c.at-areas.result shrinking c.requires.level few at)
    c.whole.ensures.has c.whole.ensures.least))
