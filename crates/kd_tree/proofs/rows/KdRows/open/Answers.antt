use Rattle.std.proofs.Common.{◌+◌, ◌-◌, ◌≤◌, List, [], ◌∷◌, ◌++◌, length, sym, arith, subst}
use Rattle.std.specs.List.{flat_map}
use Rattle.query_laws.specs.Permuted.{Permuted}
use Rattle.kd_tree.specs.declared.block.Block.{Block}
use Rattle.kd_tree.specs.Walks.{live_in_block, IsStack, work_of_all}
use Rattle.kd_tree.proofs.Killings.{shallow}
use Rattle.kd_tree.proofs.Stacks.{IsStack-opened, live-opened, work-opened}
use Rattle.kd_tree.proofs.rows.KdRows.open.Goals as goal

pub push_some-requires : goal.push_some-requires
push_some-requires g c = omega (arith, c.requires.low, c.requires.high, shallow c.args.points.now c.args.self.now c.requires.tree)

pub returns-clause-stack : goal.returns-clause-stack
returns-clause-stack g c =
    let part = c.args.points.now in
    let rows = c.args.self.now in
    let b = c.args.block.now in
    subst (λ (xs : List Block). IsStack part rows.places.items c.args.near.now rows.depth (length part.items) xs) (sym c.push_some.ensures)
    (IsStack-opened part rows.places.items c.args.near.now rows.depth (length part.items) (b.level - 1) c.args.stack.now.items c.blocks_of-blocks.result
    c.blocks_of-blocks.ensures.children c.blocks_of-blocks.ensures.four c.requires.stack (omega (arith, c.requires.high, c.requires.block.level))
    (omega (arith, c.requires.low, c.requires.high)))

pub returns-clause-same : goal.returns-clause-same
returns-clause-same g c =
    let part = c.args.points.now in
    let rows = c.args.self.now in
    let b = c.args.block.now in
    subst
    (λ (xs : List Block). Permuted (flat_map (live_in_block part rows.places.items) xs) (flat_map (live_in_block part rows.places.items) (c.args.stack.now.items ++ b ∷ [])))
    (sym c.push_some.ensures)
    (live-opened part rows.places.items c.args.near.now rows.depth (length part.items) (b.level - 1) c.args.stack.now.items c.blocks_of-blocks.result
    c.blocks_of-blocks.ensures.children c.blocks_of-blocks.ensures.four b c.blocks_of-blocks.ensures.live)

pub returns-clause-less : goal.returns-clause-less
returns-clause-less g c =
    let part = c.args.points.now in
    let rows = c.args.self.now in
    let b = c.args.block.now in
    let n = length part.items in
    subst (λ (xs : List Block). work_of_all n xs + 1 ≤ work_of_all n (c.args.stack.now.items ++ b ∷ [])) (sym c.push_some.ensures)
    (work-opened part rows.places.items c.args.near.now rows.depth n (b.level - 1) c.args.stack.now.items c.blocks_of-blocks.result
    c.blocks_of-blocks.ensures.children c.blocks_of-blocks.ensures.four b c.blocks_of-blocks.ensures.work)
