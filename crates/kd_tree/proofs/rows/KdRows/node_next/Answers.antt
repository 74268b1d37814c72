use Rattle.std.proofs.Common.{◌≡◌, ◌+◌, List, [], ◌∷◌, arith, sym, ◌∙◌, subst}
use Rattle.query_laws.specs.StepLedger.{Entries}
use Rattle.kd_tree.specs.declared.area.Area.{Area}
use Rattle.kd_tree.specs.Blocks.{IsNode}
use Rattle.kd_tree.specs.Growing.{IsShaping, to_go}
use Rattle.kd_tree.proofs.NodeLemmas.{IsNode-made}
use Rattle.kd_tree.proofs.Growths.{shallow, goes_on, node_room, next_few, IsShaping-place, IsShaping-level}
use Rattle.kd_tree.proofs.rows.KdRows.node_next.Goals as goal

pub overflow_mul-first : goal.overflow_mul-first
overflow_mul-first g c = let there = c.requires.shaping in omega (arith, (next_few there.0 c.args.self.now there.1 c.requires.more).1)

pub overflow_add-first : goal.overflow_add-first
overflow_add-first g c = let there = c.requires.shaping in omega (arith, (next_few there.0 c.args.self.now there.1 c.requires.more).1)

pub overflow_add-first-2 : goal.overflow_add-first-2
overflow_add-first-2 g c = let there = c.requires.shaping in omega (arith, (next_few there.0 c.args.self.now there.1 c.requires.more).1)

pub overflow_add-first-3 : goal.overflow_add-first-3
overflow_add-first-3 g c = let there = c.requires.shaping in omega (arith, (next_few there.0 c.args.self.now there.1 c.requires.more).1)

pub overflow_add-self : goal.overflow_add-self
overflow_add-self g c = let there = c.requires.shaping in omega (arith, (next_few there.0 c.args.self.now there.1 c.requires.more).1)

pub block_area-requires-clause-place : goal.block_area-requires-clause-place
block_area-requires-clause-place g c = let there = c.requires.shaping in omega (arith, (next_few there.0 c.args.self.now there.1 c.requires.more).0)

pub block_area-requires-2-clause-place : goal.block_area-requires-2-clause-place
block_area-requires-2-clause-place g c = let there = c.requires.shaping in omega (arith, (next_few there.0 c.args.self.now there.1 c.requires.more).0)

pub block_area-requires-3-clause-place : goal.block_area-requires-3-clause-place
block_area-requires-3-clause-place g c = let there = c.requires.shaping in omega (arith, (next_few there.0 c.args.self.now there.1 c.requires.more).0)

pub block_area-requires-4-clause-place : goal.block_area-requires-4-clause-place
block_area-requires-4-clause-place g c = let there = c.requires.shaping in omega (arith, (next_few there.0 c.args.self.now there.1 c.requires.more).0)

pub push-requires : goal.push-requires
push-requires g c = let there = c.requires.shaping in omega (arith, node_room there.0 c.args.self.now there.1, c.requires.more)

pub nodes_over-requires-clause-small : goal.nodes_over-requires-clause-small
nodes_over-requires-clause-small g c = let there = c.requires.shaping in omega (arith, shallow there.0 c.args.self.now there.1)

pub nodes_over-requires-clause-within : goal.nodes_over-requires-clause-within
nodes_over-requires-clause-within g c = let there = c.requires.shaping in (goes_on there.0 c.args.self.now there.1 c.requires.more).0

pub overflow_add-self-then-self-nodes_over : goal.overflow_add-self-then-self-nodes_over
overflow_add-self-then-self-nodes_over g c =
    let there = c.requires.shaping in
    omega (arith, shallow there.0 c.args.self.now there.1, (goes_on there.0 c.args.self.now there.1 c.requires.more).0)

pub returns-then-self-nodes_over-clause-shaping : goal.returns-then-self-nodes_over-clause-shaping
returns-then-self-nodes_over-clause-shaping g c part shaping =
    let rows = c.args.self.now in
    let areas : List Area = c.block_area.result ∷ c.block_area-2.result ∷ c.block_area-3.result ∷ c.block_area-4.result ∷ [] in
    let node : IsNode part rows.places.items rows.level rows.place areas =
    IsNode-made part rows.places.items rows.level rows.place c.block_area.result c.block_area-2.result c.block_area-3.result c.block_area-4.result
    (c.block_area.ensures.least part shaping) (c.block_area-2.ensures.least part shaping) (c.block_area-3.ensures.least part shaping)
    (c.block_area-4.ensures.least part shaping) in
    let more = c.requires.more in
    subst
    (λ (n : Entries (List Area)). IsShaping part (record rows { nodes = n; place = 0; level = rows.level + 1 })
    × (to_go part (record rows { nodes = n; place = 0; level = rows.level + 1 }) + 1 ≡ to_go part rows))
    (sym c.push.ensures.appended)
    (IsShaping-level part rows areas shaping (c.requires.filled ∙ shaping.long) more node (omega (arith, c.if-self-nodes_over.true, c.nodes_over.ensures)))

pub returns-else-self-nodes_over-clause-shaping : goal.returns-else-self-nodes_over-clause-shaping
returns-else-self-nodes_over-clause-shaping g c part shaping =
    let rows = c.args.self.now in
    let areas : List Area = c.block_area.result ∷ c.block_area-2.result ∷ c.block_area-3.result ∷ c.block_area-4.result ∷ [] in
    let node : IsNode part rows.places.items rows.level rows.place areas =
    IsNode-made part rows.places.items rows.level rows.place c.block_area.result c.block_area-2.result c.block_area-3.result c.block_area-4.result
    (c.block_area.ensures.least part shaping) (c.block_area-2.ensures.least part shaping) (c.block_area-3.ensures.least part shaping)
    (c.block_area-4.ensures.least part shaping) in
    let more = c.requires.more in
    subst
    (λ (n : Entries (List Area)). IsShaping part (record rows { nodes = n; place = rows.place + 1 })
    × (to_go part (record rows { nodes = n; place = rows.place + 1 }) + 1 ≡ to_go part rows))
    (sym c.push.ensures.appended)
    (IsShaping-place part rows areas shaping (c.requires.filled ∙ shaping.long) more node (λ is. c.if-self-nodes_over.false (is ∙ sym c.nodes_over.ensures)))
