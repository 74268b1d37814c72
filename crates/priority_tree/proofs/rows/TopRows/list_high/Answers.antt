use Rattle.std.proofs.Common.{length, refl, arith}
use Rattle.std.proofs.lemmas.Result.{on_ok_weaker}
use Rattle.query_laws.proofs.Counting.{Spends-then, Spends-within}
use Rattle.row_blocks.specs.Heights.{height_of}
use Rattle.priority_tree.proofs.GrowthLemmas.{block_of_shape}
use Rattle.priority_tree.proofs.Answering.{joined_high, many_hits, walk_cost, height_is_least}
use Rattle.priority_tree.proofs.rows.TopRows.list_high.Goals as goal

pub list-requires-clause-block : goal.list-requires-clause-block
list-requires-clause-block g c = block_of_shape (length c.args.points.now.items) c.args.self.now.heap c.args.self.now.height c.requires.tree.shape

pub returns-clause-joined : goal.returns-clause-joined
returns-clause-joined g c =
    on_ok_weaker c.list.result
    (joined_high c.args.points.now c.args.self.now.heap c.args.self.now.height c.requires.tree c.args.question.now.x1 c.args.question.now.x2 c.args.question.now.y
    c.strip_of-strip.result c.strip_of-strip.ensures.strip c.args.tally.now c.list.new.tally) c.list.ensures.listed

pub returns-clause-cost : goal.returns-clause-cost
returns-clause-cost g c =
    let n = length c.args.points.now.items in
    let h = height_is_least c.args.points.now c.args.self.now.heap c.args.self.now.height c.requires.tree in
    let walk = walk_cost c.strip_of-strip.result n c.args.self.now.height (height_of n) h.1 in
    let hits = many_hits c.args.points.now c.args.self.now.heap c.args.self.now.height c.requires.tree c.args.question.now.x1 c.args.question.now.x2 c.args.question.now.y
    c.strip_of-strip.result c.strip_of-strip.ensures.strip in
    Spends-within (Spends-then (c.strip_of-strip.ensures.cost (height_of n) h.0) c.list.ensures.cost) refl refl (omega (arith, walk, hits))

pub returns-clause-read : goal.returns-clause-read
returns-clause-read g c some = omega (arith, c.strip_of-strip.ensures.read some, c.list.ensures.cost.touches_kept)
