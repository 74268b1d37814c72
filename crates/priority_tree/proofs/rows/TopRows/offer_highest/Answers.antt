use Rattle.std.proofs.Common.{length, refl, arith, subst}
use Rattle.query_laws.proofs.Counting.{Spends-then, Spends-within}
use Rattle.row_blocks.specs.Heights.{height_of}
use Rattle.priority_tree.specs.Entries.{IsFront}
use Rattle.priority_tree.specs.Tree.{entries_in}
use Rattle.priority_tree.proofs.GrowthLemmas.{block_of_shape}
use Rattle.priority_tree.proofs.Answering.{joined_strip, joined_nothing, joined_beaten, walk_cost, height_is_least}
use Rattle.priority_tree.proofs.rows.TopRows.offer_highest.Goals as goal

pub front-requires-clause-block : goal.front-requires-clause-block
front-requires-clause-block g c = block_of_shape (length c.args.points.now.items) c.args.self.now.heap c.args.self.now.height c.requires.tree.shape

pub offer-requires-clause-block : goal.offer-requires-clause-block
offer-requires-clause-block g c = block_of_shape (length c.args.points.now.items) c.args.self.now.heap c.args.self.now.height c.requires.tree.shape

pub returns-in_default-clause-joined : goal.returns-in_default-clause-joined
returns-in_default-clause-joined g c =
    joined_nothing c.args.points.now c.args.self.now.heap c.args.self.now.height c.requires.tree c.args.question.now.x1 c.args.question.now.x2 c.args.tally.now
    (subst (λ o. IsFront o (entries_in c.args.self.now.heap c.args.self.now.height 0)) c.in_default.is c.front.ensures.front)

pub returns-then-beats-clause-joined : goal.returns-then-beats-clause-joined
returns-then-beats-clause-joined g c =
    joined_strip c.args.points.now c.args.self.now.heap c.args.self.now.height c.requires.tree c.args.question.now.x1 c.args.question.now.x2
    c.strip_of-strip.result c.args.tally.now c.offer.new.tally c.strip_of-strip.ensures.strip c.offer.ensures.joined

pub returns-then-beats-clause-cost : goal.returns-then-beats-clause-cost
returns-then-beats-clause-cost g c =
    let n = length c.args.points.now.items in
    let h = height_is_least c.args.points.now c.args.self.now.heap c.args.self.now.height c.requires.tree in
    let walk = walk_cost c.strip_of-strip.result n c.args.self.now.height (height_of n) h.1 in
    Spends-within (Spends-then (Spends-then c.front.ensures.cost (c.strip_of-strip.ensures.cost (height_of n) h.0)) c.offer.ensures.cost) refl refl (omega (arith, walk))

pub returns-else-beats-clause-joined : goal.returns-else-beats-clause-joined
returns-else-beats-clause-joined g c =
    joined_beaten c.args.points.now c.args.self.now.heap c.args.self.now.height c.requires.tree c.args.question.now.x1 c.args.question.now.x2 c.args.tally.now c.beats.result
    c.in-Some.entry (subst (λ o. IsFront o (entries_in c.args.self.now.heap c.args.self.now.height 0)) c.in-Some.is c.front.ensures.front).1 c.beats.ensures c.if-beats.false

pub returns-in_default-clause-read : goal.returns-in_default-clause-read
returns-in_default-clause-read g c some = c.front.ensures.read (omega (arith, c.requires.tree.shape.leaves, some))

pub returns-then-beats-clause-read : goal.returns-then-beats-clause-read
returns-then-beats-clause-read g c some =
    let h = height_is_least c.args.points.now c.args.self.now.heap c.args.self.now.height c.requires.tree in
    let strip = c.strip_of-strip.ensures.cost (height_of (length c.args.points.now.items)) h.0 in
    let first = c.front.ensures.read (omega (arith, c.requires.tree.shape.leaves, some)) in
    omega (arith, first, strip.touches_kept, c.offer.ensures.cost.touches_kept)

pub returns-else-beats-clause-read : goal.returns-else-beats-clause-read
returns-else-beats-clause-read g c some = c.front.ensures.read (omega (arith, c.requires.tree.shape.leaves, some))
