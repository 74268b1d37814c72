use Rattle.std.proofs.Common.{◌≡◌, ℕ, ◌+◌, ◌-◌, ◌*◌, ◌^◌, ◌<◌, ◌≤◌, true, length, arith, sym, ap, ◌∙◌, subst, Some, slice_get}
use Rattle.std.proofs.lemmas.List.{length-replicate}
use Rattle.kd_tree.specs.Heights.{span, index}
use Rattle.kd_tree.specs.Blocks.{AreSpots, IsLeastBox}
use Rattle.kd_tree.specs.HeightLaws.{four_small}
use Rattle.kd_tree.proofs.NodeLemmas.{node_within, node_is, IsLeastBox-whole}
use Rattle.kd_tree.specs.GrowingLaws.{AreLive-all}
use Rattle.kd_tree.proofs.Growths.{shallow, IsLeastBox-beyond}
use Rattle.kd_tree.proofs.rows.KdRows.block_area.Goals as goal

few : (depth level place : ℕ) → depth ≤ 15 → place < 4 ^ (depth - level) → place < 2 ^ 30
few depth level place small below = omega (arith, four_small (depth - level) (omega arith))

below : (depth level place : ℕ) → 0 < level → place < 4 ^ (depth - level) → place < 4 ^ (depth - 1 - (level - 1))
below depth level place some inside = subst (λ i. place < 4 ^ i) (omega arith) inside

pub index-requires-clause-small : goal.index-requires-clause-small
index-requires-clause-small g c = let there = c.requires.shaping in omega (arith, shallow there.0 c.args.self.now there.1)

pub index-requires-clause-few : goal.index-requires-clause-few
index-requires-clause-few g c =
    let there = c.requires.shaping in
    omega (arith, few c.args.self.now.depth c.args.level c.args.place (omega (arith, shallow there.0 c.args.self.now there.1)) c.requires.place)

pub at-areas-requires : goal.at-areas-requires
at-areas-requires g c =
    let there = c.requires.shaping in
    let rows = c.args.self.now in
    let some : 0 < c.args.level = c.if-level-gt0.true in
    omega (
      arith,
      c.index.ensures,
      node_within there.0 rows.places.items rows.depth rows.level rows.place (c.args.level - 1) c.args.place rows.nodes.items there.1.nodes
          (omega (arith, some, c.requires.within)) (below rows.depth c.args.level c.args.place some c.requires.place) (omega (arith, some, c.requires.level)),
    )

pub overflow_mul-place : goal.overflow_mul-place
overflow_mul-place g c =
    let there = c.requires.shaping in
    omega (arith, few c.args.self.now.depth c.args.level c.args.place (omega (arith, shallow there.0 c.args.self.now there.1)) c.requires.place)

pub returns-then-level-gt0-clause-least : goal.returns-then-level-gt0-clause-least
returns-then-level-gt0-clause-least g c part shaping =
    let rows = c.args.self.now in
    let some : 0 < c.args.level = c.if-level-gt0.true in
    let up : c.args.level - 1 + 1 ≡ c.args.level = omega (arith, some) in
    let at : slice_get rows.nodes.items (index rows.depth (c.args.level - 1) c.args.place) ≡ Some c.at-areas.result =
    ap (slice_get rows.nodes.items) (sym c.index.ensures) ∙ c.at-areas.ensures.read in
    subst (λ l. IsLeastBox part rows.places.items c.whole.result (c.args.place * span l) ((c.args.place + 1) * span l)) up
    (IsLeastBox-whole part rows.places.items (c.args.level - 1) c.args.place c.at-areas.result c.whole.result
    (node_is part rows.places.items rows.depth rows.level rows.place (c.args.level - 1) c.args.place rows.nodes.items c.at-areas.result shaping.nodes
    (omega (arith, some, c.requires.within)) (below rows.depth c.args.level c.args.place some c.requires.place) (omega (arith, some, c.requires.level)) at)
    c.whole.ensures.has c.whole.ensures.least)

pub returns-then-place-len-clause-least : goal.returns-then-place-len-clause-least
returns-then-place-len-clause-least g c part shaping =
    let rows = c.args.self.now in
    let order = rows.places.items in
    let low : 0 ≡ c.args.level = omega (arith, c.if-level-gt0.false) in
    let long : c.len-len.result ≡ length part.items = c.len-len.ensures.value ∙ shaping.long in
    let filled : rows.filled ≡ c.len-len.result = c.requires.filled ∙ sym c.len-len.ensures.value in
    subst (λ l. IsLeastBox part order c.area.result (c.args.place * span l) ((c.args.place + 1) * span l)) low
    (c.area.ensures.least part order
    (record {
      as_many = sym long;
      flagged = ap length shaping.flags ∙ length-replicate (length part.items) true ∙ sym long;
      long = sym c.len-len.ensures.value;
      each_place = c.len-len.ensures.each_place;
      spots = subst (λ n. AreSpots part.items order n rows.leaves.spots.items) filled shaping.spots;
      live = AreLive-all part.flags (length part.items) order rows.leaves.live.items shaping.flags shaping.live;
    }))

pub returns-else-place-len-clause-least : goal.returns-else-place-len-clause-least
returns-else-place-len-clause-least g c part shaping =
    let low : c.args.level ≡ 0 = omega (arith, c.if-level-gt0.false) in
    let past : c.len-len.result ≤ 8 * c.args.place = c.if-place-len.false in
    IsLeastBox-beyond part c.args.self.now.places.items c.nothing.result (c.args.place * span c.args.level) ((c.args.place + 1) * span c.args.level)
    (omega (arith, ap (λ l. c.args.place * span l) low, c.len-len.ensures.value, past)) c.nothing.ensures
