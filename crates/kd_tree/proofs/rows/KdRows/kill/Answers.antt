use Rattle.std.proofs.Common.{◌≡◌, ℕ, ◌/◌, length, false, set, arith, refl, sym, ◌∙◌, subst}
use Rattle.std.specs.List.{range_with_len}
use Rattle.std.proofs.lemmas.List.{length-set}
use Rattle.query_laws.specs.Permuted.{Permuted}
use Rattle.builder_trait.specs.Parts.{Contents}
use Rattle.map_shapes.specs.declared.point.Point.{Point}
use Rattle.kd_tree.specs.declared.rows.KdRows.{KdRows}
use Rattle.kd_tree.specs.declared.leaves.Leaves.{Leaves}
use Rattle.kd_tree.specs.Blocks.{AreSpots, AreLive, AreLeavesOf}
use Rattle.kd_tree.specs.Shrinking.{Death, died}
use Rattle.kd_tree.specs.Growing.{IsTree}
use Rattle.kd_tree.proofs.Shrinkings.{IsShrinking-begun}
use Rattle.kd_tree.proofs.Killings.{shallow, covered, IsTree-killed}
use Rattle.kd_tree.proofs.rows.KdRows.kill.Goals as goal

-- the point that dies, where it stood
abbrev death : Contents Point → KdRows → (place position : ℕ) → Death
death part rows place position = record { part = part; order = rows.places.items; place = place; position = position }

-- the leaves without it
leaves_of : (part : Contents Point) (rows : KdRows) (place n : ℕ) (leaves : Leaves) → IsTree part rows → n ≡ length rows.places.items
    → Permuted rows.places.items (range_with_len 0 (length rows.places.items))
    → leaves ≡ record rows.leaves { live = record rows.leaves.live { items = leaves.live.items } }
    → AreLive (set part.flags place false) rows.places.items leaves.live.items
    → AreLeavesOf (died part place) rows.places.items n leaves.spots.items leaves.live.items
leaves_of part rows place n leaves tree is each kept live =
    let long : length part.items ≡ n = sym tree.long ∙ sym is in
    record {
      as_many = long;
      flagged = length-set part.flags place false ∙ tree.flagged ∙ long;
      long = sym is;
      each_place = each;
      spots = subst (λ (l : Leaves). AreSpots part.items rows.places.items n l.spots.items) (sym kept)
          (subst (λ m. AreSpots part.items rows.places.items m rows.leaves.spots.items) long tree.spots);
      live = live;
    }

pub raise-requires-clause-shrinking : goal.raise-requires-clause-shrinking
raise-requires-clause-shrinking g c =
    let there = c.requires.tree in
    let part : Contents Point = there.0 in
    let tree = there.1 in
    let rows = c.args.self.now in
    let order = rows.places.items in
    let only = c.position_of-position.ensures.only in
    let live = c.kill.ensures.live part.flags order c.args.place tree.live c.position_of-position.ensures.value only in
    let of = leaves_of part rows c.args.place c.len.result c.kill.new.self tree c.len.ensures.value c.len.ensures.each_place c.kill.ensures.kept live in (
      death part rows c.args.place c.position_of-position.result,
      IsShrinking-begun (death part rows c.args.place c.position_of-position.result) rows.depth (c.position_of-position.result / 8) c.area-area.result
          rows.nodes.items only refl (c.area-area.ensures.least (died part c.args.place) order of) tree.nodes,
    )

pub raise-requires-clause-small : goal.raise-requires-clause-small
raise-requires-clause-small g c = let there = c.requires.tree in omega (arith, shallow there.0 c.args.self.now there.1)

pub raise-requires-clause-leaf : goal.raise-requires-clause-leaf
raise-requires-clause-leaf g c =
    let there = c.requires.tree in
    omega (arith, covered there.0 c.args.self.now there.1, c.position_of-position.ensures.within, there.1.long)

pub returns-clause-tree : goal.returns-clause-tree
returns-clause-tree g c part tree =
    let rows = c.args.self.now in
    let order = rows.places.items in
    let only = c.position_of-position.ensures.only in
    let live = c.kill.ensures.live part.flags order c.args.place tree.live c.position_of-position.ensures.value only in
    let of = leaves_of part rows c.args.place c.len.result c.kill.new.self tree c.len.ensures.value c.len.ensures.each_place c.kill.ensures.kept live in
    let nodes = c.raise.ensures.nodes (death part rows c.args.place c.position_of-position.result)
    (IsShrinking-begun (death part rows c.args.place c.position_of-position.result) rows.depth (c.position_of-position.result / 8) c.area-area.result
    rows.nodes.items only refl (c.area-area.ensures.least (died part c.args.place) order of) tree.nodes) in
    subst (λ r. IsTree (died part c.args.place) r) (sym c.raise.ensures.kept)
    (IsTree-killed part rows tree c.args.place c.kill.new.self c.raise.new.self.nodes.items c.kill.ensures.kept c.kill.ensures.as_many live nodes)
