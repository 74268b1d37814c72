-- A point that dies, and the tree without it.
use Rattle.std.proofs.Common.{◌≡◌, ℕ, ◌+◌, ◌-◌, ◌*◌, ◌^◌, ◌≤◌, false, List, length, set, sym, ap, ◌∙◌, arith, subst}
use Rattle.std.proofs.lemmas.List.{length-set}
use Rattle.builder_trait.specs.Parts.{Contents}
use Rattle.map_shapes.specs.declared.point.Point.{Point}
use Rattle.row_blocks.specs.Heights.{height_of}
use Rattle.kd_tree.specs.declared.rows.KdRows.{KdRows}
use Rattle.kd_tree.specs.declared.leaves.Leaves.{Leaves}
use Rattle.kd_tree.specs.declared.area.Area.{Area}
use Rattle.kd_tree.specs.Heights.{span}
use Rattle.kd_tree.specs.HeightLaws.{few_points, least_height, depth_low, depth_small, depth_covers}
use Rattle.kd_tree.specs.Blocks.{AreSpots, AreLive, AreNodes}
use Rattle.kd_tree.specs.Shrinking.{died}
use Rattle.kd_tree.specs.Growing.{IsTree}

module _ (part : Contents Point) (rows : KdRows) (tree : IsTree part rows) where
  pub few_items : length part.items ≤ 2 ^ 31
  few_items = few_points (length part.items) part.at_level tree.room.small tree.few

  pub shallow : rows.depth ≤ 14
  shallow = omega (arith, tree.depth_is, depth_small (length part.items) few_items)

  pub covered : length part.items ≤ span rows.depth
  covered = subst (λ d. length part.items ≤ span d) (sym tree.depth_is) (depth_covers (length part.items) few_items)

  pub cheap : (h : ℕ) → length part.items ≤ 2 ^ h → 2 * rows.depth + 5 ≤ 16 * (h + 2) - (h + 4)
  cheap h few =
      let low : height_of (length part.items) ≤ h = least_height (length part.items) h (omega (arith, few_items)) few in
      let twice : 2 * rows.depth ≤ h + 2 = omega (arith, depth_low (length part.items), low, tree.depth_is) in
      omega (arith, twice)

  pub IsTree-killed : (place : ℕ) (leaves : Leaves) (nodes : List (List Area))
      → leaves ≡ record rows.leaves { live = record rows.leaves.live { items = leaves.live.items } }
      → length leaves.live.items ≡ length rows.leaves.live.items
      → AreLive (set part.flags place false) rows.places.items leaves.live.items
      → AreNodes (died part place) rows.places.items rows.depth rows.depth 0 nodes
      → IsTree (died part place) (record rows { leaves = leaves; nodes = record rows.nodes { items = nodes } })
  IsTree-killed place leaves nodes kept as_many live are = record {
    room = record {
      small = tree.room.small;
      places = tree.room.places;
      sorting = tree.room.sorting;
      leaves = record { spots = ap (λ l. l.spots.capacity) kept ∙ tree.room.leaves.spots; live = ap (λ l. l.live.capacity) kept ∙ tree.room.leaves.live };
      nodes = tree.room.nodes;
    };
    few = tree.few;
    flagged = length-set part.flags place false ∙ tree.flagged;
    long = tree.long;
    depth_is = tree.depth_is;
    leaves = record { spots = ap (λ l. length l.spots.items) kept ∙ tree.leaves.spots; live = as_many ∙ tree.leaves.live };
    spots = subst (λ (l : Leaves). AreSpots part.items rows.places.items (length part.items) l.spots.items) (sym kept) tree.spots;
    live = live;
    nodes = are;
  }
