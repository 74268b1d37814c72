-- The tree while it grows.
use Rattle.std.proofs.Common.{◌≡◌, ℕ, ◌+◌, ◌-◌, ◌*◌, ◌^◌, ◌<◌, ◌≤◌, List, [], ◌∷◌, ◌++◌, length, refl, ap, ◌∙◌, arith, ⊎_elim, inl, inr}
use Rattle.std.proofs.lemmas.Option.{slice_get_within}
use Rattle.std.proofs.lemmas.Bool.{cases_lt}
use Rattle.std.proofs.lemmas.List.{length-append}
use Rattle.builder_trait.specs.Parts.{Contents}
use Rattle.map_shapes.specs.declared.point.Point.{Point}
use Rattle.kd_tree.specs.declared.area.Area.{Area}
use Rattle.kd_tree.specs.declared.rows.KdRows.{KdRows}
use Rattle.kd_tree.specs.Areas.{IsInside, IsBox}
use Rattle.kd_tree.specs.Heights.{nodes_in, depth_for}
use Rattle.kd_tree.specs.Blocks.{IsLeastBox, IsNode, AreNodes}
use Rattle.kd_tree.specs.Growing.{IsShaping, to_go}
use Rattle.kd_tree.specs.HeightLaws.{depth_small, depth_rise, few_points, nodes_rise, nodes_none, four_some, four_small, four_below, index_next}
use Rattle.kd_tree.proofs.NodeLemmas.{AreNodes-put, AreNodes-next}

-- it is low
pub shallow : (part : Contents Point) (rows : KdRows) → IsShaping part rows → rows.depth ≤ 14
shallow part rows shaping =
    omega (arith, shaping.depth_is, depth_small (length part.items) (few_points (length part.items) part.at_level shaping.room.small shaping.few))

-- beyond all positions there is nothing to have
pub IsLeastBox-beyond : (part : Contents Point) (order : List ℕ) (area : Area) (from to : ℕ) → length order ≤ from
    → ((all : Area) → IsBox all → IsInside area all) → IsLeastBox part order area from to
IsLeastBox-beyond part order area from to past nothing = record {
  holds = record { each = λ position place p low high stands item flag. absurd (omega (arith, slice_get_within order position place stands)) };
  least = λ all box holds. nothing all box;
}

-- while nodes are left there is a next one
pub goes_on : (part : Contents Point) (rows : KdRows) → IsShaping part rows → length rows.nodes.items < nodes_in rows.depth
    → (rows.level < rows.depth) × (rows.place < 4 ^ (rows.depth - 1 - rows.level))
goes_on part rows shaping more =
    ⊎_elim (λ next. next)
    (λ ended.
    let all : nodes_in (rows.depth - rows.level) ≡ 0 = ap nodes_in (omega (arith, ended.0)) ∙ nodes_none in
    absurd (omega (arith, all, ended.1, shaping.next, more)))
    shaping.is_next

pub node_room : (part : Contents Point) (rows : KdRows) → IsShaping part rows → nodes_in rows.depth ≤ rows.nodes.capacity
node_room part rows shaping =
    let small : 2 ^ part.at_level ≤ 2 ^ 31 = few_points (2 ^ part.at_level) part.at_level shaping.room.small (omega arith) in
    omega (
      arith,
      shaping.room.nodes,
      ap nodes_in shaping.depth_is,
      nodes_rise (depth_for (length part.items)) (depth_for (2 ^ part.at_level)) (depth_rise (length part.items) (2 ^ part.at_level) shaping.few small),
    )

module _ (part : Contents Point) (rows : KdRows) (areas : List Area) (shaping : IsShaping part rows) (filled : rows.filled ≡ length part.items)
    (more : length rows.nodes.items < nodes_in rows.depth) (node : IsNode part rows.places.items rows.level rows.place areas) where
  abbrev nodes' : List (List Area)
  nodes' = rows.nodes.items ++ areas ∷ []

  long : length nodes' ≡ length rows.nodes.items + 1
  long = omega (arith, length-append rows.nodes.items (areas ∷ []))

  put : AreNodes part rows.places.items rows.depth rows.level (rows.place + 1) nodes'
  put = AreNodes-put part rows.places.items rows.depth rows.level rows.place rows.nodes.items areas shaping.nodes shaping.next node

  -- one more node of this level
  pub IsShaping-place : (rows.place + 1 ≡ 4 ^ (rows.depth - 1 - rows.level) → ⊥)
      → IsShaping part (record rows { nodes = record rows.nodes { items = nodes' }; place = rows.place + 1 })
      × (to_go part (record rows { nodes = record rows.nodes { items = nodes' }; place = rows.place + 1 }) + 1 ≡ to_go part rows)
  IsShaping-place other =
      let next = goes_on part rows shaping more in (
        record {
          room = record { small = shaping.room.small; places = shaping.room.places; sorting = shaping.room.sorting; leaves = shaping.room.leaves; nodes = shaping.room.nodes };
          few = shaping.few;
          flags = shaping.flags;
          long = shaping.long;
          depth_is = shaping.depth_is;
          sorting = shaping.sorting;
          filled_few = shaping.filled_few;
          unfilled = shaping.unfilled;
          leaves = shaping.leaves;
          spots = shaping.spots;
          live = shaping.live;
          no_nodes = λ less. absurd (omega (arith, filled, less));
          is_next = inl (next.0, omega (arith, next.1, other));
          next = omega (arith, long, shaping.next);
          nodes = put;
        },
        omega (arith, long, more),
      )

  -- the last node of this level
  pub IsShaping-level : rows.place + 1 ≡ 4 ^ (rows.depth - 1 - rows.level)
      → IsShaping part (record rows { nodes = record rows.nodes { items = nodes' }; place = 0; level = rows.level + 1 })
      × (to_go part (record rows { nodes = record rows.nodes { items = nodes' }; place = 0; level = rows.level + 1 }) + 1 ≡ to_go part rows)
  IsShaping-level ends =
      let next = goes_on part rows shaping more in (
        record {
          room = record { small = shaping.room.small; places = shaping.room.places; sorting = shaping.room.sorting; leaves = shaping.room.leaves; nodes = shaping.room.nodes };
          few = shaping.few;
          flags = shaping.flags;
          long = shaping.long;
          depth_is = shaping.depth_is;
          sorting = shaping.sorting;
          filled_few = shaping.filled_few;
          unfilled = shaping.unfilled;
          leaves = shaping.leaves;
          spots = shaping.spots;
          live = shaping.live;
          no_nodes = λ less. absurd (omega (arith, filled, less));
          is_next = ⊎_elim (λ less. inl (less, omega (arith, four_some (rows.depth - 1 - (rows.level + 1)))))
              (λ from. inr (omega (arith, next.0), refl)) (cases_lt (rows.level + 1) rows.depth);
          next = omega (arith, long, shaping.next, index_next rows.depth rows.level next.0 rows.place ends);
          nodes = AreNodes-next part rows.places.items rows.depth rows.level (rows.place + 1) nodes' put ends;
        },
        omega (arith, long, more),
      )

-- the places of the next node are few
pub next_few : (part : Contents Point) (rows : KdRows) → IsShaping part rows → length rows.nodes.items < nodes_in rows.depth
    → (4 * rows.place + 3 < 4 ^ (rows.depth - rows.level)) × (rows.place < 2 ^ 30)
next_few part rows shaping more =
    let next = goes_on part rows shaping more in (
      omega (arith, next.1, four_below rows.depth rows.level next.0),
      omega (arith, next.1, four_small (rows.depth - 1 - rows.level) (omega (arith, shallow part rows shaping))),
    )
