-- A tree without work that is left is that of a part.
use Rattle.std.proofs.Common.{◌≡◌, arith, inl, inr}
use Rattle.std.proofs.lemmas.Bool.{cases_lt}
use Rattle.builder_trait.specs.Builders.{Progress, all_live}
use Rattle.map_shapes.specs.declared.point.Point.{Point}
use Rattle.priority_tree.specs.declared.rows.TopRows.{TopRows}
use Rattle.priority_tree.specs.Live.{IsTree}
use Rattle.priority_tree.specs.Growing.{IsGrowing}

pub IsTree-grown : (b : Progress Point) (rows : TopRows) → IsGrowing (all_live b) rows → rows.left ≡ 0 → IsTree (all_live b) rows.heap rows.height
IsTree-grown b rows growing none = record {
  small = growing.0.small;
  few = growing.0.few;
  room = growing.0.room;
  shape = growing.0.shape;
  entries = growing.0.entries;
  ordered = elim (cases_lt rows.height rows.at) [
    | inl over ↦ growing.0.ended over
    | inr under ↦ absurd (omega (arith, growing.0.left_is under, growing.1 under, none))
  ];
}
