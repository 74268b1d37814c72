use Rattle.kd_tree.specs.declared.area.Area.{Area}
use Rattle.kd_tree.specs.Areas.{IsInside, IsBox}
use Rattle.kd_tree.specs.Leaves.{HasLive}
use Rattle.kd_tree.proofs.leaves.hull.Given as goal

abbrev pub invariant-loop-slot : goal.invariant-loop-slot
invariant-loop-slot l = record {
  has : HasLive l.spots l.live l.slot l.area;
  least : (all : Area) → IsBox all → HasLive l.spots l.live l.slot all → IsInside l.area all;
}
