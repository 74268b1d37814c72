use Rattle.std.proofs.Common.{◌≡◌, ◌-◌, ◌*◌, ◌^◌, ◌≤◌}
use Rattle.std.specs.List.{sum_by, filter}
use Rattle.query_laws.specs.StepLedger.{Spends}
use Rattle.map_shapes.specs.Questions.{is_in}
use Rattle.range_tree.specs.LeafHits.{AreHits}
use Rattle.range_tree.specs.Queries.{live_between}
use Rattle.range_tree.proofs.scanning.weigh_leaf.Given as goal

abbrev pub invariant-loop-left : goal.invariant-loop-left
invariant-loop-left g l = record {
  from : l.fn.places.from ≤ l.place;
  up_to : l.place ≤ l.fn.places.to;
  hits : AreHits l.rect l.leaf l.place l.fn.places.to l.left;
  sum : l.sum ≡ sum_by (λ p. p.w) (filter (is_in l.rect) (live_between l.points l.fn.places.from l.place));
  few : l.sum ≤ (l.place - l.fn.places.from) * 2 ^ 31;
  spent : Spends l.initial.steps l.steps 0 0 (l.place - l.fn.places.from);
}

abbrev pub decreases-loop-left : goal.decreases-loop-left
decreases-loop-left g l = l.fn.places.to - l.place
