use Rattle.std.proofs.Common.{◌≡◌, ◌-◌, ◌≤◌, ◌++◌, map, length}
use Rattle.std.specs.List.{filter}
use Rattle.query_laws.specs.StepLedger.{Spends}
use Rattle.map_shapes.specs.Questions.{is_in}
use Rattle.range_tree.specs.LeafHits.{AreHits}
use Rattle.range_tree.specs.Queries.{live_between}
use Rattle.range_tree.proofs.scanning.list_leaf.Given as goal

abbrev pub invariant-loop-left : goal.invariant-loop-left
invariant-loop-left g l = record {
  from : l.fn.places.from ≤ l.place;
  up_to : l.place ≤ l.fn.places.to;
  hits : AreHits l.rect l.leaf l.place l.fn.places.to l.left;
  listed : l.tally ≡ l.initial.tally ++ map (λ p. p.id) (filter (is_in l.rect) (live_between l.points l.fn.places.from l.place));
  spent : Spends l.initial.steps l.steps 0 0 (length (filter (is_in l.rect) (live_between l.points l.fn.places.from l.place)));
}

abbrev pub decreases-loop-left : goal.decreases-loop-left
decreases-loop-left g l = l.fn.places.to - l.place
