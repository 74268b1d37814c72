use Rattle.std.proofs.Common.{◌≡◌, ◌+◌, ◌-◌, ◌*◌, ◌/◌, ◌^◌, ◌≤◌}
use Rattle.std.specs.List.{sum_by, filter}
use Rattle.query_laws.specs.StepLedger.{Spends}
use Rattle.map_shapes.specs.Questions.{is_in}
use Rattle.range_tree.specs.Measures.{leaf_touches, measure_of}
use Rattle.range_tree.specs.Queries.{live_between}
use Rattle.range_tree.proofs.ScanLemmas.{reached}
use Rattle.range_tree.proofs.rows.RangeTree.measure_places.Given as goal

abbrev pub invariant-loop-l : goal.invariant-loop-l
invariant-loop-l g l = record {
  sum : l.sum ≡ sum_by (measure_of l.measure) (filter (is_in l.rect) (live_between l.points l.fn.places.from (reached l.fn.places.from l.fn.places.to l.l)));
  few : l.sum ≤ (reached l.fn.places.from l.fn.places.to l.l - l.fn.places.from) * 2 ^ 31;
  spent : Spends l.initial.steps l.steps 0 0 ((l.l - l.fn.places.from / 16) + leaf_touches l.measure (reached l.fn.places.from l.fn.places.to l.l - l.fn.places.from));
}
