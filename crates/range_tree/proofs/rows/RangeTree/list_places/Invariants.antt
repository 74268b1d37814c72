use Rattle.std.proofs.Common.{◌≡◌, ◌+◌, ◌-◌, ◌/◌, ◌++◌, map, length}
use Rattle.std.specs.List.{filter}
use Rattle.query_laws.specs.StepLedger.{Spends}
use Rattle.map_shapes.specs.Questions.{is_in}
use Rattle.range_tree.specs.Queries.{live_between}
use Rattle.range_tree.proofs.ScanLemmas.{reached}
use Rattle.range_tree.proofs.rows.RangeTree.list_places.Given as goal

abbrev pub invariant-loop-l : goal.invariant-loop-l
invariant-loop-l g l = record {
  listed : l.tally ≡ l.initial.tally ++ map (λ p. p.id) (filter (is_in l.rect) (live_between l.points l.fn.places.from (reached l.fn.places.from l.fn.places.to l.l)));
  spent : Spends l.initial.steps l.steps 0 0 ((l.l - l.fn.places.from / 16) + length (filter (is_in l.rect) (live_between l.points l.fn.places.from (reached l.fn.places.from l.fn.places.to l.l))));
}
