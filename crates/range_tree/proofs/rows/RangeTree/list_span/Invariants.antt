use Rattle.std.proofs.Common.{◌≡◌, ◌+◌, ◌-◌, ◌*◌, ◌<◌, ◌≤◌, ◌++◌, map, slice_range}
use Rattle.std.specs.List.{flat_map}
use Rattle.query_laws.specs.StepLedger.{Spends}
use Rattle.rank_rows.specs.Ranked.{how_many, slice_of}
use Rattle.range_tree.specs.Costs.{list_touches_each}
use Rattle.range_tree.specs.Heights.{rows_to}
use Rattle.range_tree.specs.Queries.{live_at}
use Rattle.range_tree.specs.Tree.{IsTree}
use Rattle.range_tree.proofs.rows.RangeTree.list_span.Given as goal

-- the live points before k are listed, and as many stand before it in the block as the rank says
abbrev pub invariant-loop-rank : goal.invariant-loop-rank
invariant-loop-rank g l = record {
  listed : (over : IsTree l.points l.self) (some : 0 < rows_to l.self.height)
      → l.tally ≡ l.initial.tally ++ map (λ p. p.id) (flat_map (live_at l.points) (slice_range ((over.ranks some).rows l.fn.span.row) l.fn.span.from l.k));
  ranked : how_many (slice_of l.self.ranks l.self.ranks.live l.fn.span.row l.fn.span.start l.k) ≡ l.rank;
  from : l.fn.span.from ≤ l.k;
  to : l.k ≤ l.fn.span.to;
  spent : Spends l.fn.steps l.steps 0 0 (2 * (l.self.height - l.fn.span.row) + (l.rank - l.first) * list_touches_each l.self.height);
}
