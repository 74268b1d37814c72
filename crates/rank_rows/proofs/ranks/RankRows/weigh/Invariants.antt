use Rattle.std.proofs.Common.{◌≡◌, ◌+◌, ◌-◌, ◌*◌, ◌^◌, ◌≤◌}
use Rattle.query_laws.specs.StepLedger.{Spends}
use Rattle.rank_rows.specs.Totals.{total}
use Rattle.rank_rows.specs.Words.{weight_at}
use Rattle.rank_rows.proofs.ranks.RankRows.weigh.Given as goal

abbrev pub invariant-loop-k : goal.invariant-loop-k
invariant-loop-k g l = record {
  sum : l.sum + total (weight_at l.self.weights) l.from ≡ total (weight_at l.self.weights) l.k;
  few : l.sum ≤ (l.k - l.from) * 2 ^ 32;
  spent : Spends l.initial.steps l.steps 0 0 (l.k - l.from);
}
