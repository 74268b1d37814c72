use Rattle.std.proofs.Common.{◌≡◌, ◌+◌, ◌*◌}
use Rattle.query_laws.specs.StepLedger.{Spends}
use Rattle.kd_tree.specs.Walks.{live_in, founds, Takes}
use Rattle.kd_tree.proofs.rows.KdRows.scan.Given as goal

-- the points at the slots before this one are taken in
abbrev pub invariant-loop-slot : goal.invariant-loop-slot
invariant-loop-slot g l = record {
  taken : Takes (g.T.KeepsNearest.most l.initial.tally) (g.T.KeepsNearest.kept l.initial.tally)
      (founds l.near (live_in l.points l.self.places.items l.first (l.first + l.slot))) (g.T.KeepsNearest.kept l.tally);
  most : g.T.KeepsNearest.most l.tally ≡ g.T.KeepsNearest.most l.initial.tally;
  spent : Spends l.initial.steps l.steps 0 0 (2 * l.slot);
}
