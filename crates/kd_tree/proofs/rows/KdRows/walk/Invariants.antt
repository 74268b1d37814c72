use Rattle.std.proofs.Common.{◌≡◌, ◌-◌, ◌≤◌, ◌++◌, length}
use Rattle.std.specs.List.{flat_map}
use Rattle.query_laws.specs.StepLedger.{Spends}
use Rattle.map_shapes.specs.Found.{nearer_le}
use Rattle.map_questions.specs.FirstFew.{IsFirstFew, first_few}
use Rattle.kd_tree.specs.Walks.{live_in_block, founds, IsStack, work_of_all}
use Rattle.kd_tree.proofs.rows.KdRows.walk.Given as goal

-- what is kept, joined by what the stack finds, is the same, and so is what was touched, with what it may touch
abbrev pub invariant-loop-block : goal.invariant-loop-block
invariant-loop-block g l = let live = flat_map (live_in_block l.points l.self.places.items) in
    record {
      stack : IsStack l.points l.self.places.items l.near l.self.depth (length l.points.items) l.stack.items;
      few : IsFirstFew nearer_le (g.T.KeepsNearest.most l.tally) (g.T.KeepsNearest.kept l.tally);
      most : g.T.KeepsNearest.most l.tally ≡ g.T.KeepsNearest.most l.initial.tally;
      taken : first_few nearer_le (g.T.KeepsNearest.most l.initial.tally) (g.T.KeepsNearest.kept l.tally ++ founds l.near (live l.stack.items))
          ≡ first_few nearer_le (g.T.KeepsNearest.most l.initial.tally) (g.T.KeepsNearest.kept l.initial.tally ++ founds l.near (live l.initial.stack.items));
      within : work_of_all (length l.points.items) l.stack.items ≤ work_of_all (length l.points.items) l.initial.stack.items;
      spent : Spends l.initial.steps l.steps 0 0
          (work_of_all (length l.points.items) l.initial.stack.items - work_of_all (length l.points.items) l.stack.items);
    }

abbrev pub decreases-loop-block : goal.decreases-loop-block
decreases-loop-block g l = work_of_all (length l.points.items) l.stack.items
