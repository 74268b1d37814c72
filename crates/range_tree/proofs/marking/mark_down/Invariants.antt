use Rattle.std.proofs.Common.{◌≡◌, ◌+◌, ◌*◌, ℕ, List}
use Rattle.query_laws.specs.StepLedger.{Spends}
use Rattle.builder_trait.specs.Parts.{Contents}
use Rattle.map_shapes.specs.declared.point.Point.{Point}
use Rattle.range_tree.specs.declared.growing.Carried.{Carried}
use Rattle.range_tree.specs.Heights.{rows_to}
use Rattle.range_tree.specs.Marks.{IsFalling, IsMarkedTo}
use Rattle.range_tree.proofs.marking.mark_down.Given as goal

abbrev pub invariant-loop-row : goal.invariant-loop-row
invariant-loop-row g l = record {
  same : l.ranks ≡ record l.initial.ranks { live = l.ranks.live; weights = l.ranks.weights };
  marked : (part : Contents Point) (place : ℕ) (carried : List Carried) (falling : IsFalling part place l.height l.weight l.initial.k l.initial.ranks carried)
      → IsMarkedTo part falling.rows_are.rows l.height (rows_to l.height) place l.row l.k l.ranks;
  spent : Spends l.initial.steps l.steps 0 0 (l.row * (2 * l.height + 2));
}
