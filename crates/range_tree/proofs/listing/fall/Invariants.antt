use Rattle.std.proofs.Common.{◌-◌, ◌*◌, ℕ, List}
use Rattle.query_laws.specs.StepLedger.{Spends}
use Rattle.builder_trait.specs.Parts.{Contents}
use Rattle.map_shapes.specs.declared.point.Point.{Point}
use Rattle.range_tree.specs.declared.growing.Carried.{Carried}
use Rattle.range_tree.specs.Marks.{IsStanding}
use Rattle.range_tree.proofs.listing.fall.Given as goal

abbrev pub invariant-loop-below : goal.invariant-loop-below
invariant-loop-below g l = record {
  standing : (part : Contents Point) (place : ℕ) (carried : List Carried) → IsStanding part place l.height l.row l.initial.k l.ranks carried
      → IsStanding part place l.height l.below l.k l.ranks carried;
  spent : Spends l.initial.steps l.steps 0 0 (2 * (l.below - l.row));
}
