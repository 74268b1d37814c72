use Rattle.std.proofs.Common.{◌≡◌, ◌-◌, ◌*◌, ◌^◌, ◌<◌}
use Rattle.query_laws.specs.StepLedger.{Spends}
use Rattle.kd_tree.specs.Shrinking.{Death, IsShrinking}
use Rattle.kd_tree.proofs.rows.KdRows.raise.Given as goal

-- the boxes below are those without the point, and this block comes next, with the one at hand
abbrev pub invariant-loop-level : goal.invariant-loop-level
invariant-loop-level g l = record {
  inside : l.block < 4 ^ (l.initial.self.depth - l.level);
  shrinking : (death : Death) → IsShrinking death l.initial.self.depth 0 l.fn.leaf l.initial.area l.initial.self.nodes.items
      → IsShrinking death l.initial.self.depth l.level l.block l.area l.self.nodes.items;
  kept : l.self ≡ record l.initial.self { nodes = record l.initial.self.nodes { items = l.self.nodes.items } };
  spent : Spends l.initial.steps l.steps 0 0 (2 * l.level);
}
