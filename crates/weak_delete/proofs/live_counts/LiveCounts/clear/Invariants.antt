use Rattle.std.proofs.Common.{◌≡◌, ◌+◌, ◌-◌, ◌*◌, ◌^◌, ◌<◌, ◌≤◌, length}
use Rattle.query_laws.specs.StepLedger.{Spends}
use Rattle.weak_delete.specs.Packed.{packed}
use Rattle.row_blocks.specs.Blocks.{IsMultiple}
use Rattle.weak_delete.proofs.Nodes.{IsClearing}
use Rattle.weak_delete.proofs.live_counts.LiveCounts.clear.Given as goal

abbrev pub invariant-loop-height : goal.invariant-loop-height
invariant-loop-height g l = record {
  block : IsMultiple l.start l.height;
  from : l.start ≤ l.entry;
  before : l.entry < l.start + 2 ^ l.height;
  lower : l.height ≤ l.initial.height;
  long : l.entries ≡ length l.self-inside.nodes.items;
  kept : l.self-inside ≡ record l.initial.self-inside { nodes = l.self-inside.nodes };
  room : l.self-inside.nodes.capacity ≡ l.initial.self-inside.nodes.capacity;
  node_each : length l.self-inside.nodes.items ≡ length l.initial.self-inside.nodes.items;
  clearing : IsClearing (packed l.initial.self-inside.weights.items l.initial.self-inside.masks.items l.initial.self-inside.len) l.k l.self-inside.nodes.items l.start l.height;
  spent : Spends l.initial.steps l.steps 0 0 (2 * (l.initial.height - l.height));
}

abbrev pub decreases-loop-height : goal.decreases-loop-height
decreases-loop-height g l = l.height
