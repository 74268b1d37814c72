use Rattle.std.proofs.Common.{◌≡◌, ◌*◌, ◌^◌, ◌≤◌, length}
use Rattle.query_laws.specs.StepLedger.{Spends}
use Rattle.weak_delete.proofs.Winners.{IsRepaired}
use Rattle.weak_delete.proofs.live_max.LiveMax.clear.Given as goal

abbrev pub invariant-loop-height : goal.invariant-loop-height
invariant-loop-height g l = record {
  winner_each : length l.self-inside.winners.items ≡ length l.self-inside.places.items;
  few : length l.self-inside.places.items ≤ 2 ^ 31;
  room : l.self-inside.winners.capacity ≡ l.self-inside.places.capacity;
  same_places : l.self-inside.places ≡ l.initial.self-inside.places;
  same_height : l.self-inside.height ≡ l.initial.self-inside.height;
  same_left : l.self-inside.left ≡ l.initial.self-inside.left;
  same_sealed : l.self-inside.sealed ≡ l.initial.self-inside.sealed;
  repaired : IsRepaired l.self-inside.places.items l.k l.self-inside.winners.items l.height;
  spent : Spends l.initial.steps l.steps 0 0 (3 * l.height);
}
