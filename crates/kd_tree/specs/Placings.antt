-- Places in an order of their own.
use Rattle.std.specs.Prelude.{◌≡◌, ℕ, ◌^◌, ◌≤◌, length, Some, slice_get}
use Rattle.std.specs.List.{range_with_len}
use Rattle.query_laws.specs.StepLedger.{Entries}
use Rattle.query_laws.specs.Permuted.{Permuted}

-- each place once, and for each place where it stands
pub record IsPlacing (order at : Entries ℕ) : Type 0 where
  pub same_room : at.capacity ≡ order.capacity
  pub as_many : length at.items ≡ length order.items
  pub few : length order.items ≤ 2 ^ 31
  pub each_place : Permuted order.items (range_with_len 0 (length order.items))
  pub found : (place position : ℕ) → slice_get at.items place ≡ Some position → slice_get order.items position ≡ Some place
  pub stands : (position place : ℕ) → slice_get order.items position ≡ Some place → slice_get at.items place ≡ Some position
