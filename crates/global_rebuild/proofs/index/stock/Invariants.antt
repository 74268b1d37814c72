use Rattle.log_levels.specs.Trades.{wanted_at}
use Rattle.log_method.specs.Preparing.{HasRoomsBelow, HasTaken}
use Rattle.global_rebuild.specs.Index.{in_both}
use Rattle.global_rebuild.proofs.index.stock.Given as goal

abbrev pub invariant-loop-level : goal.invariant-loop-level
invariant-loop-level g l = record {
  stocked : HasRoomsBelow l.level (λ k. in_both (wanted_at 2 k) l.main l.shadow) l.store;
  taken : HasTaken (λ k. in_both (wanted_at 2 k) l.main l.shadow) l.initial.store l.store;
}
