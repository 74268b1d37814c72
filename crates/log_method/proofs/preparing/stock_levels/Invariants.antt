use Rattle.log_levels.specs.Trades.{wanted_at}
use Rattle.log_method.specs.Preparing.{HasRoomsBelow, HasTaken}
use Rattle.log_method.proofs.preparing.stock_levels.Given as goal

abbrev pub invariant-loop-level : goal.invariant-loop-level
invariant-loop-level g l = record {
  stocked : HasRoomsBelow l.level (λ k. wanted_at 2 k l.levels) l.store;
  taken : HasTaken (λ k. wanted_at 2 k l.levels) l.initial.store l.store;
}
