use Rattle.std.proofs.Common.{ℕ, refl, arith}
use Rattle.log_levels.specs.Trades.{wanted_at}
use Rattle.log_method.proofs.Taking.{HasTaken-refl, HasTaken-then, HasTaken-stock, HasRoomsBelow-none, HasRoomsBelow-more}
use Rattle.global_rebuild.specs.Index.{in_both}
use Rattle.global_rebuild.proofs.Stocking.{below_all}
use Rattle.global_rebuild.proofs.index.stock.Goals as goal

pub loop-level-init : goal.loop-level-init
loop-level-init g c =
    let w : ℕ → ℕ = λ k. in_both (wanted_at 2 k) c.args.main.now c.args.shadow.now in
    record { stocked = HasRoomsBelow-none w c.args.store.now; taken = HasTaken-refl w c.args.store.now }

pub loop-level-preserved : goal.loop-level-preserved
loop-level-preserved g c =
    let w : ℕ → ℕ = λ k. in_both (wanted_at 2 k) c.args.main.now c.args.shadow.now in
    let level = c.loop-level.level in
    let h = c.loop-level.invariant in
    let e = c.stock_level.ensures in
    record {
      stocked = HasRoomsBelow-more w level (w level) _ _ refl e.takes c.in_ok-stock_level.ensures.stocked h.stocked;
      taken = HasTaken-then w _ _ _ h.taken (HasTaken-stock w level (w level) _ _ refl e.takes);
    }

pub returns-in_err-stock_level-clause-taken : goal.returns-in_err-stock_level-clause-taken
returns-in_err-stock_level-clause-taken g c =
    let w : ℕ → ℕ = λ k. in_both (wanted_at 2 k) c.args.main.now c.args.shadow.now in
    let level = c.loop-level.level in
    HasTaken-then w _ _ _ c.loop-level.invariant.taken (HasTaken-stock w level (w level) _ _ refl c.stock_level.ensures.takes)

pub returns-clause-stocked : goal.returns-clause-stocked
returns-clause-stocked g c =
    let w : ℕ → ℕ = λ k. in_both (wanted_at 2 k) c.args.main.now c.args.shadow.now in
    below_all w c.loop-level.level c.loop-level.store c.loop-level.invariant.stocked
    (λ k within past. c.wanted_below.ensures k (omega (arith, c.min-level-end.ensures, within, past)))
