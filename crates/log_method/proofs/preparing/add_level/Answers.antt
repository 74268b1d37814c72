use Rattle.std.proofs.Common.{arith}
use Rattle.log_method.proofs.Forecasting.{IsKept-refl, IsKept-added}
use Rattle.log_method.proofs.preparing.add_level.Goals as goal

pub returns-in_err-reserve-clause-kept : goal.returns-in_err-reserve-clause-kept
returns-in_err-reserve-clause-kept g c = rw c.reserve.ensures.items (IsKept-refl _ c.args.levels.now.items)

pub returns-clause-kept : goal.returns-clause-kept
returns-clause-kept g c =
    rw (c.push_reserved.ensures.items, c.reserve.ensures.items, c.in_ok-level.ensures)
    (IsKept-added _ c.args.levels.now.items c.len.result (omega (arith, c.len.ensures)) (omega (arith, c.len.ensures, c.requires.few)))

pub returns-in_err-level-clause-kept : goal.returns-in_err-level-clause-kept
returns-in_err-level-clause-kept g c = IsKept-refl _ c.args.levels.now.items
