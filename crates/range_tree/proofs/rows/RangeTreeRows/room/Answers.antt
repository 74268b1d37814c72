use Rattle.std.proofs.Common.{◌^◌, ◌≤◌, arith, pow_mono}
use Rattle.std.proofs.lemmas.Nat.{mul-le}
use Rattle.range_tree.proofs.rows.RangeTreeRows.room.Goals.{then-rows-gt0, else-rows-gt0}
use Rattle.range_tree.proofs.rows.RangeTreeRows.room.Goals as goal

pub room-requires-4 : goal.room-requires-4
room-requires-4 c =
    let level : c.args.level ≤ 31 = omega (arith, c.requires) in
    let small : 2 ^ c.args.level ≤ 2 ^ 31 = pow_mono level in
    let most : c.if-rows-gt0.moved ≤ 2 ^ 31 = elim c.if-rows-gt0.branch [
      | then-rows-gt0 w ↦ omega (arith, w.moved-is, c.pow-cap.ensures, small)
      | else-rows-gt0 w ↦ omega (arith, w.moved-is)
    ] in
    omega (arith, mul-le c.rows_for-rows.result c.if-rows-gt0.moved 23 (2 ^ 31) (omega (arith, c.rows_for-rows.ensures, level)) most)
