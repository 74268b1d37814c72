use Rattle.std.proofs.Common.{[], sym, subst}
use Rattle.kd_tree.specs.Placings.{IsPlacing}
use Rattle.kd_tree.proofs.Placings.{IsPlacing-none}
use Rattle.kd_tree.proofs.placing.Placing.room.Goals as goal

pub invariant_of-result : goal.invariant_of-result
invariant_of-result c =
    subst (λ e. IsPlacing e c.in_ok-room-2.field-0) (sym c.in_ok-room.ensures)
    (subst (λ e. IsPlacing (record { items = []; capacity = c.args.cap }) e) (sym c.in_ok-room-2.ensures) (IsPlacing-none c.args.cap))
