use Rattle.std.proofs.Common.{◌≡◌, [], sym, ap, ◌∙◌, subst}
use Rattle.kd_tree.specs.Placings.{IsPlacing}
use Rattle.kd_tree.proofs.Placings.{IsPlacing-none}
use Rattle.kd_tree.proofs.placing.Placing.clear.Goals as goal

pub invariant_of-self : goal.invariant_of-self
invariant_of-self c =
    let second : record { items = []; capacity = c.self.inside.order.capacity } ≡ c.clear-2.new.self =
    sym (c.clear-2.ensures ∙ ap (λ n. record { items = []; capacity = n }) c.self.invariant.same_room) in
    subst (λ e. IsPlacing e c.clear-2.new.self) (sym c.clear.ensures)
    (subst (λ e. IsPlacing (record { items = []; capacity = c.self.inside.order.capacity }) e) second (IsPlacing-none c.self.inside.order.capacity))
