use Rattle.std.proofs.Common.{arith, ap, length, ◌++◌, ◌∷◌, [], sym, subst}
use Rattle.kd_tree.specs.Placings.{IsPlacing}
use Rattle.kd_tree.proofs.Placings.{IsPlacing-put}
use Rattle.kd_tree.proofs.placing.Placing.put.Goals as goal

pub invariant_of-self : goal.invariant_of-self
invariant_of-self g c =
    let old = c.self.inside in
    subst (λ e. IsPlacing e c.push-2.new.self) (sym c.push.ensures.appended)
    (subst (λ e. IsPlacing (record old.order { items = old.order.items ++ c.len-place.result ∷ [] }) e) (sym c.push-2.ensures.appended)
    (IsPlacing-put old.order old.at c.len-place.result c.self.invariant c.len-place.ensures.value
    (omega (arith, c.requires.small, c.len-place.ensures.value, ap (λ e. length e.items) c.self.view_is))))
