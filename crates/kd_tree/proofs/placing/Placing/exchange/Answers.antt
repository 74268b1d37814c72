use Rattle.std.proofs.Common.{arith, ℕ, ap, sym, subst, length, set, ◌∙◌}
use Rattle.std.proofs.lemmas.List.{length-set}
use Rattle.query_laws.specs.StepLedger.{Entries}
use Rattle.kd_tree.specs.Placings.{IsPlacing}
use Rattle.kd_tree.proofs.Placings.{place_inside, other_inside, IsPlacing-exchanged}
use Rattle.kd_tree.proofs.placing.Placing.exchange.Goals as goal

pub set-requires-3 : goal.set-requires-3
set-requires-3 g c =
    place_inside c.self.inside.order c.self.inside.at c.args.from c.args.to c.at-place.result c.at-other.result c.self.invariant c.at-place.ensures.read
    c.at-other.ensures.read

pub set-requires-4 : goal.set-requires-4
set-requires-4 g c =
    omega (
      arith,
      ap (λ e. length e.items) c.set-3.ensures.written,
      length-set c.self.inside.at.items c.at-place.result c.args.to,
      other_inside c.self.inside.order c.self.inside.at c.args.from c.args.to c.at-place.result c.at-other.result c.self.invariant c.at-place.ensures.read
          c.at-other.ensures.read,
    )

pub invariant_of-self : goal.invariant_of-self
invariant_of-self g c =
    let old = c.self.inside in
    let place = c.at-place.result in
    let other = c.at-other.result in
    subst (λ e. IsPlacing e c.set-4.new.self)
    (sym (c.set-2.ensures.written ∙ ap (λ (e : Entries ℕ). record e { items = set e.items c.args.to place }) c.set.ensures.written))
    (subst (λ e. IsPlacing (record old.order { items = set (set old.order.items c.args.from other) c.args.to place }) e)
    (sym (c.set-4.ensures.written ∙ ap (λ (e : Entries ℕ). record e { items = set e.items other c.args.from }) c.set-3.ensures.written))
    (IsPlacing-exchanged old.order old.at c.args.from c.args.to place other c.self.invariant c.at-place.ensures.read c.at-other.ensures.read))
