use Rattle.std.proofs.Common.{◌≡◌, ◌^◌, ◌<◌, [], ◌∷◌, ◌++◌, ◌∙◌, ap, sym, subst, arith}
use Rattle.log_levels.specs.Levels.{weight_of}
use Rattle.log_method.proofs.Taking.{lent_on, lent_prepared, may_tick}
use Rattle.trials.specs.Stacks.{IsStackOf}
use Rattle.trials.proofs.Stacks.{IsStackOf-same, IsStackOf-insert}
use Rattle.trials.proofs.stacked.StackedTried.insert.Goals as goal

pub invariant_of-self-in_err-prepare : goal.invariant_of-self-in_err-prepare
invariant_of-self-in_err-prepare g c =
    let p = c.prepare.ensures in (
      subst (IsStackOf g.B.Part.Part.contents g.B.Item.Item.stamp c.prepare.new.self.levels) (sym c.reserve.ensures.items)
          (IsStackOf-same p.same.weight p.same.items p.same.live c.self.invariant.0),
      lent_prepared _ _ _ _ _ p.each p.taken c.self.invariant.1,
    )

pub insert-requires-clause-ready : goal.insert-requires-clause-ready
insert-requires-clause-ready g c =
    let p = c.prepare.ensures in
    let light : weight_of c.prepare.new.self.levels < 2 ^ 31 =
    omega (arith, c.if-stamp-weight.false, c.stamp.ensures, c.weight.ensures.value, p.same.weight) in
    may_tick _ _ light (c.in_ok-prepare.ensures.stocked light) (lent_prepared _ _ _ _ _ p.each p.taken c.self.invariant.1)

pub invariant_of-self-2 : goal.invariant_of-self-2
invariant_of-self-2 g c =
    let x = c.args.item in
    let p = c.prepare.ensures in
    let e = c.insert.ensures in
    let next : g.B.Item.Item.stamp x ≡ weight_of c.prepare.new.self.levels = omega (arith, c.if-stamp-weight.false, c.stamp.ensures, c.weight.ensures.value, p.same.weight) in
    let items : c.push_reserved.new.self.items ≡ c.self.inside.items.items ++ x ∷ [] =
    c.push_reserved.ensures.items ∙ ap (λ l. l ++ x ∷ []) c.reserve.ensures.items in (
      subst (IsStackOf g.B.Part.Part.contents g.B.Item.Item.stamp c.insert.new.self.levels) (sym items)
          (IsStackOf-insert x next e.inserts.weight e.inserts.items e.inserts.live
          (IsStackOf-same p.same.weight p.same.items p.same.live c.self.invariant.0)),
      lent_on _ _ _ _ e.trades.trades (lent_prepared _ _ _ _ _ p.each p.taken c.self.invariant.1),
    )
