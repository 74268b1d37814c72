use Rattle.std.proofs.Common.{◌∙◌, length, sym, ap, subst}
use Rattle.builder_trait.specs.Builders.{PartProfile}
use Rattle.log_levels.specs.Trades.{wanted_at}
use Rattle.log_method.specs.Stack.{HaveSameItems}
use Rattle.log_method.specs.Preparing.{HasRoomsBelow, HasTaken, LendsOnly}
use Rattle.log_method.proofs.Forecasting.{IsStack-kept, in_place, quiet_enough, when_ok}
use Rattle.log_method.proofs.Taking.{stocked}
use Rattle.log_method.proofs.FewHeld.{few_held}
use Rattle.log_method.proofs.Fewness.{have_few}
use Rattle.log_method.proofs.stack.Stack.prepare.Given.{Over}
use Rattle.log_method.proofs.stack.Stack.prepare.Goals as goal

abbrev profile : (g : Over) → PartProfile g.row.B-Item.Denot
profile g = record { stamp = g.B.Item.Item.stamp; before = g.B.Item.Item.before; slope = g.B.Builder.SLOPE; base = g.B.Builder.BASE }

pub invariant_of-self : goal.invariant_of-self
invariant_of-self g c =
    let h = c.self.invariant in
    let k = c.add_levels.ensures.kept in
    (IsStack-kept _ h.0 k, h.1 ∙ sym k.same.weight, h.2 ∙ ap length (sym k.same.live), h.3)

pub invariant_of-self-2 : goal.invariant_of-self-2
invariant_of-self-2 g c =
    let h = c.self.invariant in
    let k = c.add_levels.ensures.kept in
    (IsStack-kept _ h.0 k, h.1 ∙ sym k.same.weight, h.2 ∙ ap length (sym k.same.live), h.3)

pub returns-clause-has_few : goal.returns-clause-has_few
returns-clause-has_few g c = have_few g.B.Part.Part.contents (profile g) _ (c.add_levels.ensures.kept.levels (profile g) c.self.invariant.0.levels)

pub returns-in_err-add_levels-clause-has_few : goal.returns-in_err-add_levels-clause-has_few
returns-in_err-add_levels-clause-has_few g c = have_few g.B.Part.Part.contents (profile g) _ (c.add_levels.ensures.kept.levels (profile g) c.self.invariant.0.levels)

pub stock_levels-requires : goal.stock_levels-requires
stock_levels-requires g c =
    rw c.deref.ensures.value (in_place g.B.Part.Part.contents (profile g) c.add_levels.new.levels.items
    (c.add_levels.ensures.kept.levels (profile g) c.self.invariant.0.levels))

pub returns-clause-stocked : goal.returns-clause-stocked
returns-clause-stocked g c =
    let st = c.self.invariant.0 in
    let k = c.add_levels.ensures.kept in
    let new = c.add_levels.new.levels.items in
    let store = c.stock_levels.new.store in
    when_ok c.stock_levels.result
    (λ rooms light. stocked new store (subst (λ ls. HasRoomsBelow 32 (λ k. wanted_at 2 k ls) store) c.deref.ensures.value rooms)
    (quiet_enough g.B.Part.Part.contents (profile g) new (k.levels (profile g) st.levels) (k.few st.few) (c.in_ok-add_levels.ensures.enough light)))
    c.stock_levels.ensures.stocked

pub returns-clause-same : goal.returns-clause-same
returns-clause-same g c =
    subst (λ s. HaveSameItems g.B.Part.Part.contents s.levels c.add_levels.new.levels.items) c.self.view_is c.add_levels.ensures.kept.same

pub returns-clause-taken : goal.returns-clause-taken
returns-clause-taken g c =
    subst (λ ls. HasTaken (λ k. wanted_at 2 k ls) c.args.store.now c.stock_levels.new.store) c.deref.ensures.value c.stock_levels.ensures.taken

pub returns-clause-few : goal.returns-clause-few
returns-clause-few g c only =
    let k = c.add_levels.ensures.kept in
    few_held c.self.inside.levels.items c.add_levels.new.levels.items c.args.store.now c.stock_levels.new.store
    (have_few g.B.Part.Part.contents (profile g) _ (k.levels (profile g) c.self.invariant.0.levels)) k.each
    (subst (λ ls. HasTaken (λ k. wanted_at 2 k ls) c.args.store.now c.stock_levels.new.store) c.deref.ensures.value c.stock_levels.ensures.taken)
    (subst (λ s. LendsOnly s.levels c.args.store.now) (sym c.self.view_is) only)
