use Rattle.std.proofs.Common.{arith, ◌∙◌, sym, length, subst, refl}
use Rattle.query_laws.specs.StepLedger.{Spends}
use Rattle.query_laws.proofs.Counting.{Spends-one_touch, Spends-then, Spends-within, Spends-weaker}
use Rattle.query_laws.specs.declared.item.Order.TheVariants.{First}
use Rattle.builder_trait.proofs.SearchLemmas.{PassesUpTo-rising, All-missing, Spends-searched}
use Rattle.builder_trait.proofs.flat.place_of_item.Goals as goal

pub partition_point-place-requires-clause-up_to_some : goal.partition_point-place-requires-clause-up_to_some
partition_point-place-requires-clause-up_to_some g c =
    PassesUpTo-rising (g.met.I.Item.ordered First) c.args.row.now.items c.args.item.now c.requires.rising 0 c.len.result
    (omega (arith, c.len.ensures.value))

pub returns-then-place-len-clause-cost : goal.returns-then-place-len-clause-cost
returns-then-place-len-clause-cost g c h small =
    Spends-weaker (Spends-searched h (length c.args.row.now.items) small (λ k below. c.partition_point-place.ensures.cost k (omega arith)))
    (omega arith)

pub returns-then-stamp-clause-cost : goal.returns-then-stamp-clause-cost
returns-then-stamp-clause-cost g c h small =
    let searched = Spends-searched h (length c.args.row.now.items) small (λ k below. c.partition_point-place.ensures.cost k (omega arith)) in
    let touched : Spends c.partition_point-place.new.steps c.at-found.new.steps 0 0 1 =
    subst (λ s. Spends c.partition_point-place.new.steps s 0 0 1) (sym c.at-found.ensures.touched) (Spends-one_touch c.partition_point-place.new.steps) in
    Spends-within (Spends-then searched touched) refl refl (omega arith)

pub returns-else-stamp-clause-missing : goal.returns-else-stamp-clause-missing
returns-else-stamp-clause-missing g c _ =
    All-missing (g.met.I.Item.ordered First) c.args.row.now.items c.args.item.now c.requires.rising c.partition_point-place.result
    c.len.result c.len.ensures.value
    c.partition_point-place.ensures.before c.partition_point-place.ensures.after
    c.requires.owner c.at-found.result c.at-found.ensures.read (λ same. c.if-stamp.false (c.stamp.ensures ∙ same ∙ sym c.stamp-2.ensures))

pub returns-else-stamp-clause-cost : goal.returns-else-stamp-clause-cost
returns-else-stamp-clause-cost g c h small =
    let searched = Spends-searched h (length c.args.row.now.items) small (λ k below. c.partition_point-place.ensures.cost k (omega arith)) in
    let touched : Spends c.partition_point-place.new.steps c.at-found.new.steps 0 0 1 =
    subst (λ s. Spends c.partition_point-place.new.steps s 0 0 1) (sym c.at-found.ensures.touched) (Spends-one_touch c.partition_point-place.new.steps) in
    Spends-within (Spends-then searched touched) refl refl (omega arith)
