use Rattle.std.proofs.Common.{◌≡◌, ◌+◌, [], ◌∷◌, ◌++◌, ◌∙◌, take, Some, ap, sym, subst, arith}
use Rattle.std.proofs.lemmas.List.{take_more}
use Rattle.query_laws.specs.declared.item.Order.TheVariants.{First}
use Rattle.builder_trait.specs.Builders.{Progress, with_put}
use Rattle.trials.specs.Filling.{Leads}
use Rattle.trials.proofs.Filling.{Leads-push}
use Rattle.trials.proofs.marked.put_in_first.Goals as goal

pub loop-place-preserved : goal.loop-place-preserved
loop-place-preserved g c =
    let items = c.args.items.now in
    let k = c.loop-place.place in
    let x = c.index-items-place.result in
    let more : take (k + 1) items ≡ take k items ++ x ∷ [] =
    take_more items k x c.loop-place-test.true ∙ ap (λ y. take k items ++ y ∷ []) (sym c.index-items-place.is) in
    record {
      put = c.put.ensures.added ∙ ap (with_put First x k) c.loop-place.invariant.put
          ∙ ap (λ l. let made : Progress _ = record (g.B.Builder.progress c.args.builder.now) { items = l } in made) (sym more);
      leads = subst (Leads (g.B.Item.Item.before First) (Some x)) (sym more)
          (Leads-push (g.met.B.Item.Item.ordered First) c.loop-place.last (take k items) x c.loop-place.invariant.leads
          (sym c.is_after.ensures ∙ c.if-not-is_after.false));
    }
