use Rattle.std.proofs.Common.{◌≡◌, take}
use Rattle.query_laws.specs.declared.item.Order.TheVariants.{First}
use Rattle.trials.specs.Filling.{Leads}
use Rattle.trials.proofs.marked.put_in_first.Given as goal

abbrev pub invariant-loop-place : goal.invariant-loop-place
invariant-loop-place g l = record {
  put : g.B.Builder.progress l.builder ≡ record (g.B.Builder.progress l.initial.builder) { items = take l.place l.items };
  leads : Leads (g.B.Item.Item.before First) l.last (take l.place l.items);
}
