use Rattle.std.proofs.Common.{◌≡◌, false, length}
use Rattle.query_laws.specs.declared.item.Order.TheVariants.{Second}
use Rattle.trials.specs.Filling.{Leads}
use Rattle.trials.proofs.marked.put_in_second.Given as goal

abbrev pub invariant-loop-place : goal.invariant-loop-place
invariant-loop-place g l = record {
  going : (g.B.Builder.progress l.builder).is_sealed ≡ false;
  same : (g.B.Builder.progress l.builder).items ≡ l.items;
  count : length (g.B.Builder.progress l.builder).reordered ≡ l.place-index;
  leads : Leads (g.B.Item.Item.before Second) l.last (g.B.Builder.progress l.builder).reordered;
}
