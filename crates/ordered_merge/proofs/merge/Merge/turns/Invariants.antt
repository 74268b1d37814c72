use Rattle.std.proofs.Common.{◌*◌}
use Rattle.query_laws.specs.StepLedger.{Spends}
use Rattle.ordered_merge.specs.Merging.{MergesInto, ReadsInto}
use Rattle.ordered_merge.proofs.merge.Merge.turns.Given as goal

abbrev pub invariant-loop-taken : goal.invariant-loop-taken
invariant-loop-taken g l = record {
  merges : MergesInto g.B.Part.Part.contents g.B.Builder.progress (record { stamp = g.B.Item.Item.stamp; before = g.B.Item.Item.before; slope = g.B.Builder.SLOPE; base = g.B.Builder.BASE }) l.self l.a l.b l.builder;
  read : ReadsInto g.B.Part.Part.contents g.B.Builder.progress l._taken l.initial.self l.self l.a l.b l.initial.builder l.builder;
  spent : Spends l.initial.steps l.steps l._taken 0 (16 * l._taken);
}
