use Rattle.std.proofs.Common.{◌≡◌, ◌+◌, ◌-◌, ◌*◌, min, length}
use Rattle.query_laws.specs.StepLedger.{Spends}
use Rattle.builder_trait.specs.Parts.{Contents}
use Rattle.partial_build.specs.Construction.{Builds}
use Rattle.partial_build.proofs.build.Build.drain.Given as goal

abbrev pub invariant-loop-drained : goal.invariant-loop-drained
invariant-loop-drained g l = record {
  builds : (a b : Contents g.row.B-Item.Denot) → Builds (record { stamp = g.B.Item.Item.stamp; before = g.B.Item.Item.before; slope = g.B.Builder.SLOPE; base = g.B.Builder.BASE }) l.initial.self a b
      → Builds (record { stamp = g.B.Item.Item.stamp; before = g.B.Item.Item.before; slope = g.B.Builder.SLOPE; base = g.B.Builder.BASE }) l.self a b;
  same : l.self ≡ record l.initial.self {
    part = record l.initial.self.part { contents = l.self.part.contents };
    waiting = l.self.waiting;
  };
  items : l.self.part.contents.items ≡ l.initial.self.part.contents.items;
  marks : l.steps.marks - l.initial.steps.marks ≡ min l._drained (length l.initial.self.waiting);
  drained : length l.self.waiting + (l.steps.marks - l.initial.steps.marks) ≡ length l.initial.self.waiting;
  spent : Spends l.initial.steps l.steps 0 (l.steps.marks - l.initial.steps.marks)
      ((l.steps.marks - l.initial.steps.marks) * g.B.Part.Part.mark_touches l.initial.self.level);
}
