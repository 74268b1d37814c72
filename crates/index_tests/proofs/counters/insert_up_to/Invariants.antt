use Rattle.std.proofs.Common.{◌≡◌, ◌<◌, All, Contains, length}
use Rattle.binary_stack.specs.Levels.{weight_of, live_items, all_items}
use Rattle.index_tests.proofs.counters.insert_up_to.Given as goal

abbrev pub invariant-loop-stamp : goal.invariant-loop-stamp
invariant-loop-stamp g l = record {
  weight : weight_of l.stack.levels ≡ l.stamp;
  live : length (live_items g.B.Part.Part.contents l.stack.levels) ≡ l.stamp;
  below : All (λ x. x.stamp < l.stamp) (all_items g.B.Part.Part.contents l.stack.levels);
  first : 0 < l.stamp → Contains (live_items g.B.Part.Part.contents l.stack.levels) (record { x = 1; y = 2; stamp = 0 });
}
