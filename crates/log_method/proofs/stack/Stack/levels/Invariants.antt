use Rattle.std.proofs.Common.{◌≤◌, length, drop, All}
use Rattle.log_levels.specs.Slots.{IsIdle}
use Rattle.log_method.proofs.stack.Stack.levels.Given as goal

abbrev pub invariant-loop-height : goal.invariant-loop-height
invariant-loop-height g l = record {
  within : l.height ≤ length l.self.levels;
  idle : All IsIdle (drop l.height l.self.levels);
}

abbrev pub decreases-loop-height : goal.decreases-loop-height
decreases-loop-height g l = l.height
