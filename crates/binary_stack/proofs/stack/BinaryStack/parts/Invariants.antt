use Rattle.std.proofs.Common.{◌≡◌, ◌≤◌, sum_by, take}
use Rattle.binary_stack.specs.Levels.{parts_in}
use Rattle.binary_stack.proofs.stack.BinaryStack.parts.Given as goal

abbrev pub invariant-loop-level : goal.invariant-loop-level
invariant-loop-level g l = record {
  parts : l.parts ≡ sum_by parts_in (take l.level-index l.self.levels);
  few : l.parts ≤ l.level-index;
}
