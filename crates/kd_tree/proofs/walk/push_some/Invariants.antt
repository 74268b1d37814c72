use Rattle.std.proofs.Common.{◌≡◌, ◌+◌, ◌≤◌, ◌++◌, length, take}
use Rattle.std.specs.List.{filter}
use Rattle.kd_tree.proofs.walk.push_some.Given as goal

abbrev pub invariant-loop-block : goal.invariant-loop-block
invariant-loop-block l = record {
  pushed : l.stack.items ≡ l.initial.stack.items ++ filter (λ b. b.some) (take l.block-index l.blocks);
  few : length l.stack.items ≤ length l.initial.stack.items + l.block-index;
}
