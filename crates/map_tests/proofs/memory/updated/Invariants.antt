use Rattle.std.proofs.Common.{◌≤◌, ◌*◌}
use Rattle.map_tests.proofs.memory.updated.Given as goal

abbrev pub ghosts-change : goal.ghosts-change
ghosts-change g a = record { name = a.blank.name; parts = a.blank.parts }

abbrev pub invariant-loop-id : goal.invariant-loop-id
invariant-loop-id g l = l.layer.adds ≤ 3 * l.id
