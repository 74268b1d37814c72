use Rattle.std.proofs.Common.{◌-◌, length}
use Rattle.log_method.specs.Preparing.{IsKept}
use Rattle.log_method.proofs.preparing.add_levels.Given as goal

abbrev pub invariant-loop-alloc : goal.invariant-loop-alloc
invariant-loop-alloc g l = IsKept g.B.Part.Part.contents l.initial.levels.items l.levels.items

abbrev pub decreases-loop-alloc : goal.decreases-loop-alloc
decreases-loop-alloc g l = 32 - length l.levels.items
