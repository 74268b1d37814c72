use Rattle.std.proofs.Common.{ap, arith}
use Rattle.binary_stack.specs.Levels.{parts_of}
use Rattle.binary_stack.proofs.Levels.{parts-levels}
use Rattle.binary_stack.proofs.stack.BinaryStack.asked_levels.Goals as goal

pub returns-clause-room : goal.returns-clause-room
returns-clause-room g c =
    omega (arith, parts-levels c.self.inside.levels.items, c.self.invariant.0.few, ap parts_of c.deref.ensures.value)
