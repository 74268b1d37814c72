use Rattle.std.proofs.Common.{arith}
use Rattle.binary_stack.proofs.Counters.{IsCounter-ready}
use Rattle.binary_stack.proofs.stack.BinaryStack.prepare.Goals as goal

pub take_memory-requires-clause-few : goal.take_memory-requires-clause-few
take_memory-requires-clause-few g c = let h = c.self.invariant in omega (arith, h.0.light, h.1, h.2, h.3)

-- memory was refused: the levels stand as they were, with none spare
pub invariant_of-self : goal.invariant_of-self
invariant_of-self g c =
    let h = c.self.invariant in rw c.take_memory.ensures.same (h.0, h.1, h.2, h.3, λ one. absurd (omega (arith, one, c.if-self-gt0.false)))

pub invariant_of-self-2 : goal.invariant_of-self-2
invariant_of-self-2 g c =
    let h = c.self.invariant in (
      IsCounter-ready h.0 c.take_memory.ensures.same,
      rw c.take_memory.ensures.same h.1,
      rw c.take_memory.ensures.same h.2,
      h.3,
      λ one. c.in_ok-starter.ensures.ready,
    )
