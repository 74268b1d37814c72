use Rattle.late_index.proofs.Catching.{owns_none, starts}
use Rattle.late_index.proofs.late.Late.start.Goals as goal

pub invariant_of-result : goal.invariant_of-result
invariant_of-result g c = rw (c.new.ensures, c.new-2.ensures) owns_none

pub returns-clause-chain : goal.returns-clause-chain
returns-clause-chain g c stamps rise =
    rw (c.new.ensures, c.new-2.ensures, c.len.ensures.count)
    (starts c.args.chain.now.entries stamps c.first.result c.first.ensures.linked c.first.ensures.before c.len.ensures.differ c.requires.few rise)
