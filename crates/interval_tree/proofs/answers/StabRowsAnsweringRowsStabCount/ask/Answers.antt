use Rattle.std.proofs.Common.{arith}
use Rattle.interval_tree.proofs.Counting.{stab_count-is}
use Rattle.interval_tree.proofs.answers.StabRowsAnsweringRowsStabCount.ask.Goals as goal

pub returns-clause-joined : goal.returns-clause-joined
returns-clause-joined g c = omega (arith, c.add.ensures, c.count.ensures.value, stab_count-is c.args.question.now.x c.args.segments.now)
