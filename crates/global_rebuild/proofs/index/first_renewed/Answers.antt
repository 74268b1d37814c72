use Rattle.global_rebuild.proofs.Moving.{first_of, first_itself}
use Rattle.global_rebuild.proofs.index.first_renewed.Goals as goal

pub returns-in-Some-clause-cursor : goal.returns-in-Some-clause-cursor
returns-in-Some-clause-cursor g c item =
    let e = c.in-Some.ensures in
    (first_of c.args.handle c.args.chain.now.entries item c.in-Some.first e.cursor e.before).0

pub returns-in-Some-clause-before : goal.returns-in-Some-clause-before
returns-in-Some-clause-before g c item =
    let e = c.in-Some.ensures in
    (first_of c.args.handle c.args.chain.now.entries item c.in-Some.first e.cursor e.before).1

pub returns-in-None-clause-cursor : goal.returns-in-None-clause-cursor
returns-in-None-clause-cursor g c item = (first_itself c.args.handle c.args.chain.now.entries item c.in-None.ensures.before).0

pub returns-in-None-clause-before : goal.returns-in-None-clause-before
returns-in-None-clause-before g c item = (first_itself c.args.handle c.args.chain.now.entries item c.in-None.ensures.before).1
