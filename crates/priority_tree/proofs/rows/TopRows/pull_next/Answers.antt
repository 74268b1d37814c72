use Rattle.std.proofs.Common.{◌-◌, arith}
use Rattle.priority_tree.proofs.GrowthLemmas.{under_way, hole_here, hole_block, IsGrown-pulled}
use Rattle.priority_tree.proofs.rows.TopRows.pull_next.Goals as goal

pub pull-self-requires-clause-block : goal.pull-self-requires-clause-block
pull-self-requires-clause-block g c =
    let growing = c.requires.growing.1 in
    hole_block c.requires.growing.0 c.args.self.now growing.0 (under_way c.requires.growing.0 c.args.self.now growing.0 c.requires.more)

pub pull-self-requires-clause-hole : goal.pull-self-requires-clause-hole
pull-self-requires-clause-hole g c =
    let growing = c.requires.growing.1 in
    hole_here c.requires.growing.0 c.args.self.now growing.0 (under_way c.requires.growing.0 c.args.self.now growing.0 c.requires.more)

pub returns-clause-grown : goal.returns-clause-grown
returns-clause-grown g c part growing =
    let under = under_way part c.args.self.now growing.0 c.requires.more in
    let some = growing.1 under in
    IsGrown-pulled part c.args.self.now growing.0 under c.pull-self.new.self c.pull-self.result (c.args.self.now.low - 1) (c.args.self.now.left - 1)
    (omega (arith, some)) (omega (arith, c.requires.more)) c.pull-self.ensures.pulled
