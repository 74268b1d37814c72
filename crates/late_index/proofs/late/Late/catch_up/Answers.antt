use Rattle.std.proofs.Common.{rules, ◌≡◌, ◌-◌, arith}
use Rattle.late_index.proofs.Catching.{reaches}
use Rattle.late_index.proofs.late.Late.catch_up.Goals as goal

pub returns-clause-caught_up : goal.returns-clause-caught_up
returns-clause-caught_up g c =
    let h = rw (← c.self.view_is) at c.requires.chain.1 in
    let own = c.walk.ensures.chain c.requires.chain.0 h.rise h.walk in
    let goal : c.goal.result ≡ c.self.inside.waiting - 4 = rw (← c.self.view_is) at c.goal.ensures in
    reaches c.walk.result h own c.walk.ensures.handed c.walk.ensures.taken (omega (arith, h.at_least, c.live.ensures, c.len.ensures.count, goal)) (search rules)
