use Rattle.late_index.proofs.Catching.{appends}
use Rattle.late_index.proofs.late.Late.commit_insert.Goals as goal

pub returns-clause-chain : goal.returns-clause-chain
returns-clause-chain g c front e differ few prepared chain =
    let p = rw (← c.self.view_is) at prepared in
    let h = rw (← c.self.view_is) at chain in
    let going = rw (← c.self.view_is) at c.requires.going in
    rw (c.goal.ensures, ← c.self.view_is) (appends _ front e going differ few p h)
