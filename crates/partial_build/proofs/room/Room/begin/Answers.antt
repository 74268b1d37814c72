use Rattle.std.proofs.Common.{◌∙◌, ◌+◌, ◌<◌, length, ap, subst}
use Rattle.partial_build.proofs.room.Room.begin.Goals as goal

pub returns-clause-begun : goal.returns-clause-begun
returns-clause-begun g c =
    let merge = ap (λ v. v.merge) c.begun.ensures.begun in
    record {
      unread = ap (λ m. length m.a.table + length m.b.table + (m.a.reread + m.b.reread)) (merge ∙ c.begin.ensures.left);
      unsealed = λ some. c.begun.ensures.unsealed (subst (λ m. 0 < m.left) merge some);
    }
