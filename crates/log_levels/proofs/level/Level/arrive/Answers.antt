use Rattle.std.proofs.Common.{ap, subst, sym, arith, length}
use Rattle.log_levels.specs.Level.{IsOfLevel}
use Rattle.log_levels.proofs.Held.{AreHeld-push, IsLevel-holding}
use Rattle.log_levels.proofs.level.Level.arrive.Goals as goal

pub invariant_of-self : goal.invariant_of-self
invariant_of-self g c =
    let h = c.self.invariant in
    let v = c.self.inside in
    let p = c.push_reserved.ensures in
    IsLevel-holding h
    (AreHeld-push v.parts.items c.args.part p.items p.capacity h.parts_held
    (subst (λ k. IsOfLevel k (g.B.Part.Part.contents c.args.part)) (sym (ap (λ l. l.level) c.self.view_is)) c.requires.of_level)
    (omega (arith, c.requires.place, ap (λ l. length l.parts) c.self.view_is)))
