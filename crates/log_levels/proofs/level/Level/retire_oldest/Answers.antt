use Rattle.std.proofs.Common.{◌≤◌, All, length, arith}
use Rattle.std.proofs.lemmas.Grind.{common_steps, elements}
use Rattle.log_levels.specs.Level.{IsOfLevel}
use Rattle.log_levels.proofs.Held.{AreHeld-fewer, IsLevel-holding}
use Rattle.log_levels.proofs.level.Level.retire_oldest.Goals as goal

pub invariant_of-self : goal.invariant_of-self
invariant_of-self g c =
    let h = c.self.invariant in
    let v = c.self.inside in
    let r = c.remove-part.ensures in
    let each : All (λ p. IsOfLevel v.level (g.B.Part.Part.contents p)) c.remove-part.new.self.items = grind (arith, elements, h.parts_held.each, r.items) in
    let fewer : length c.remove-part.new.self.items ≤ length v.parts.items = grind (arith, common_steps, r.items) in
    IsLevel-holding h (AreHeld-fewer v.parts.items each fewer r.capacity h.parts_held)
