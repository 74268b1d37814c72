use Rattle.std.proofs.Common.{rules, ◌≡◌, Some, arith}
use Rattle.global_rebuild.proofs.index.Index.unwalked.Goals as goal

pub overflow_sub-result : goal.overflow_sub-result
overflow_sub-result g c =
    let is : c.self.inside.shadow ≡ Some c.in_ok-shadow.shadow.now = search rules in
    let t = c.self.invariant.in_time c.in_ok-shadow.shadow.now is in
    omega (arith, t.few, c.live.ensures, c.live-2.ensures)
