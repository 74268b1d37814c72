use Rattle.std.proofs.Common.{◌∙◌}
use Rattle.id_directory.proofs.Latest.{HasWalked-linked, HasWalked-step, HasWalked-stay}
use Rattle.id_directory.proofs.directory.Directory.recent.Goals.{in-Some, in_default}
use Rattle.id_directory.proofs.directory.Directory.recent.Goals as goal

pub item-requires : goal.item-requires
item-requires g c =
    HasWalked-linked g.I.Named.id _ _ _ _ _ c.self.invariant.handles_differ c.loop-done.invariant c.in-Some.is

pub prev-at-requires : goal.prev-at-requires
prev-at-requires g c =
    HasWalked-linked g.I.Named.id _ _ _ _ _ c.self.invariant.handles_differ c.loop-done.invariant c.in-Some.is

pub loop-done-preserved : goal.loop-done-preserved
loop-done-preserved g c = elim c.match-at.branch [
  | in-Some w ↦ HasWalked-step g.I.Named.id _ _ _ _ _ _ _ _ _ c.self.invariant.handles_differ c.loop-done.invariant w.in-Some.is w.item.ensures.item w.id.ensures (w.recent-is ∙ w.push.ensures) (w.at-is ∙ w.prev-at.ensures.neighbour)
  | in_default w ↦ HasWalked-stay g.I.Named.id _ _ _ _ _ _ c.loop-done.invariant w.in_default.is w.recent-is w.at-is
]
