use Rattle.std.proofs.Common.{rules, ◌≡◌, true, arith}
use Rattle.id_chain.specs.Chain.{is_linked, before_cursor}
use Rattle.chain_walk.proofs.Forgetting.{walked_live}
use Rattle.late_index.proofs.Catching.{light}
use Rattle.late_index.proofs.Leaving.{ticks}
use Rattle.late_index.proofs.late.Late.let_go.Goals as goal

pub delete-requires-clause-ready : goal.delete-requires-clause-ready
delete-requires-clause-ready g c =
    let h = rw (← c.self.view_is) at c.requires.chain.1 in
    let p = rw (← c.self.view_is) at c.requires.prepared in
    ticks c.self.invariant p.stocked (omega (arith, light h))

pub delete-requires-clause-live : goal.delete-requires-clause-live
delete-requires-clause-live g c =
    let h = rw (← c.self.view_is) at c.requires.chain.1 in
    let walked : is_linked c.args.handle (before_cursor c.self.inside.walk.cursor c.args.chain.now.entries) ≡ true = search rules in
    walked_live g.B.Part.Part.contents g.B.Item.Item.stamp c.self.inside.walk c.args.chain.now.entries c.requires.chain.0 c.args.handle c.item-item.result
    h.rise h.walk c.item-item.ensures.item walked
