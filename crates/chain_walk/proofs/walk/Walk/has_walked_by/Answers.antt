use Rattle.std.proofs.Common.{◌∙◌, nat_lt, sym, ap, ap₂}
use Rattle.id_chain.specs.Chain.{is_linked, before_cursor}
use Rattle.id_chain.proofs.Stamps.{is_before-by_stamp}
use Rattle.chain_walk.proofs.walk.Walk.has_walked_by.Goals as goal

pub returns-in-Some : goal.returns-in-Some
returns-in-Some g c =
    let es = c.args.chain.now.entries in
    ap₂ nat_lt c.stamp.ensures c.stamp-in-Some.ensures
    ∙ sym (is_before-by_stamp g.B.Item.Item.stamp 0 c.requires.rise.0 c.in-Some.at c.args.handle c.item-in-Some.result c.item.result es c.requires.rise.1
    c.item-in-Some.ensures.item c.item.ensures.item)
    ∙ ap (λ cursor. is_linked c.args.handle (before_cursor cursor es)) (sym (sym (ap (λ r. r.cursor) c.self.view_is) ∙ c.in-Some.is))
