use Rattle.std.proofs.Common.{sym, ap, ◌∙◌, arith}
use Rattle.id_directory.proofs.Agreements.{Agrees-added_at}
use Rattle.id_directory.proofs.directory.Directory.add.Goals as goal

pub invariant_of-self : goal.invariant_of-self
invariant_of-self g c =
    let is = ap (λ v. v.pending) c.self.view_is ∙ c.requires.pending in
    let stamped = c.requires.stamped ∙ ap (λ v. v.adds) (sym c.self.view_is) in
    Agrees-added_at g.I.Named.id g.I.Item.stamp _ _ _ _ _ _ _ _ _ _ _ c.args.item
    c.self.invariant is stamped c.append-handle.ensures.new_handle c.append-handle.ensures.handle c.append-handle.ensures.entries (omega arith)
