use Rattle.std.proofs.Common.{sym, ap, ◌∙◌}
use Rattle.id_directory.specs.Directory.{item_of, without}
use Rattle.id_directory.proofs.Identifiers.{handle_of-linked, same_by_handle}
use Rattle.id_directory.proofs.Agreements.{handle_of-slot, Agrees-removed_at, same_registered}
use Rattle.id_directory.proofs.directory.Directory.remove.Goals as goal

pub unlink-requires : goal.unlink-requires
unlink-requires g c =
    let slot = sym c.take.ensures.value ∙ c.in-Some.is in
    let none = ap (λ v. v.pending) c.self.view_is ∙ c.requires.none_pending in
    let found = handle_of-slot g.I.Named.id g.I.Item.stamp _ _ _ _ _ _ c.args.id c.in-Some.handle c.self.invariant none slot in
    handle_of-linked g.I.Named.id c.args.id c.in-Some.handle c.self.inside.chain.entries found

pub invariant_of-self : goal.invariant_of-self
invariant_of-self g c =
    let slot = sym c.take.ensures.value ∙ c.in-Some.is in
    let none = ap (λ v. v.pending) c.self.view_is ∙ c.requires.none_pending in
    Agrees-removed_at g.I.Named.id g.I.Item.stamp _ _ _ _ _ _ _ _ _ _ _ _
    c.self.invariant none slot c.take.ensures.updates c.unlink.ensures.entries

pub returns-clause-item : goal.returns-clause-item
returns-clause-item g c =
    let slot = sym c.take.ensures.value ∙ c.in-Some.is in
    let none = ap (λ v. v.pending) c.self.view_is ∙ c.requires.none_pending in
    let found = handle_of-slot g.I.Named.id g.I.Item.stamp _ _ _ _ _ _ c.args.id c.in-Some.handle c.self.invariant none slot in
    let same = same_by_handle g.I.Named.id c.args.id c.in-Some.handle _ c.self.invariant.handles_differ found in
    ap (λ v. item_of g.I.Named.id c.args.id v.entries) (sym c.self.view_is) ∙ same.item ∙ c.unlink.ensures.item

pub returns-clause-removed : goal.returns-clause-removed
returns-clause-removed g c =
    let slot = sym c.take.ensures.value ∙ c.in-Some.is in
    let none = ap (λ v. v.pending) c.self.view_is ∙ c.requires.none_pending in
    let found = handle_of-slot g.I.Named.id g.I.Item.stamp _ _ _ _ _ _ c.args.id c.in-Some.handle c.self.invariant none slot in
    let same = same_by_handle g.I.Named.id c.args.id c.in-Some.handle _ c.self.invariant.handles_differ found in
    same_registered _ _ _ _ _ _
    (c.unlink.ensures.entries ∙ sym same.rest ∙ ap (λ v. without g.I.Named.id c.args.id v.entries) c.self.view_is)
    (ap (λ v. v.adds) c.self.view_is)
    (ap (λ v. v.pending) c.self.view_is)
