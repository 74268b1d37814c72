use Rattle.std.proofs.Common.{◌++◌, ◌+◌, [], ◌∷◌, sym, ap, ◌∙◌, arith}
use Rattle.id_chain.specs.Chain.{Entry}
use Rattle.id_directory.specs.Directory.{handle_of, item_of, without}
use Rattle.id_directory.proofs.Identifiers.{handle_of-linked, same_by_handle}
use Rattle.id_directory.proofs.Agreements.{Agrees-renewed_at, same_registered}
use Rattle.id_directory.proofs.directory.Directory.renew.Goals as goal

pub renew-requires : goal.renew-requires
renew-requires g c =
    let id = g.I.Named.id c.args.item in
    let found = ap (λ v. handle_of g.I.Named.id id v.entries) c.self.view_is ∙ c.requires.present in
    handle_of-linked g.I.Named.id id c.args.handle c.self.inside.chain.entries found

pub invariant_of-self : goal.invariant_of-self
invariant_of-self g c =
    let id = g.I.Named.id c.args.item in
    let found = ap (λ v. handle_of g.I.Named.id id v.entries) c.self.view_is ∙ c.requires.present in
    let none = ap (λ v. v.pending) c.self.view_is ∙ c.requires.none_pending in
    let stamped = c.requires.stamped ∙ ap (λ v. v.adds) (sym c.self.view_is) in
    Agrees-renewed_at g.I.Named.id g.I.Item.stamp _ _ _ _ _ _ _ _ _ _ c.args.handle c.args.item
    c.self.invariant none found stamped c.renew.ensures.entries (omega arith)

pub returns-clause-item : goal.returns-clause-item
returns-clause-item g c =
    let id = g.I.Named.id c.args.item in
    let found = ap (λ v. handle_of g.I.Named.id id v.entries) c.self.view_is ∙ c.requires.present in
    let same = same_by_handle g.I.Named.id id c.args.handle _ c.self.invariant.handles_differ found in
    ap (λ v. item_of g.I.Named.id id v.entries) (sym c.self.view_is) ∙ same.item ∙ c.renew.ensures.item

pub returns-clause-renewed : goal.returns-clause-renewed
returns-clause-renewed g c =
    let id = g.I.Named.id c.args.item in
    let found = ap (λ v. handle_of g.I.Named.id id v.entries) c.self.view_is ∙ c.requires.present in
    let same = same_by_handle g.I.Named.id id c.args.handle _ c.self.invariant.handles_differ found in
    let last : Entry _ = record { handle = c.args.handle; item = c.args.item } in
    same_registered _ _ _ _ _ _
    (c.renew.ensures.entries ∙ ap (λ xs. xs ++ last ∷ []) (sym same.rest) ∙ ap (λ v. without g.I.Named.id id v.entries ++ last ∷ []) c.self.view_is)
    (ap (λ v. v.adds + 1) c.self.view_is)
    (ap (λ v. v.pending) c.self.view_is)
