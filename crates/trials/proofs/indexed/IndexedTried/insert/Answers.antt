use Rattle.std.proofs.Common.{◌≡◌, ◌+◌, ◌∙◌, [], Some, ap, subst, arith}
use Rattle.id_chain.specs.Chain.{item_at}
use Rattle.id_chain.proofs.Entries.{item_at-split}
use Rattle.global_rebuild.specs.Index.{IsIndexOf}
use Rattle.trials.proofs.indexed.IndexedTried.insert.Goals as goal

pub invariant_of-self-2 : goal.invariant_of-self-2
invariant_of-self-2 g c =
    let stamp = g.B.Item.Item.stamp in
    let next : stamp c.args.item ≡ c.self.inside.stamps = omega (arith, c.if-stamp-self.false, c.stamp-stamp.ensures) in
    let there : item_at c.append-handle.result c.append-handle.new.self.entries ≡ Some c.args.item =
    ap (item_at c.append-handle.result) c.append-handle.ensures.entries
    ∙ item_at-split c.append-handle.result c.args.item c.reserve-2.new.self.entries [] c.append-handle.ensures.new_handle in
    subst (IsIndexOf g.B.Part.Part.contents stamp c.commit_insert.new.self c.append-handle.new.self.entries) (ap (λ n. n + 1) next)
    (c.commit_insert.ensures.chain c.args.item there)
