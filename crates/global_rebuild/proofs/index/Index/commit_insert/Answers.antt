use Rattle.std.proofs.Common.{◌≡◌, ◌+◌, ◌^◌, ◌<◌, ◌∙◌, true, [], ◌∷◌, ◌++◌, Some, length, ap, sym, subst, arith}
use Rattle.id_chain.specs.Chain.{Entry, HandlesDiffer, is_linked}
use Rattle.id_chain.proofs.Cursors.{linked-append}
use Rattle.part_store.specs.Store.{Stored}
use Rattle.log_levels.specs.Levels.{waiting_of}
use Rattle.log_levels.specs.Trades.{Trades}
use Rattle.log_method.specs.Stack.{Stacked, Inserts}
use Rattle.global_rebuild.specs.Index.{Indexed, IsIndex}
use Rattle.chain_walk.proofs.Appending.{last_item}
use Rattle.global_rebuild.proofs.Appending.{appended}
use Rattle.global_rebuild.proofs.Stocking.{stocked_less, main_ticks}
use Rattle.global_rebuild.proofs.Weights.{IsSoundOf, main_few, main_light}
use Rattle.global_rebuild.proofs.index.Index.commit_insert.Given.{Over}
use Rattle.global_rebuild.proofs.index.Index.commit_insert.Goals.{After-item-last}
use Rattle.global_rebuild.proofs.index.Index.commit_insert.Goals as goal

pub item-last-requires : goal.item-last-requires
item-last-requires g c =
    let last = c.requires.last in
    subst (λ es. is_linked c.args.handle es ≡ true) (sym last.2) (linked-append last.0 (record { handle = c.args.handle; item = last.1 }))

pub insert-requires-clause-ready : goal.insert-requires-clause-ready
insert-requires-clause-ready g c =
    let p = rw (← c.self.view_is) at c.requires.prepared in
    main_ticks (stocked_less _ _ _ p.stocked) c.self.invariant.memory (main_light c.self.view_is c.self.invariant c.requires.last.3)

is_last : (g : Over) (c : After-item-last g) → c.item-last.result ≡ c.requires.last.1
is_last g c =
    let last = c.requires.last in
    last_item c.args.handle c.item-last.result last.1 last.0 c.args.chain.now.entries last.2 c.requires.differ c.item-last.ensures.item

pub insert-requires-clause-apart : goal.insert-requires-clause-apart
insert-requires-clause-apart g c k d within same =
    let h = rw (← c.self.view_is) at c.requires.last.3 in
    let low = h.below k d within in
    let one = is_last g (goal.at.insert-requires-clause-apart g c).After-item-last in
    omega (arith, low, same, ap g.B.Item.Item.stamp one)

-- what the fields are afterwards
sound : (g : Over) (c : After-item-last g) (i : Indexed g.row.B-Part.Denot g.row.B-Item.Denot) (main : Stacked g.row.B-Part.Denot g.row.B-Item.Denot) (store : Stored)
    → i ≡ c.args.self.now → IsIndex g.B.Part.Part.contents i → Trades i.main.levels i.store main.levels store
    → Inserts g.B.Part.Part.contents c.item-last.result i.main.levels main.levels
    → IsSoundOf g.B.Part.Part.contents g.B.Item.Item.stamp (record { store = store; main = main; shadow = i.shadow; retired = i.retired }) c.args.chain.now.entries
    (g.B.Item.Item.stamp c.item-last.result + 1)
sound g c i main store view v trades inserts =
    let contents = g.B.Part.Part.contents in
    let stamp = g.B.Item.Item.stamp in
    let last = c.requires.last in
    let one = is_last g c in
    let e : Entry g.row.B-Item.Denot = record { handle = c.args.handle; item = c.item-last.result } in
    let is : c.args.chain.now.entries ≡ last.0 ++ e ∷ [] =
    last.2 ∙ ap (λ x. last.0 ++ record { handle = c.args.handle; item = x } ∷ []) (sym one) in
    let h = rw (← view, ← one) at last.3 in
    let p = rw (← view) at c.requires.prepared in
    subst (λ es. IsSoundOf contents stamp (record { store = store; main = main; shadow = i.shadow; retired = i.retired }) es (stamp e.item + 1)) (sym is)
    (appended contents stamp _ last.0 e h v p main store trades inserts.live inserts.items inserts.weight (subst HandlesDiffer is c.requires.differ)
    (subst (λ es. length es < 2 ^ 29) is c.requires.few))

pub invariant_of-self : goal.invariant_of-self
invariant_of-self g c =
    let e = c.insert.ensures in
    (sound g (goal.at.invariant_of-self g c).After-item-last _ c.insert.new.self c.insert.new.store c.self.view_is c.self.invariant e.trades.trades e.inserts).0

pub returns-clause-chain : goal.returns-clause-chain
returns-clause-chain g c item at =
    let same : c.item-last.result ≡ item = let both : Some c.item-last.result ≡ Some item = sym c.item-last.ensures.item ∙ at in cc in
    let e = c.insert.ensures in
    rw (← same) (sound g (goal.at.returns-clause-chain g c).After-item-last _ c.insert.new.self c.insert.new.store c.self.view_is c.self.invariant e.trades.trades e.inserts).1

pub returns-clause-cost : goal.returns-clause-cost
returns-clause-cost g c g' light =
    c.insert.ensures.cost.within g' (omega (arith, main_few c.self.view_is c.self.invariant g' light, c.insert.ensures.inserts.weight))

pub returns-clause-waiting : goal.returns-clause-waiting
returns-clause-waiting g c = omega (arith, c.insert.ensures.cost.drained, ap (λ i. waiting_of i.main.levels) c.self.view_is)
