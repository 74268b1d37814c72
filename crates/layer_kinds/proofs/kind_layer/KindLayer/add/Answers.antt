use Rattle.std.proofs.Common.{rules, ◌≡◌, ◌≤◌, ◌<◌, ◌^◌, ◌+◌, ◌*◌, ◌∙◌, true, false, ◌∷◌, ◌++◌, [], Err, length, ap, sym, subst, arith}
use Rattle.std.specs.Option.{is_some, is_none}
use Rattle.std.proofs.lemmas.List.{length-append, map-append}
use Rattle.id_chain.specs.Chain.{Entry, HandlesDiffer}
use Rattle.id_chain.proofs.Entries.{Apart-parts, linked_head}
use Rattle.id_directory.specs.Directory.{handle_of}
use Rattle.map_model.specs.State.{is_live, wait_after}
use Rattle.map_model.specs.Cost.{Adds, greatest_level}
use Rattle.map_shapes.specs.declared.spent.Spent.{Spent}
use Rattle.layer_kinds.specs.declared.faults.UpdateFault.TheVariants as faults
use Rattle.layer_kinds.specs.Shares.{all_after, ready_count, IsShared, insert_turns, insert_marks}
use Rattle.layer_kinds.specs.Indexing.{wait_by}
use Rattle.layer_kinds.specs.Costs.{IsInBounds}
use Rattle.layer_kinds.specs.Layered.{items_of, IsAdd, IsWaiting}
use Rattle.layer_kinds.specs.Memory.{Each, IsReadied, LosesOne, KeepsMemory}
use Rattle.layer_kinds.proofs.Keeping.{KeepsMemory-same, loses_one}
use Rattle.layer_kinds.proofs.WithinBounds.{IsTold-of, greatest-light, refused-cost, added-cost}
use Rattle.layer_kinds.proofs.Waiting.{none_found, waits_come}
use Rattle.layer_kinds.proofs.Items.{live_found, as_many_items, duplicate_refused, full_refused}
use Rattle.layer_kinds.proofs.kind_layer.KindLayer.add.Goals as goal

pub returns-then-is_full-clause-added : goal.returns-then-is_full-clause-added
returns-then-is_full-clause-added g c =
    let long : c.len.result ≡ length c.args.self.now.entries = search rules in
    full_refused g.X.Item.Named.id g.X.Item.Shaped.item_of g.met.X.Item.Shaped.same_id c.args.item c.args.self.now.entries c.id-id.result c.id-id.ensures
    c.args.self.now.most_items (omega (arith, c.if-is_full.true, long, ap (λ k. k.most_items) c.self.view_is)) c.fault_when_full.result c.fault_when_full.ensures

pub returns-then-not-branch-clause-added : goal.returns-then-not-branch-clause-added
returns-then-not-branch-clause-added g c =
    let kept : c.prepare_add.new.self.entries ≡ c.args.self.now.entries = search rules in
    let there : is_none (handle_of g.X.Item.Named.id c.id-id.result c.args.self.now.entries) ≡ false = search rules in
    duplicate_refused g.X.Item.Named.id g.X.Item.Shaped.item_of g.met.X.Item.Shaped.same_id c.args.item c.args.self.now.entries c.id-id.result c.id-id.ensures
    c.prepare_add.new.self.entries kept there

pub returns-in_err-prepare_add-clause-added : goal.returns-in_err-prepare_add-clause-added
returns-in_err-prepare_add-clause-added g c =
    let id = g.X.Item.Named.id in
    let item_of = g.X.Item.Shaped.item_of in
    let laws = g.met.X.Item.Shaped.same_id in
    let es = c.args.self.now.entries in
    let refused : c.from_residual.result ≡ Err faults.NoMemory = search rules in
    let none : is_some (handle_of id (id c.args.item) es) ≡ false = search rules in
    let long : c.len.result ≡ length es = search rules in
    let same : c.prepare_add.new.self.entries ≡ es = search rules in
    subst (IsAdd c.args.self.now.most_items (items_of item_of es) (item_of c.args.item) (items_of item_of c.prepare_add.new.self.entries)) (sym refused) (
      ap (λ k. is_live k (items_of item_of es)) (laws c.args.item) ∙ live_found id item_of laws (id c.args.item) es ∙ none,
      omega (arith, c.if-is_full.false, long, as_many_items item_of es, ap (λ k. k.most_items) c.self.view_is),
      ap (items_of item_of) same,
    )

pub returns-then-is_err-clause-added : goal.returns-then-is_err-clause-added
returns-then-is_err-clause-added g c =
    let id = g.X.Item.Named.id in
    let item_of = g.X.Item.Shaped.item_of in
    let laws = g.met.X.Item.Shaped.same_id in
    let es = c.args.self.now.entries in
    let none : is_some (handle_of id (id c.args.item) es) ≡ false = search rules in
    let long : c.len.result ≡ length es = search rules in
    let same : c.cancel_add.new.self.entries ≡ es = search rules in (
      ap (λ k. is_live k (items_of item_of es)) (laws c.args.item) ∙ live_found id item_of laws (id c.args.item) es ∙ none,
      omega (arith, c.if-is_full.false, long, as_many_items item_of es, ap (λ k. k.most_items) c.self.view_is),
      ap (items_of item_of) same,
    )

pub insert-requires-clause-last : goal.insert-requires-clause-last
insert-requires-clause-last g c =
    let l = c.self.inside in
    let old = l.directory.entries in
    let item = c.stamped.result in
    let all : c.chain-3.result.now.entries ≡ old ++ record { handle = c.add-handle.result; item = item } ∷ [] = search rules in
    let same : c.chain-2.result.now.entries ≡ old = search rules in
    let adds : g.X.Item.Item.stamp item ≡ l.directory.adds = search rules in
    let ready : g.X.Indexes.are_ready c.prepare.new.self c.chain-2.result.now.entries = search rules in (
      old,
      item,
      all,
      rw adds (subst (λ es. g.X.Indexes.are_of c.prepare.new.self es l.directory.adds) same
          (c.prepare.ensures.of l.directory.adds (subst (λ es. g.X.Indexes.are_of l.indexes es l.directory.adds) (sym same) c.self.invariant.1))),
      subst (g.X.Indexes.are_ready c.prepare.new.self) same ready,
    )

pub returns-clause-added : goal.returns-clause-added
returns-clause-added g c =
    let id = g.X.Item.Named.id in
    let item_of = g.X.Item.Shaped.item_of in
    let laws = g.met.X.Item.Shaped.same_id in
    let es = c.args.self.now.entries in
    let all : c.add-handle.new.self.entries ≡ es ++ record { handle = c.add-handle.result; item = c.stamped.result } ∷ [] = search rules in
    let items : items_of item_of c.add-handle.new.self.entries ≡ items_of item_of es ++ item_of c.args.item ∷ [] =
    ap (items_of item_of) all ∙ map-append (λ e. item_of e.item) es (record { handle = c.add-handle.result; item = c.stamped.result } ∷ [])
    ∙ ap (λ i. items_of item_of es ++ i ∷ []) c.stamped.ensures.same_item in
    let none : is_some (handle_of id (id c.args.item) es) ≡ false = search rules in
    let long : c.len.result ≡ length es = search rules in (
      ap (λ k. is_live k (items_of item_of es)) (laws c.args.item) ∙ live_found id item_of laws (id c.args.item) es ∙ none,
      omega (arith, c.if-is_full.false, long, as_many_items item_of es, ap (λ k. k.most_items) c.self.view_is),
      items,
    )

pub returns-then-is_err-clause-cost : goal.returns-then-is_err-clause-cost
returns-then-is_err-clause-cost g c =
    let l = c.self.inside in
    let n = length l.directory.entries in
    let same : c.chain-2.result.now.entries ≡ l.directory.entries = search rules in
    let level = greatest_level n in
    let light : 2 * n + 10 < 2 ^ (level + 1) = greatest-light n (omega (arith, c.self.invariant.2, c.self.invariant.3)) in
    subst (λ k. IsInBounds Adds (g.X.Indexes.rates k.indexes) (length k.entries) c.args.steps.now c.prepare.new.steps) c.self.view_is
    (refused-cost (g.X.Indexes.rates l.indexes) level (c.prepare.ensures.cost.within level (omega (arith, light, ap length same))))

pub returns-clause-cost : goal.returns-clause-cost
returns-clause-cost g c =
    let l = c.self.inside in
    let n = length l.directory.entries in
    let same : c.chain-2.result.now.entries ≡ l.directory.entries = search rules in
    let all : c.chain-3.result.now.entries ≡ l.directory.entries ++ record { handle = c.add-handle.result; item = c.stamped.result } ∷ [] = search rules in
    let more : length c.chain-3.result.now.entries ≡ n + 1 =
    ap length all ∙ length-append l.directory.entries (record { handle = c.add-handle.result; item = c.stamped.result } ∷ []) in
    let level = greatest_level n in
    let light : 2 * n + 10 < 2 ^ (level + 1) = greatest-light n (omega (arith, c.self.invariant.2, c.self.invariant.3)) in
    subst (λ k. IsInBounds Adds (g.X.Indexes.rates k.indexes) (length k.entries) c.args.steps.now c.insert.new.steps) c.self.view_is
    (added-cost (g.X.Indexes.rates l.indexes) level (c.prepare.ensures.cost.within level (omega (arith, light, ap length same)))
    (subst (λ rs. IsShared (insert_turns level) (insert_marks level) rs level c.prepare.new.steps c.insert.new.steps) c.prepare.ensures.there
    (c.insert.ensures.cost.within level (omega (arith, light, more)))))

pub returns-clause-told : goal.returns-clause-told
returns-clause-told g c =
    let l = c.self.inside in
    let n = length l.directory.entries in
    let rates = g.X.Indexes.rates c.args.self.now.indexes in
    let same : c.chain-2.result.now.entries ≡ l.directory.entries = search rules in
    let prepared = c.prepare.ensures.cost.within (greatest_level n) (omega (arith, ap length same, greatest-light n (omega (arith, c.self.invariant.2, c.self.invariant.3)))) in
    let later : c.args.steps.now.turns ≤ c.prepare.new.steps.turns = omega (arith, prepared.spent.turns_spent) in
    let waits = g.X.Indexes.waits c.args.self.now.indexes in
    let there : ready_count (g.X.Indexes.waits c.prepare.new.self) ≡ ready_count waits =
    ap ready_count c.prepare.ensures.waits ∙ ap (λ k. ready_count (g.X.Indexes.waits k.indexes)) c.self.view_is in
    let some_turns : c.args.steps.now.turns + 3 * ready_count waits ≤ c.insert.new.steps.turns = omega (arith, later, c.insert.ensures.some_turns, there) in
    let cost : IsInBounds Adds rates (length c.args.self.now.entries) c.args.steps.now c.insert.new.steps = returns-clause-cost g c in
    IsTold-of Adds rates waits (length c.args.self.now.entries) c.bounds-bounds.result.turns c.bounds-bounds.result.marks cost c.requires.lap
    c.bounds-bounds.ensures.turns c.bounds-bounds.ensures.marks c.bounds-bounds.ensures.few_turns c.bounds-bounds.ensures.few_marks (λ adds. some_turns) c.spent.ensures

pub returns-then-is_full-clause-kept : goal.returns-then-is_full-clause-kept
returns-then-is_full-clause-kept g c =
    KeepsMemory-same {T = Spent} (Err c.fault_when_full.result) (g.X.Indexes.memory c.args.self.now.indexes)

pub returns-then-not-branch-clause-kept : goal.returns-then-not-branch-clause-kept
returns-then-not-branch-clause-kept g c = ap (λ k. g.X.Indexes.memory k.indexes) c.self.view_is

pub returns-in_err-prepare_add-clause-kept : goal.returns-in_err-prepare_add-clause-kept
returns-in_err-prepare_add-clause-kept g c =
    subst (λ k. KeepsMemory c.from_residual.result (g.X.Indexes.memory k.indexes) (g.X.Indexes.memory c.self.inside.indexes)) c.self.view_is
    (KeepsMemory-same c.from_residual.result (g.X.Indexes.memory c.self.inside.indexes))

pub returns-then-is_err-clause-kept : goal.returns-then-is_err-clause-kept
returns-then-is_err-clause-kept g c =
    subst (λ k. Each IsReadied (g.X.Indexes.memory k.indexes) (g.X.Indexes.memory c.prepare.new.self)) c.self.view_is c.prepare.ensures.kept

pub returns-clause-kept : goal.returns-clause-kept
returns-clause-kept g c =
    subst (λ k. Each LosesOne (g.X.Indexes.memory k.indexes) (g.X.Indexes.memory c.insert.new.self)) c.self.view_is
    (loses_one (g.X.Indexes.memory c.self.inside.indexes) (g.X.Indexes.memory c.prepare.new.self) (g.X.Indexes.memory c.insert.new.self)
    c.prepare.ensures.kept c.insert.ensures.held)

pub returns-in_err-prepare_add-clause-waits : goal.returns-in_err-prepare_add-clause-waits
returns-in_err-prepare_add-clause-waits g c =
    let refused : c.from_residual.result ≡ Err faults.NoMemory = search rules in
    let waits = g.X.Indexes.waits c.args.self.now.indexes in
    subst (IsWaiting true (g.X.Item.Shaped.item_of c.args.item).id (items_of g.X.Item.Shaped.item_of c.args.self.now.entries) waits (g.X.Indexes.waits c.self.inside.indexes)) (sym refused)
    (ap (λ k. g.X.Indexes.waits k.indexes) c.self.view_is)

pub returns-clause-waits : goal.returns-clause-waits
returns-clause-waits g c =
    let id = g.X.Item.Named.id in
    let item_of = g.X.Item.Shaped.item_of in
    let laws = g.met.X.Item.Shaped.same_id in
    let l = c.self.inside in
    let es = l.directory.entries in
    let handle = c.add-handle.result in
    let e : Entry g.row.X-Item.Denot = record { handle = handle; item = c.stamped.result } in
    let all : c.chain-3.result.now.entries ≡ es ++ e ∷ [] = search rules in
    let differ : HandlesDiffer c.chain-3.result.now.entries = search rules in
    let apart = Apart-parts es (e ∷ []) (subst HandlesDiffer all differ) in
    let dead : is_some (handle_of id (id c.args.item) es) ≡ false = search rules in
    c.insert.ensures.waits es c.stamped.result all
    ∙ ap (all_after (wait_by true handle es)) c.prepare.ensures.waits
    ∙ waits_come id item_of laws (id c.args.item) handle es (apart.back_only handle (linked_head e [])) (none_found (handle_of id (id c.args.item) es) dead)
    (g.X.Indexes.waits l.indexes)
    ∙ ap (λ k. all_after (wait_after true k (items_of item_of es)) (g.X.Indexes.waits l.indexes)) (sym (laws c.args.item))
    ∙ ap (λ k. all_after (wait_after true (item_of c.args.item).id (items_of item_of k.entries)) (g.X.Indexes.waits k.indexes)) c.self.view_is
