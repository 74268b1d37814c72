use Rattle.std.proofs.Common.{◌≡◌, true, subst}
use Rattle.map_model.specs.Cost.{Adds}
use Rattle.map_model.specs.State.{Item}
use Rattle.map_shapes.specs.Shape.{model_shape}
use Rattle.layer_kinds.specs.Layered.{items_of, IsAdd, IsWaiting}
use Rattle.map_layers.proofs.LayerSeen.{has_waited, added_to, one_more, keeps_memory, costs, told}
use Rattle.map_layers.proofs.layer.add_to.Goals as goal

pub returns-in-Some-clause-added : goal.returns-in-Some-clause-added
returns-in-Some-clause-added g c =
    let item_of = g.X.Item.Shaped.item_of in
    let held = g.X.NamedIndexes.held in
    let old = c.args.layer.now in
    let new = c.add.new.self in
    let e = c.add.ensures in
    let r = c.add.result in
    let is = c.in-Some.ensures.1 in
    let done : IsAdd old.most_items (items_of item_of old.entries) (record { id = c.args.id; shape = model_shape c.args.shape }) (items_of item_of new.entries) r =
    subst (λ (i : Item). IsAdd old.most_items (items_of item_of old.entries) i (items_of item_of new.entries) r) is e.added in
    let waited : IsWaiting true c.args.id (items_of item_of old.entries) (g.X.Indexes.waits old.indexes) (g.X.Indexes.waits new.indexes) r =
    subst (λ (i : Item). IsWaiting true i.id (items_of item_of old.entries) (g.X.Indexes.waits old.indexes) (g.X.Indexes.waits new.indexes) r) is e.waits in
    rw c.in_map.ensures
    (added_to g.X.Item.Shaped.kind item_of held old new e.name (g.met.X.NamedIndexes.by_rates new.indexes old.indexes e.there) old.most_items (record { id = c.args.id; shape = model_shape c.args.shape }) r
    c.in-Some.ensures.0 done e.adds
    (has_waited g.X.Item.Shaped.kind item_of held g.X.Indexes.waits g.met.X.NamedIndexes.by_waits true c.args.id (items_of item_of old.entries) old.indexes new.indexes r waited))

pub returns-in-Some-clause-adds : goal.returns-in-Some-clause-adds
returns-in-Some-clause-adds g c = one_more c.add.result c.args.layer.now.adds c.add.new.self.adds c.add.ensures.adds

pub returns-in-Some-clause-kept : goal.returns-in-Some-clause-kept
returns-in-Some-clause-kept g c = rw c.in_map.ensures (keeps_memory c.add.result (g.X.Indexes.memory c.args.layer.now.indexes) (g.X.Indexes.memory c.add.new.self.indexes) c.add.ensures.kept)

pub returns-in-Some-clause-cost : goal.returns-in-Some-clause-cost
returns-in-Some-clause-cost g c =
    let item_of = g.X.Item.Shaped.item_of in
    let held = g.X.NamedIndexes.held in
    let old = c.args.layer.now in
    let new = c.add.new.self in
    let e = c.add.ensures in
    let r = c.add.result in
    rw c.in_map.ensures (costs g.X.Item.Shaped.kind item_of held old (g.X.Indexes.rates old.indexes) (g.met.X.NamedIndexes.sums old.indexes) Adds r c.args.steps.now c.add.new.steps e.cost)

pub returns-in-Some-clause-told : goal.returns-in-Some-clause-told
returns-in-Some-clause-told g c =
    let item_of = g.X.Item.Shaped.item_of in
    let held = g.X.NamedIndexes.held in
    let old = c.args.layer.now in
    let new = c.add.new.self in
    let e = c.add.ensures in
    let r = c.add.result in
    rw c.in_map.ensures
    (told g.X.Item.Shaped.kind item_of held old (g.X.Indexes.rates old.indexes) (g.met.X.NamedIndexes.sums old.indexes) Adds (g.X.Indexes.waits old.indexes) (g.met.X.NamedIndexes.ready old.indexes)
    c.args.steps.now c.add.new.steps r e.told)
