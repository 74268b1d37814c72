use Rattle.std.proofs.Common.{◌≡◌, false}
use Rattle.map_model.specs.Cost.{Drops}
use Rattle.layer_kinds.specs.Layered.{items_of}
use Rattle.map_layers.proofs.LayerSeen.{has_waited, removed_from, keeps_memory, costs, told}
use Rattle.map_layers.proofs.layer.remove_from.Goals as goal

pub returns-clause-removed : goal.returns-clause-removed
returns-clause-removed g c =
    let item_of = g.X.Item.Shaped.item_of in
    let held = g.X.NamedIndexes.held in
    let old = c.args.layer.now in
    let new = c.remove.new.self in
    let e = c.remove.ensures in
    let r = c.remove.result in
    rw c.in_map.ensures
    (removed_from g.X.Item.Shaped.kind item_of held old new e.name (g.met.X.NamedIndexes.by_rates new.indexes old.indexes e.there) c.args.id r e.removed e.adds
    (has_waited g.X.Item.Shaped.kind item_of held g.X.Indexes.waits g.met.X.NamedIndexes.by_waits false c.args.id (items_of item_of old.entries) old.indexes new.indexes r e.waits))

pub returns-clause-kept : goal.returns-clause-kept
returns-clause-kept g c = rw c.in_map.ensures (keeps_memory c.remove.result (g.X.Indexes.memory c.args.layer.now.indexes) (g.X.Indexes.memory c.remove.new.self.indexes) c.remove.ensures.kept)

pub returns-clause-cost : goal.returns-clause-cost
returns-clause-cost g c =
    let item_of = g.X.Item.Shaped.item_of in
    let held = g.X.NamedIndexes.held in
    let old = c.args.layer.now in
    let new = c.remove.new.self in
    let e = c.remove.ensures in
    let r = c.remove.result in
    rw c.in_map.ensures (costs g.X.Item.Shaped.kind item_of held old (g.X.Indexes.rates old.indexes) (g.met.X.NamedIndexes.sums old.indexes) Drops r c.args.steps.now c.remove.new.steps e.cost)

pub returns-clause-told : goal.returns-clause-told
returns-clause-told g c =
    let item_of = g.X.Item.Shaped.item_of in
    let held = g.X.NamedIndexes.held in
    let old = c.args.layer.now in
    let new = c.remove.new.self in
    let e = c.remove.ensures in
    let r = c.remove.result in
    rw c.in_map.ensures
    (told g.X.Item.Shaped.kind item_of held old (g.X.Indexes.rates old.indexes) (g.met.X.NamedIndexes.sums old.indexes) Drops (g.X.Indexes.waits old.indexes) (g.met.X.NamedIndexes.ready old.indexes)
    c.args.steps.now c.remove.new.steps r e.told)
