use Rattle.std.proofs.Common.{rules, ◌≡◌, ◌∙◌, None, Some, ap, sym}
use Rattle.std.specs.Option.{option_map}
use Rattle.id_chain.specs.Chain.{HandlesDiffer}
use Rattle.id_directory.specs.Directory.{handle_of}
use Rattle.map_shapes.specs.Shape.{model_shape}
use Rattle.map_model.specs.State.{shape_of}
use Rattle.layer_kinds.specs.Layered.{items_of}
use Rattle.layer_kinds.proofs.Items.{linked_found, shape_found, shape_not_found}
use Rattle.layer_kinds.proofs.kind_layer.KindLayer.get.Goals as goal

pub returns-in_err-handle : goal.returns-in_err-handle
returns-in_err-handle g c =
    let id = g.X.Item.Named.id in
    let none : handle_of id c.args.id c.args.self.now.entries ≡ None = search rules in
    let given : c.from_residual.result ≡ None = search rules in
    ap (option_map model_shape) given ∙ sym (shape_not_found id g.X.Item.Shaped.item_of g.met.X.Item.Shaped.same_id c.args.id c.args.self.now.entries none)

pub item-item-requires : goal.item-item-requires
item-item-requires g c =
    let id = g.X.Item.Named.id in
    let found : handle_of id c.args.id c.chain.result.now.entries ≡ Some c.in_ok-handle.handle = search rules in
    linked_found id c.args.id c.in_ok-handle.handle c.chain.result.now.entries found

pub returns : goal.returns
returns g c =
    let id = g.X.Item.Named.id in
    let item_of = g.X.Item.Shaped.item_of in
    let es = c.chain.result.now.entries in
    let found : handle_of id c.args.id es ≡ Some c.in_ok-handle.handle = search rules in
    let same : es ≡ c.args.self.now.entries = search rules in
    let differ : HandlesDiffer es = search rules in
    let shape = shape_found id item_of g.met.X.Item.Shaped.same_id c.args.id c.in_ok-handle.handle c.item-item.result es differ found c.item-item.ensures.item in
    ap Some c.shape.ensures ∙ sym (ap (λ xs. shape_of c.args.id (items_of item_of xs)) (sym same) ∙ shape)
