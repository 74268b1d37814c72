use Rattle.std.proofs.Common.{◌∙◌, ap}
use Rattle.map_model.specs.Answer.{latest}
use Rattle.layer_kinds.specs.Layered.{items_of}
use Rattle.layer_kinds.proofs.Items.{latest_ids}
use Rattle.layer_kinds.proofs.kind_layer.KindLayer.recent.Goals as goal

pub returns : goal.returns
returns g c =
    let item_of = g.X.Item.Shaped.item_of in
    c.recent.ensures ∙ latest_ids g.X.Item.Named.id item_of g.met.X.Item.Shaped.same_id c.args.k c.self.inside.directory.entries
    ∙ ap (λ v. latest c.args.k (items_of item_of v.entries)) c.self.view_is
