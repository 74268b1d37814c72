use Rattle.std.proofs.Common.{rules, ◌≡◌, ◌∙◌, None, Some, ap, sym, arith}
use Rattle.std.specs.Option.{option_map}
use Rattle.map_model.specs.State.{shape_of}
use Rattle.map_model.specs.Refusal as refusals
use Rattle.map_model.specs.Machine.{got, get_from, refused}
use Rattle.map_shapes.specs.Shape.{model_shape}
use Rattle.map_layers.specs.Layer.{items_in}
use Rattle.map_layers.specs.Layers.{map_of, named}
use Rattle.map_layers.proofs.Names.{layer_named-Some, layer_named-None}
use Rattle.map_layers.proofs.layers.Layers.get.Goals as goal

pub returns-in_default : goal.returns-in_default
returns-in_default g c =
    let none : named c.args.name.now c.args.self.now.layers ≡ None = search rules in
    record { answered = ap (get_from (map_of c.args.self.now) c.args.id) (layer_named-None c.args.name.now c.args.self.now.layers none) }

pub returns-in-Some-get : goal.returns-in-Some-get
returns-in-Some-get g c =
    let l = c.in-Some.layer.now in
    let found : named c.args.name.now c.args.self.now.layers ≡ Some l = search rules in
    let here = layer_named-Some c.args.name.now c.args.self.now.layers found in
    let shape : shape_of c.args.id (items_in l) ≡ Some (model_shape c.in-Some-get.shape) =
    sym c.get.ensures ∙ ap (option_map model_shape) c.in-Some-get.is in
    record { answered = ap (get_from (map_of c.args.self.now) c.args.id) here ∙ ap (got (map_of c.args.self.now) c.args.id) shape }

pub returns-in-None : goal.returns-in-None
returns-in-None g c =
    let l = c.in-Some.layer.now in
    let found : named c.args.name.now c.args.self.now.layers ≡ Some l = search rules in
    let here = layer_named-Some c.args.name.now c.args.self.now.layers found in
    let none : shape_of c.args.id (items_in l) ≡ None = sym c.get.ensures ∙ ap (option_map model_shape) c.in-None.is in
    record {
      answered = ap (get_from (map_of c.args.self.now) c.args.id) here ∙ ap (got (map_of c.args.self.now) c.args.id) none
          ∙ ap (λ id. refused (map_of c.args.self.now) (refusals.Unknown id)) (omega arith);
    }
