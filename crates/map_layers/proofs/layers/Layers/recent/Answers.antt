use Rattle.std.proofs.Common.{rules, ◌≡◌, ◌∙◌, None, Some, ap, sym}
use Rattle.map_model.specs.Reply as replies
use Rattle.map_model.specs.Machine.{replied, recent_of}
use Rattle.map_layers.specs.Layers.{map_of, named}
use Rattle.map_layers.proofs.Names.{layer_named-Some, layer_named-None}
use Rattle.map_layers.proofs.layers.Layers.recent.Goals as goal

pub returns-in-Some : goal.returns-in-Some
returns-in-Some g c =
    let l = c.in-Some.layer.now in
    let found : named c.args.name.now c.args.self.now.layers ≡ Some l = search rules in
    let here = layer_named-Some c.args.name.now c.args.self.now.layers found in
    record {
      answered = ap (recent_of (map_of c.args.self.now) c.args.k) here
          ∙ ap (λ ids. replied (map_of c.args.self.now) (replies.Latest ids)) (sym c.recent.ensures);
    }

pub returns-in-None : goal.returns-in-None
returns-in-None g c =
    let none : named c.args.name.now c.args.self.now.layers ≡ None = search rules in
    record { answered = ap (recent_of (map_of c.args.self.now) c.args.k) (layer_named-None c.args.name.now c.args.self.now.layers none) }
