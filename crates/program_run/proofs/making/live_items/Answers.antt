use Rattle.std.proofs.Common.{◌∙◌, List, ℕ, subst}
use Rattle.map_layers.specs.Layers.{LayersState, map_of}
use Rattle.map_layers.specs.Replies.{questioned, IsAnswered}
use Rattle.map_model.specs.Command.{Size}
use Rattle.map_model.specs.Reply.{Sized}
use Rattle.map_session.specs.Session.{map_in}
use Rattle.program_run.proofs.MadeCommands.{live_by}
use Rattle.program_run.proofs.making.live_items.Goals as goal

pub returns : goal.returns
returns c =
    let reply = questioned Sized c.size.result in
    let of_made = subst (λ (name : List ℕ). IsAnswered (map_of c.layers.result.now) (Size name) (map_of c.layers.result.now) reply) c.layer_name.ensures c.size.ensures.answered in
    let in_session = subst (λ (layers : LayersState). IsAnswered (map_of layers) (Size _) (map_of layers) reply) c.layers.ensures of_made in
    c.unwrap_or.ensures ∙ live_by (map_in c.args.session.now) c.size.result in_session
