use Rattle.std.proofs.Common.{◌++◌, List, map, ap, ◌∙◌, sym}
use Rattle.std.specs.List.{slice_get}
use Rattle.std.specs.Option.{option_to_list}
use Rattle.std.proofs.lemmas.Result.{on_ok_weaker}
use Rattle.map_shapes.specs.declared.point.Point.{Point}
use Rattle.range_tree.proofs.scanning.list_at.Goals as goal

pub returns-clause-listed : goal.returns-clause-listed
returns-clause-listed g c =
    let at = ap (λ (l : List Point). slice_get l c.args.place) (sym c.items.ensures.value) ∙ c.at-item.ensures.read in
    on_ok_weaker c.push.result (λ pushed. pushed ∙ ap (λ o. c.args.tally.now ++ map (λ (q : Point). q.id) (option_to_list o)) (sym at)) c.push.ensures.pushed
