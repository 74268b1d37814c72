use Rattle.std.proofs.Common.{◌≡◌, ◌++◌, ◌∷◌, [], List, Some, length, map, sym, ap, ◌∙◌, append_assoc, slice_get}
use Rattle.std.proofs.lemmas.List.{length_push, map_push}
use Rattle.map_shapes.specs.declared.segment.Segment.{Segment}
use Rattle.interval_tree.specs.Queries.{hits_before}
use Rattle.interval_tree.proofs.trees.Trees.list_next.Goals as goal

pub returns-clause-one : goal.returns-clause-one
returns-clause-one g c =
    let at : slice_get c.args.segments.now.items c.in-Some.place ≡ Some c.at.result =
    ap (λ l. slice_get l c.in-Some.place) (sym c.items.ensures.value) ∙ c.at.ensures.read in
    ap length (c.in-Some.ensures.next c.at.result at) ∙ length_push (hits_before c.args.x c.args.segments.now c.args.from) c.at.result

pub returns-clause-listed : goal.returns-clause-listed
returns-clause-listed g c ids was =
    let at : slice_get c.args.segments.now.items c.in-Some.place ≡ Some c.at.result =
    ap (λ l. slice_get l c.in-Some.place) (sym c.items.ensures.value) ∙ c.at.ensures.read in
    let before : List Segment = hits_before c.args.x c.args.segments.now c.args.from in
    c.in_ok-push.ensures.pushed ∙ ap (λ t. t ++ c.at.result.id ∷ []) was
    ∙ append_assoc ids (map (λ (s : Segment). s.id) before) (c.at.result.id ∷ [])
    ∙ ap (λ l. ids ++ l) (sym (map_push (λ (s : Segment). s.id) before c.at.result))
    ∙ ap (λ (l : List Segment). ids ++ map (λ (s : Segment). s.id) l) (sym (c.in-Some.ensures.next c.at.result at))
