use Rattle.std.proofs.Common.{ℕ, List, [], ◌∷◌, ◌++◌, sym, ap, ◌∙◌}
use Rattle.map_shapes.specs.Ascending.{sorted_ids}
use Rattle.map_shapes.specs.AscendingLaws.{sorted_ids-append_left}
use Rattle.map_shapes.proofs.id_tally.IdTally.push.Goals as goal

-- the vector has one more, and the ones before may be sorted first
pub returns-clause-joined : goal.returns-clause-joined
returns-clause-joined c =
    ap sorted_ids (c.in_ok-push.ensures.items ∙ ap (λ (ids : List ℕ). ids ++ c.args.id ∷ []) c.self.view_is)
    ∙ sym (sorted_ids-append_left c.args.self.now (c.args.id ∷ []))
