-- What one item makes of a list of identifiers.
use Rattle.std.proofs.Common.{◌≡◌, ℕ, Bool, false, List, [], ◌∷◌, map, cond, sym, ap, ◌∙◌}
use Rattle.std.specs.Prelude.{nat_le}
use Rattle.map_model.specs.Shape.{Shape}
use Rattle.map_model.specs.State.{Item}
use Rattle.map_model.specs.Found.{sorted_by}
use Rattle.map_model.specs.Answer.{ids_with}
use Rattle.map_shapes.specs.Ascending.{sorted_ids, sorted_union}
use Rattle.map_shapes.specs.AscendingLaws.{IsNonDecreasing-sorted_ids, IsDecomposable-sorted_ids}

-- one that doesn't pass adds nothing
pub sorted_union-without : (test : Shape → Bool) (ids : List ℕ) (item : Item) → test item.shape ≡ false
    → sorted_ids ids ≡ sorted_union (sorted_ids ids) (ids_with test (item ∷ []))
sorted_union-without test ids item fails =
    sym (IsDecomposable-sorted_ids.neutral (sorted_ids ids) (IsNonDecreasing-sorted_ids ids))
    ∙ ap (λ b. sorted_union (sorted_ids ids) (sorted_by nat_le (map (λ i. i.id) (cond b (item ∷ []) [])))) (sym fails)
