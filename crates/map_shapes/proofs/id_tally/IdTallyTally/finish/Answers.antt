use Rattle.std.proofs.Common.{sym, ap, ◌∙◌, subst}
use Rattle.std.specs.List.Sorted.{IsNonDecreasing}
use Rattle.std.proofs.lemmas.List.Sorted.{IsNonDecreasingBy-from_sort}
use Rattle.map_shapes.specs.Ascending.{sorted_ids}
use Rattle.map_shapes.specs.AscendingLaws.{sorted_ids-IsPermutation}
use Rattle.map_shapes.proofs.id_tally.IdTallyTally.finish.Goals as goal

pub returns-clause-answer : goal.returns-clause-answer
returns-clause-answer c =
    let sorted = IsNonDecreasingBy-from_sort (λ x. x) c.sort_unstable.new.self.items c.sort_unstable.ensures.sorted in
    c.from.ensures ∙ sym (sorted_ids-IsPermutation _ _ c.sort_unstable.ensures.permutation sorted) ∙ ap sorted_ids c.self.view_is

pub returns-clause-ascending : goal.returns-clause-ascending
returns-clause-ascending c =
    subst IsNonDecreasing (sym c.from.ensures)
    (IsNonDecreasingBy-from_sort (λ x. x) c.sort_unstable.new.self.items c.sort_unstable.ensures.sorted)
