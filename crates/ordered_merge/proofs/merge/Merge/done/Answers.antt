use Rattle.std.proofs.Common.{◌≡◌, arith, ap, sym, ◌∙◌}
use Rattle.std.proofs.lemmas.Bool.Decides.{nat_tests}
use Rattle.ordered_merge.proofs.MergingLemmas.{IsWhole-ended}
use Rattle.ordered_merge.proofs.merge.Merge.done.Goals as goal

pub returns-clause-whole : goal.returns-clause-whole
returns-clause-whole g c a b builder said valid other_valid merges =
    let none : c.self.inside.left ≡ 0 = grind (arith, nat_tests) in
    IsWhole-ended merges valid other_valid (sym (ap (λ m. m.left) c.self.view_is) ∙ none)
