use Rattle.std.proofs.Common.{[], List, ap, ◌∙◌, sym, arith}
use Rattle.std.specs.List.{sum_by, slice_get}
use Rattle.std.specs.Option.{option_to_list}
use Rattle.std.proofs.lemmas.List.Sums.{sum_by-cons}
use Rattle.map_shapes.specs.declared.point.Point.{Point}
use Rattle.range_tree.proofs.scanning.weigh_at.Goals as goal

pub returns-clause-sum : goal.returns-clause-sum
returns-clause-sum g c =
    let p = c.at.result in
    let at = ap (λ (l : List Point). slice_get l c.args.place) (sym c.items.ensures.value) ∙ c.at.ensures.read in
    omega (
      arith,
      ap (λ o. sum_by (λ (q : Point). q.w) (option_to_list o)) at,
      sum_by-cons (λ (q : Point). q.w) p [],
    )
