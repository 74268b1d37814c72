use Rattle.std.proofs.Common.{◌∙◌, ap, refl}
use Rattle.range_tree.specs.declared.growing.Carried.{Carried}
use Rattle.range_tree.specs.Heights.{rows_to}
use Rattle.range_tree.proofs.Standing.{standing_last}
use Rattle.range_tree.proofs.rows.RangeTree.place_of.Goals as goal

pub fall-k-requires-clause-standing : goal.fall-k-requires-clause-standing
fall-k-requires-clause-standing g c = (c.requires.standing.0, c.requires.standing.1, c.args.self.now.source.items, c.requires.standing.2)

pub at-requires : goal.at-requires
at-requires g c =
    let rows = c.args.self.now in
    (standing_last c.requires.standing.0 c.requires.standing.1 rows.height (rows_to rows.height) c.fall-k.result rows.ranks rows.source.items
    (c.fall-k.ensures.there c.requires.standing.0 c.requires.standing.1 rows.source.items c.requires.standing.2) refl).0

pub returns-clause-place : goal.returns-clause-place
returns-clause-place g c part place standing =
    let rows = c.args.self.now in
    let last = standing_last part place rows.height (rows_to rows.height) c.fall-k.result rows.ranks rows.source.items (c.fall-k.ensures.there part place rows.source.items standing) refl in
    ap (λ (x : Carried). x.place) c.at.ensures.read_or ∙ last.1 c.at.result
