use Rattle.std.proofs.Common.{arith, ap, length, slice_get, sym, ◌∙◌}
use Rattle.std.proofs.lemmas.Option.{slice_get_within, same_Some}
use Rattle.kd_tree.proofs.placing.Placing.position_of.Goals as goal

pub returns-clause-within : goal.returns-clause-within
returns-clause-within g c =
    let stands = c.self.invariant.found c.args.place c.at.result c.at.ensures.read in
    omega (arith, ap (λ e. length e.items) c.self.view_is, slice_get_within c.self.inside.order.items c.at.result c.args.place stands)

pub returns-clause-only : goal.returns-clause-only
returns-clause-only g c other at =
    same_Some other c.at.result (sym (c.self.invariant.stands other c.args.place (ap (λ e. slice_get e.items other) c.self.view_is ∙ at)) ∙ c.at.ensures.read)
