use Rattle.std.proofs.Common.{sym, subst}
use Rattle.std.proofs.lemmas.Option.{get_or_from_slice_get}
use Rattle.kd_tree.specs.Areas.{Has}
use Rattle.kd_tree.proofs.block.Block.child.Goals as goal

pub returns-clause-far : goal.returns-clause-far
returns-clause-far c area spot at has within =
    c.of.ensures.far spot (subst (λ a. Has a spot) (sym (get_or_from_slice_get c.args.areas.now c.args.c area _ at)) has) within
