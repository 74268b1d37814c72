use Rattle.log_method.proofs.Forecasting.{IsKept-refl, IsKept-then}
use Rattle.log_method.proofs.preparing.add_levels.Goals as goal

pub is_short-requires-clause-levels : goal.is_short-requires-clause-levels
is_short-requires-clause-levels g c = rw c.deref.ensures.value (c.loop-alloc.invariant.levels _ c.requires.levels)

pub is_short-requires-clause-few : goal.is_short-requires-clause-few
is_short-requires-clause-few g c = rw c.deref.ensures.value (c.loop-alloc.invariant.few c.requires.few)

pub add_level-requires-clause-levels : goal.add_level-requires-clause-levels
add_level-requires-clause-levels g c = c.loop-alloc.invariant.levels _ c.requires.levels

pub add_level-requires-clause-few : goal.add_level-requires-clause-few
add_level-requires-clause-few g c = rw c.deref.ensures.value at (c.is_short.ensures.wanted c.loop-alloc-test.true)

pub loop-alloc-preserved : goal.loop-alloc-preserved
loop-alloc-preserved g c = IsKept-then _ c.loop-alloc.invariant c.add_level.ensures.kept

pub returns-in_err-add_level-clause-kept : goal.returns-in_err-add_level-clause-kept
returns-in_err-add_level-clause-kept g c = IsKept-then _ c.loop-alloc.invariant c.add_level.ensures.kept

pub returns-clause-enough : goal.returns-clause-enough
returns-clause-enough g c = rw c.deref.ensures.value at (c.is_short.ensures.enough c.loop-alloc-test.false)

pub loop-alloc-init : goal.loop-alloc-init
loop-alloc-init g c = IsKept-refl _ c.args.levels.now.items
