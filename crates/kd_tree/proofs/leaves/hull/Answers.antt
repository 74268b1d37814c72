use Rattle.std.proofs.Common.{false, Some, arith, subst, ap, ◌∙◌}
use Rattle.std.proofs.lemmas.Option.{get_or_from_slice_get, slice_get-get_or}
use Rattle.kd_tree.specs.Areas.{Has}
use Rattle.kd_tree.proofs.LeafLemmas.{HasLive-more}
use Rattle.kd_tree.proofs.leaves.hull.Goals as goal

pub loop-slot-init : goal.loop-slot-init
loop-slot-init c = record { has = λ slot spot below flag at. absurd (omega arith); least = λ all box has. c.nothing-area.ensures all box }

pub loop-slot-preserved : goal.loop-slot-preserved
loop-slot-preserved c =
    let slot = c.loop-slot.slot in
    record {
      has = HasLive-more c.args.spots.now c.args.live.now slot c.loop-slot.area c.with_live-area.result c.loop-slot.invariant.has c.with_live-area.ensures.kept
          (λ spot flag at.
          subst (Has c.with_live-area.result) (get_or_from_slice_get c.args.spots.now slot spot _ at)
          (c.with_live-area.ensures.more (get_or_from_slice_get c.args.live.now slot _ _ flag)));
      least = λ all box has.
          c.with_live-area.ensures.least all (c.loop-slot.invariant.least all box (λ other spot below flag at. has other spot (omega arith) flag at))
          (λ live.
          has slot _ (omega arith) (slice_get-get_or c.args.live.now slot false (omega (arith, c.told-live, c.loop-slot-test.true, c.requires)) ∙ ap Some live)
          (slice_get-get_or c.args.spots.now slot _ (omega (arith, c.told-spots, c.loop-slot-test.true, c.requires))));
    }
