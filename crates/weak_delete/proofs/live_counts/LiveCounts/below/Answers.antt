use Rattle.std.proofs.Common.{◌≡◌, ◌*◌, ◌^◌, arith, ap, subst}
use Rattle.row_blocks.proofs.Blocks.{pow_height_at-le}
use Rattle.weak_delete.specs.Fenwick.{IsOver}
use Rattle.weak_delete.proofs.Nodes.{IsOver-joined, IsOver-joined_fits}
use Rattle.weak_delete.proofs.Descents.{IsDescent-begin, IsDescent-next}
use Rattle.weak_delete.proofs.live_counts.LiveCounts.below.Goals as goal

pub loop-end-init : goal.loop-end-init
loop-end-init g c = record { within = omega arith; over = record { count = omega arith; weight = omega arith }; descent = IsDescent-begin _ _ }

pub overflow_sub-start : goal.overflow_sub-start
overflow_sub-start g c =
    omega (arith, pow_height_at-le c.loop-end.end (omega arith) (omega arith), ap (λ i. 2 ^ i) c.height_at.ensures.value, c.block_len.ensures)

pub half-node-requires-clause-half : goal.half-node-requires-clause-half
half-node-requires-clause-half g c =
    omega (arith, pow_height_at-le c.loop-end.end (omega arith) (omega arith), ap (λ i. 2 ^ i) c.height_at.ensures.value, c.block_len.ensures)

pub plus-sum-requires-clause-count : goal.plus-sum-requires-clause-count
plus-sum-requires-clause-count g c =
    let node = c.half-node.ensures in (IsOver-joined_fits _ _ c.loop-end.invariant.over node.over node.few node.light).0

pub plus-sum-requires-clause-weight : goal.plus-sum-requires-clause-weight
plus-sum-requires-clause-weight g c =
    let node = c.half-node.ensures in (IsOver-joined_fits _ _ c.loop-end.invariant.over node.over node.few node.light).1

pub loop-end-preserved : goal.loop-end-preserved
loop-end-preserved g c =
    let kept = c.loop-end.invariant in
    let le = pow_height_at-le c.loop-end.end (omega arith) (omega arith) in
    record {
      within = omega (arith, kept.within);
      over = rw c.plus-sum.ensures (IsOver-joined c.loop-end.sum c.half-node.result kept.over c.half-node.ensures.over);
      descent = IsDescent-next _ kept.descent c.half-node.ensures.cost (omega arith) (omega arith)
          (omega (arith, le, ap (λ i. 2 ^ i) c.height_at.ensures.value, c.block_len.ensures));
    }

pub returns-clause-over : goal.returns-clause-over
returns-clause-over g c =
    let none : c.loop-end.end ≡ 0 = omega (arith, c.loop-end-test.false) in
    subst (λ n. IsOver c.args.self.now.places (16 * n) (16 * c.args.entry) c.loop-end.sum) none c.loop-end.invariant.over
