use Rattle.std.proofs.Common.{◌≡◌, ◌+◌, ◌-◌, ◌*◌, ◌^◌, arith, ap, subst}
use Rattle.row_blocks.specs.Blocks.{height_at}
use Rattle.row_blocks.proofs.Blocks.{pow_height_at-le}
use Rattle.weak_delete.specs.declared.live_counts.Node.{Node}
use Rattle.weak_delete.specs.Fenwick.{IsOver}
use Rattle.weak_delete.proofs.Nodes.{before-le, IsOver-less}
use Rattle.weak_delete.proofs.live_counts.LiveCounts.own_node.Goals as goal

pub overflow_sub-start : goal.overflow_sub-start
overflow_sub-start g c =
    omega (arith, pow_height_at-le (c.args.entry + 1) (omega arith) (omega arith), ap (λ i. 2 ^ i) c.height_at.ensures.value, c.block_len.ensures)

pub minus-requires-clause-count : goal.minus-requires-clause-count
minus-requires-clause-count g c = (before-le _ _ _ _ c.whole-whole.ensures.over c.whole-before.ensures.over (omega arith)).0

pub minus-requires-clause-weight : goal.minus-requires-clause-weight
minus-requires-clause-weight g c = (before-le _ _ _ _ c.whole-whole.ensures.over c.whole-before.ensures.over (omega arith)).1

pub returns-clause-over : goal.returns-clause-over
returns-clause-over g c =
    let from : c.args.entry + 1 - c.block_len.result ≡ c.args.entry + 1 - 2 ^ height_at (c.args.entry + 1) = omega (arith, ap (λ i. 2 ^ i) c.height_at.ensures.value, c.block_len.ensures) in
    subst (λ n. IsOver c.args.self.now.places (16 * n) (16 * (c.args.entry + 1)) c.minus.result) from
    (IsOver-less _ _ _ _ c.minus.result c.whole-whole.ensures.over c.whole-before.ensures.over (omega arith) (ap (λ (n : Node). n.count) c.minus.ensures) (ap (λ (n : Node). n.weight) c.minus.ensures))
