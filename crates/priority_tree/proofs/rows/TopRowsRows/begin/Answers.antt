use Rattle.std.proofs.Common.{◌≡◌, ◌+◌, ◌/◌, ◌^◌, length, arith, ap, ◌∙◌}
use Rattle.row_blocks.specs.Heights.{height_of}
use Rattle.priority_tree.proofs.Beginnings.{above_height, IsGrowing-begun, IsQuota-begun}
use Rattle.priority_tree.proofs.rows.TopRowsRows.begin.Goals as goal

pub overflow_sub-self : goal.overflow_sub-self
overflow_sub-self c = omega (arith, above_height c.height_of-self.result, c.pow.ensures)

pub returns-clause-growing : goal.returns-clause-growing
returns-clause-growing c =
    let value = c.len.ensures.value in
    IsGrowing-begun c.args.points.now c.args.self.now.heap c.requires.putting.0 c.requires.valid.few c.height_of-self.result
    (omega (arith, value, c.height_of-self.ensures.above)) (λ h within. c.height_of-self.ensures.least h (omega (arith, value, within)))
    _ (omega (arith, c.pow.ensures))

pub returns-clause-turns : goal.returns-clause-turns
returns-clause-turns c =
    let filling = c.requires.putting.0 in
    let leaves : c.len.result ≡ (length c.args.points.now.items + 15) / 16 = omega (arith, c.len.ensures.value, filling.leaves_enough, filling.leaves_few) in
    let height : c.height_of-self.result ≡ height_of ((length c.args.points.now.items + 15) / 16) = c.height_of-self.ensures.value ∙ ap height_of leaves in
    omega (arith, c.pow.ensures, height, ap (λ h. 2 ^ h) height)

pub returns-clause-quota : goal.returns-clause-quota
returns-clause-quota c =
    let value = c.len.ensures.value in
    let quota = IsQuota-begun c.args.points.now c.args.self.now.heap c.requires.putting.0 c.requires.valid.few c.height_of-self.result
    (omega (arith, value, c.height_of-self.ensures.above)) (λ h within. c.height_of-self.ensures.least h (omega (arith, value, within))) in
    record { enough = omega (arith, quota.enough, c.pow.ensures); bounded = omega (arith, quota.bounded, c.pow.ensures) }
