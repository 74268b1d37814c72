use Rattle.std.proofs.Common.{◌≡◌, ◌+◌, ◌*◌, ◌≤◌, length, sym, ap, ◌∙◌, arith}
use Rattle.std.proofs.Math.Nat.{mul-le-mul_right}
use Rattle.kd_tree.specs.declared.sorting.Sorting.{Sorting}
use Rattle.kd_tree.specs.Heights.{depth_for, nodes_in}
use Rattle.kd_tree.proofs.Puttings.{IsGrowing-begun, IsQuota-left}
use Rattle.kd_tree.proofs.rows.KdRowsRows.begin.Goals as goal

pub returns-clause-growing : goal.returns-clause-growing
returns-clause-growing c =
    let n = length c.args.points.now.items in
    let old : Sorting = c.args.self.now.sorting in
    let sorting : Sorting = c.begin.new.self in
    let begun = c.begin.ensures.begun in
    let kept : sorting ≡ record old { level = sorting.level; next = 0; counted = 0; by_first = sorting.by_first } =
    begun ∙ ap (λ l. record old { level = l; next = 0; counted = 0; by_first = sorting.by_first }) (sym (ap (λ (s : Sorting). s.level) begun)) in
    IsGrowing-begun c.args.points.now c.args.self.now c.requires.putting c.len-len.ensures.valid c.requires.complete sorting c.depth_for-depth.result
    _ (c.depth_for-depth.ensures.value ∙ ap depth_for c.len-len.ensures.value) kept
    (omega (arith, ap (λ (s : Sorting). s.level) begun, c.depth_for-depth.ensures.some))
    (omega (arith, c.begin.ensures.turns, ap (λ m. sorting.level * m) c.len-len.ensures.value, c.len-len.ensures.value, c.nodes_in.ensures.value))

pub returns-clause-turns : goal.returns-clause-turns
returns-clause-turns c =
    let n = length c.args.points.now.items in
    let depth : c.depth_for-depth.result ≡ depth_for n = c.depth_for-depth.ensures.value ∙ ap depth_for c.len-len.ensures.value in
    let level : c.begin.new.self.level + 1 ≡ depth_for n =
    omega (arith, ap (λ (s : Sorting). s.level) c.begin.ensures.begun, depth, c.depth_for-depth.ensures.some) in
    let product : c.begin.result ≡ c.begin.new.self.level * n = c.begin.ensures.turns ∙ ap (λ m. c.begin.new.self.level * m) c.len-len.ensures.value in
    omega (arith, product, ap (λ d. d * n) level, c.len-len.ensures.value, c.nodes_in.ensures.value, ap nodes_in depth)

pub returns-clause-quota : goal.returns-clause-quota
returns-clause-quota c =
    let b = c.args.points.now in
    let n = length b.items in
    let depth : c.depth_for-depth.result ≡ depth_for n = c.depth_for-depth.ensures.value ∙ ap depth_for c.len-len.ensures.value in
    let level : c.begin.new.self.level + 1 ≤ depth_for n =
    omega (arith, ap (λ (s : Sorting). s.level) c.begin.ensures.begun, depth, c.depth_for-depth.ensures.some) in
    let product : c.begin.result ≡ c.begin.new.self.level * n = c.begin.ensures.turns ∙ ap (λ m. c.begin.new.self.level * m) c.len-len.ensures.value in
    IsQuota-left n b.at_level _ c.len-len.ensures.valid.small c.len-len.ensures.valid.few
    (omega (arith, product, mul-le-mul_right n level, c.len-len.ensures.value, c.nodes_in.ensures.value, ap nodes_in depth))
