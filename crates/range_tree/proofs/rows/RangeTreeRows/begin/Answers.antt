use Rattle.std.proofs.Common.{◌≡◌, ◌+◌, ◌*◌, ◌^◌, ◌<◌, ◌≤◌, length, sym, ap, ◌∙◌, subst, arith}
use Rattle.std.proofs.lemmas.Nat.{mul-le}
use Rattle.row_blocks.specs.Heights.{height_of}
use Rattle.builder_trait.specs.Builders.{IsQuota}
use Rattle.range_tree.specs.Heights.{rows_to, words_for}
use Rattle.range_tree.proofs.Begun.{few_items, within, some_points, IsGrowing-rowless, IsGrowing-begun, IsQuota-rowless, IsQuota-begun}
use Rattle.range_tree.proofs.rows.RangeTreeRows.begin.Goals as goal

pub height_of-self-requires : goal.height_of-self-requires
height_of-self-requires c = omega (arith, few_items c.args.points.now c.len-len.ensures.valid, c.len-len.ensures.value)

pub begin-requires-clause-some : goal.begin-requires-clause-some
begin-requires-clause-some c =
    let b = c.args.points.now in
    let height = c.height_of-self.ensures.value ∙ ap height_of c.len-len.ensures.value in
    let some : 0 < rows_to c.height_of-self.result = omega (arith, c.rows_for-rows.ensures, c.if-rows-gt0.true) in
    omega (
      arith,
      some_points b c.args.self.now c.requires.putting c.len-len.ensures.valid c.requires.complete c.height_of-self.result height some,
      c.div_ceil-words.ensures,
      c.len-len.ensures.value,
    )

pub begin-requires-clause-few : goal.begin-requires-clause-few
begin-requires-clause-few c = omega (arith, few_items c.args.points.now c.len-len.ensures.valid, c.div_ceil-words.ensures, c.len-len.ensures.value)

pub overflow_mul-self : goal.overflow_mul-self
overflow_mul-self c = omega (arith, few_items c.args.points.now c.len-len.ensures.valid, c.div_ceil-words.ensures, c.len-len.ensures.value)

pub overflow_mul-self-then-rows-gt0 : goal.overflow_mul-self-then-rows-gt0
overflow_mul-self-then-rows-gt0 c =
    let wide : 64 * c.div_ceil-words.result ≤ 2 ^ 32 = omega (arith, few_items c.args.points.now c.len-len.ensures.valid, c.div_ceil-words.ensures, c.len-len.ensures.value) in
    let few : c.rows_for-rows.result ≤ 32 = omega (arith, c.rows_for-rows.ensures, c.height_of-self.ensures.small) in
    omega (arith, mul-le c.rows_for-rows.result (64 * c.div_ceil-words.result) 32 (2 ^ 32) few wide)

pub returns-then-rows-gt0-clause-growing : goal.returns-then-rows-gt0-clause-growing
returns-then-rows-gt0-clause-growing c =
    let b = c.args.points.now in
    let height = c.height_of-self.ensures.value ∙ ap height_of c.len-len.ensures.value in
    let some : 0 < rows_to c.height_of-self.result = omega (arith, c.rows_for-rows.ensures, c.if-rows-gt0.true) in
    let words : c.div_ceil-words.result ≡ words_for (length b.items) = omega (arith, c.div_ceil-words.ensures, c.len-len.ensures.value) in
    IsGrowing-begun b c.args.self.now c.requires.putting c.len-len.ensures.valid c.requires.complete c.height_of-self.result height some c.div_ceil-words.result words
    c.begin.new.self c.begin.ensures (c.rows_for-rows.result * (64 * c.div_ceil-words.result)) (ap (λ r. r * (64 * c.div_ceil-words.result)) c.rows_for-rows.ensures)

pub returns-then-rows-gt0-clause-quota : goal.returns-then-rows-gt0-clause-quota
returns-then-rows-gt0-clause-quota c =
    let b = c.args.points.now in
    let n = length b.items in
    let valid = c.len-len.ensures.valid in
    let height = c.height_of-self.ensures.value ∙ ap height_of c.len-len.ensures.value in
    let some : 0 < rows_to c.height_of-self.result = omega (arith, c.rows_for-rows.ensures, c.if-rows-gt0.true) in
    let words : c.div_ceil-words.result ≡ words_for n = omega (arith, c.div_ceil-words.ensures, c.len-len.ensures.value) in
    subst (λ r. IsQuota 4 12 b.at_level n (n + r * (64 * c.div_ceil-words.result))) (sym c.rows_for-rows.ensures)
    (IsQuota-begun n b.at_level c.height_of-self.result c.div_ceil-words.result valid.few
    (within b c.args.self.now c.requires.putting valid c.requires.complete c.height_of-self.result height) some words)

pub returns-else-rows-gt0-clause-growing : goal.returns-else-rows-gt0-clause-growing
returns-else-rows-gt0-clause-growing c =
    let height = c.height_of-self.ensures.value ∙ ap height_of c.len-len.ensures.value in
    IsGrowing-rowless c.args.points.now c.args.self.now c.requires.putting c.len-len.ensures.valid c.requires.complete c.height_of-self.result height
    (omega (arith, c.rows_for-rows.ensures, c.if-rows-gt0.false))

pub returns-else-rows-gt0-clause-quota : goal.returns-else-rows-gt0-clause-quota
returns-else-rows-gt0-clause-quota c =
    let b = c.args.points.now in
    subst (λ l. IsQuota 4 12 b.at_level (length b.items) (length b.items + l)) (sym c.requires.putting.none_left)
    (IsQuota-rowless (length b.items) b.at_level c.len-len.ensures.valid.few)

pub returns-then-rows-gt0-clause-turns : goal.returns-then-rows-gt0-clause-turns
returns-then-rows-gt0-clause-turns c =
    let n = length c.args.points.now.items in
    let height = c.height_of-self.ensures.value ∙ ap height_of c.len-len.ensures.value in
    let words : c.div_ceil-words.result ≡ words_for n = omega (arith, c.div_ceil-words.ensures, c.len-len.ensures.value) in
    ap (λ r. r * (64 * c.div_ceil-words.result)) (c.rows_for-rows.ensures ∙ ap rows_to height) ∙ ap (λ w. rows_to (height_of n) * (64 * w)) words

pub returns-else-rows-gt0-clause-turns : goal.returns-else-rows-gt0-clause-turns
returns-else-rows-gt0-clause-turns c =
    let n = length c.args.points.now.items in
    let height = c.height_of-self.ensures.value ∙ ap height_of c.len-len.ensures.value in
    let none : rows_to (height_of n) ≡ 0 = omega (arith, c.rows_for-rows.ensures, c.if-rows-gt0.false, ap rows_to height) in
    let nothing : rows_to (height_of n) * (64 * words_for n) ≡ 0 = ap (λ r. r * (64 * words_for n)) none ∙ (let zero : 0 * (64 * words_for n) ≡ 0 = omega arith in zero) in
    c.requires.putting.none_left ∙ sym nothing
