use Rattle.std.proofs.Common.{◌≡◌, ◌+◌, ◌-◌, ◌^◌, ◌∙◌, inl, inr, length, min, sym, arith}
use Rattle.range_tree.proofs.SpanLemmas.{height-small, block-small, cut_empty, cut_there, cut_outside, cut_inner}
use Rattle.range_tree.proofs.rows.RangeTree.cut.Goals as goal

pub returns-then-span-clause-cut : goal.returns-then-span-clause-cut
returns-then-span-clause-cut g c low high is =
    cut_empty c.args.points.now c.args.self.now c.requires.valid.each_place low high c.args.span is c.args.places c.if-span.true

pub block_len-len-requires : goal.block_len-len-requires
block_len-len-requires g c = omega (arith, height-small c.args.points.now c.args.self.now c.requires.over)

pub overflow_add-span : goal.overflow_add-span
overflow_add-span g c =
    omega (
      arith,
      cut_there c.args.points.now c.args.self.now c.requires.valid.each_place c.requires.span.0 c.requires.span.1 c.args.span c.requires.span.2 c.if-span.false,
      c.requires.over.few,
      c.block_len-len.ensures,
      block-small c.args.points.now c.args.self.now c.requires.over (c.args.self.now.height - c.args.span.row) (omega arith),
    )

pub returns-then-end-places-clause-cut : goal.returns-then-end-places-clause-cut
returns-then-end-places-clause-cut g c low high is =
    let end : c.min-end.result ≡ min (c.args.span.start + 2 ^ (c.args.self.now.height - c.args.span.row)) (length c.args.points.now.items) =
    omega (arith, c.min-end.ensures, c.block_len-len.ensures, c.len-all.ensures.value) in
    cut_outside c.args.points.now c.args.self.now c.requires.valid.each_place low high c.args.span is c.args.places c.min-end.result end (inl c.if-end-places.true)

pub returns-then-places-span-clause-cut : goal.returns-then-places-span-clause-cut
returns-then-places-span-clause-cut g c low high is =
    let end : c.min-end.result ≡ min (c.args.span.start + 2 ^ (c.args.self.now.height - c.args.span.row)) (length c.args.points.now.items) =
    omega (arith, c.min-end.ensures, c.block_len-len.ensures, c.len-all.ensures.value) in
    cut_outside c.args.points.now c.args.self.now c.requires.valid.each_place low high c.args.span is c.args.places c.min-end.result end (inr c.if-places-span.true)

pub returns-clause-cut : goal.returns-clause-cut
returns-clause-cut g c low high is =
    let end : c.min-end.result ≡ min (c.args.span.start + 2 ^ (c.args.self.now.height - c.args.span.row)) (length c.args.points.now.items) =
    omega (arith, c.min-end.ensures, c.block_len-len.ensures, c.len-all.ensures.value) in
    let inner = cut_inner c.args.points.now c.args.self.now c.requires.valid.each_place low high c.args.span is c.args.places c.min-end.result end c.requires.whole
    c.if-end-places.false c.if-places-span.false (sym c.have-whole.ensures ∙ c.if-whole.false) in
    (inner.0, c.halve.ensures.halves low high is, inner.1)
