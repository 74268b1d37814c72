use Rattle.std.proofs.Common.{◌+◌, ◌-◌, ap, arith}
use Rattle.range_tree.proofs.SpanLemmas.{height-small, block-small, span_front, AreHalves-made}
use Rattle.range_tree.proofs.rows.RangeTree.halve.Goals as goal

pub block_len-requires : goal.block_len-requires
block_len-requires g c = omega (arith, height-small c.args.points.now c.args.self.now c.requires.over)

pub overflow_add-middle : goal.overflow_add-middle
overflow_add-middle g c =
    omega (
      arith,
      c.block_len.ensures,
      c.requires.some,
      c.requires.over.few,
      block-small c.args.points.now c.args.self.now c.requires.over (c.args.self.now.height - c.args.span.row - 1) (omega arith),
    )

pub halves-from-requires : goal.halves-from-requires
halves-from-requires g c =
    span_front c.args.points.now c.args.self.now c.requires.valid.each_place c.requires.over c.requires.span.0 c.requires.span.1 c.args.span c.requires.span.2
    c.requires.some c.requires.span.0 c.args.span.from c.requires.span.2.from

pub halves-to-requires : goal.halves-to-requires
halves-to-requires g c =
    span_front c.args.points.now c.args.self.now c.requires.valid.each_place c.requires.over c.requires.span.0 c.requires.span.1 c.args.span c.requires.span.2
    c.requires.some c.requires.span.1 c.args.span.to c.requires.span.2.to

pub returns-clause-halves : goal.returns-clause-halves
returns-clause-halves g c low high is =
    AreHalves-made c.args.points.now c.args.self.now c.requires.valid.each_place c.requires.over low high c.args.span is c.requires.some c.requires.below
    (c.args.span.start + c.block_len.result) c.halves-from.result.first c.halves-to.result.first c.halves-from.result.second c.halves-to.result.second
    (ap (λ n. c.args.span.start + n) c.block_len.ensures) c.halves-from.ensures.first c.halves-from.ensures.second c.halves-to.ensures.first c.halves-to.ensures.second
