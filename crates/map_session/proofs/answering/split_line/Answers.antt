use Rattle.std.proofs.Common.{◌<◌, length, arith}
use Rattle.map_session.proofs.Lines.{one_line_from, one_line-take, split_at_feed}
use Rattle.map_session.proofs.answering.split_line.Goals as goal

pub returns-in_err-end : goal.returns-in_err-end
returns-in_err-end c = rw c.from_residual.ensures (one_line_from c.args.text.now (λ k l. c.in_err-end.ensures k (omega arith) l))

pub returns : goal.returns
returns c =
    let text = c.args.text.now in
    let found = c.in_ok-end.ensures in
    let high : c.in_ok-end.end < length text = found.0.high in
    (split_at_feed text c.in_ok-end.end high found.1, one_line-take text c.in_ok-end.end (omega (arith, high)) (λ k l. found.0.before k (omega arith) l))
