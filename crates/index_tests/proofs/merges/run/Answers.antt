use Rattle.std.proofs.Common.{◌≡◌, arith}
use Rattle.index_tests.proofs.merges.run.Goals as goal

pub returns-clause-open : goal.returns-clause-open
returns-clause-open g c = c.turns.ensures.merges.unsealed

pub returns-clause-complete : goal.returns-clause-complete
returns-clause-complete g c =
    let contents = g.B.Part.Part.contents in
    let ended : c.turns.new.self.left ≡ 0 = omega (arith, c.turns.ensures.read.left, c.left-left.ensures) in
    let whole = c.done.ensures.whole (contents c.args.a.now) (contents c.args.b.now) (g.B.Builder.progress c.turns.new.builder) (c.done.ensures.value.1 ended)
    c.len.ensures.valid c.len-2.ensures.valid c.turns.ensures.merges in
    whole.as_many
