use Rattle.std.proofs.Common.{◌<◌, ◌%◌, length, rules}
use Rattle.trials.proofs.Numbered.{OwnsStamp-place}
use Rattle.trials.proofs.marked.MarkedTried.delete.Goals as goal

pub mark-requires : goal.mark-requires
mark-requires g c =
    let items = c.self.inside.items.items in
    let k = c.args.pick % c.len.result in
    let within : k < length items = search rules in
    OwnsStamp-place c.self.inside.part c.in-Some.part items k c.index.result.now c.in-Some.is within c.index.ensures c.self.invariant
