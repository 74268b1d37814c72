use Rattle.std.proofs.Common.{◌-◌, length, ap, arith}
use Rattle.builder_trait.proofs.SearchLemmas.{Spends-searched}
use Rattle.interval_tree.proofs.Searching.{PassesUpTo-begun}
use Rattle.interval_tree.proofs.search.begun.Goals as goal

pub partition_point-requires-clause-up_to_some : goal.partition_point-requires-clause-up_to_some
partition_point-requires-clause-up_to_some g c =
    PassesUpTo-begun c.args.x c.items-row.result.now.items c.len.result c.items-row.ensures.rising (omega arith)

pub returns-clause-cost : goal.returns-clause-cost
returns-clause-cost g c h few = Spends-searched h (c.len.result - 0) (omega (arith, ap length c.items-row.ensures.value)) c.partition_point.ensures.cost

pub returns-clause-read : goal.returns-clause-read
returns-clause-read g c some = c.partition_point.ensures.read (omega (arith, some, ap length c.items-row.ensures.value))
