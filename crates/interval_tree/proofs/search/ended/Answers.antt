use Rattle.std.proofs.Common.{◌-◌, arith}
use Rattle.builder_trait.proofs.RebuildingLemmas.{length-reordered}
use Rattle.interval_tree.proofs.Searching.{PassesUpTo-ended, Spends-searched_twice}
use Rattle.interval_tree.proofs.search.ended.Goals as goal

pub partition_reordered-requires-clause-up_to_some : goal.partition_reordered-requires-clause-up_to_some
partition_reordered-requires-clause-up_to_some g c =
    PassesUpTo-ended c.args.x c.args.segments.now.reordered c.len.result c.len.ensures.valid.rising_reordered
    (omega (arith, length-reordered c.len.ensures.valid))

pub returns-clause-cut : goal.returns-clause-cut
returns-clause-cut g c = record {
  within = omega (arith, length-reordered c.len.ensures.valid);
  passed = λ i d below. c.partition_reordered.ensures.before i d (omega arith) below;
  failed = λ i d from inside. c.partition_reordered.ensures.after i d from (omega (arith, length-reordered c.len.ensures.valid));
}

pub returns-clause-cost : goal.returns-clause-cost
returns-clause-cost g c h few = Spends-searched_twice h (c.len.result - 0) (omega arith) c.partition_reordered.ensures.cost
