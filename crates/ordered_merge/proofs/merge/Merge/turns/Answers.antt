use Rattle.std.proofs.Common.{rules}
use Rattle.ordered_merge.proofs.MergingLemmas.{HasRead-more}
use Rattle.ordered_merge.proofs.merge.Merge.turns.Goals as goal

pub loop-taken-preserved : goal.loop-taken-preserved
loop-taken-preserved g c = record {
  merges = c.turn.ensures.merges;
  read = HasRead-more c.loop-taken.invariant.read c.turn.ensures.read;
  spent = search rules;
}
