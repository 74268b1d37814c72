use Rattle.std.proofs.Common.{ℕ, ◌+◌, ◌-◌, ◌^◌, ◌<◌, ◌≤◌, arith, refl, inl, inr}
use Rattle.std.proofs.lemmas.Bool.{cases_lt}
use Rattle.std.proofs.Math.Nat.{pow-le-pow_right, le_trans}
use Rattle.query_laws.proofs.Counting.{Spends-then, Spends-within}
use Rattle.row_blocks.proofs.Blocks.{halved}
use Rattle.weak_delete.proofs.Winners.{inside_places, missed_from, reached_from}
use Rattle.weak_delete.proofs.live_max.LiveMax.first_in.Goals as goal

pub winner-requires-clause-block : goal.winner-requires-clause-block
winner-requires-clause-block g c = (halved _ _ (2 ^ (c.loop-low.low - 1)) c.loop-low.invariant.block c.loop-low-test.true (omega arith) refl).first

pub winner-requires-clause-within : goal.winner-requires-clause-within
winner-requires-clause-within g c = inside_places _ _ _ _ c.loop-low.invariant.some

pub overflow_add-first : goal.overflow_add-first
overflow_add-first g c =
    let within = inside_places _ _ _ _ c.loop-low.invariant.some in
    let low : c.loop-low.low - 1 ≤ 32 = omega arith in
    let small : 2 ^ (c.loop-low.low - 1) ≤ 2 ^ 32 = pow-le-pow_right (omega arith) low in
    omega (arith, within, c.winner.ensures.few)

pub loop-low-preserved-then-not-reaches : goal.loop-low-preserved-then-not-reaches
loop-low-preserved-then-not-reaches g c =
    let kept = c.loop-low.invariant in
    let block = halved _ _ _ kept.block c.loop-low-test.true (omega arith) c.block_len-first.ensures in
    let low = missed_from c.reaches.ensures c.if-not-reaches.true in
    let first = λ (i : ℕ) (after : c.loop-low.first ≤ i) (before : i < c.loop-low.first + 2 ^ (c.loop-low.low - 1)). le_trans (c.winner.ensures.greatest.bound i after before) low in
    record {
      block = block.second;
      lower = omega arith;
      after = omega (arith, kept.after);
      below = λ i after before. elim (cases_lt i c.loop-low.first) [
        | inl already ↦ kept.below i after already
        | inr from ↦ first i from (omega (arith, block.is))
      ];
      some = λ none. kept.some (λ i after before. elim (cases_lt i (c.loop-low.first + c.block_len-first.result)) [
        | inl until ↦ first i after (omega (arith, block.is))
        | inr from ↦ none i from (omega (arith, block.is, block.twice))
      ]);
      spent = Spends-within (Spends-then kept.spent c.winner.ensures.cost) refl refl (omega arith);
    }

pub loop-low-preserved : goal.loop-low-preserved
loop-low-preserved g c =
    let kept = c.loop-low.invariant in
    let block = halved _ _ (2 ^ (c.loop-low.low - 1)) kept.block c.loop-low-test.true (omega arith) refl in
    let high = reached_from c.reaches.ensures c.if-not-reaches.false in
    record {
      block = block.first;
      lower = omega arith;
      after = kept.after;
      below = kept.below;
      some = λ none. omega (arith, high, c.winner.ensures.greatest.least c.args.bound none);
      spent = Spends-within (Spends-then kept.spent c.winner.ensures.cost) refl refl (omega arith);
    }
