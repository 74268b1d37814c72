use Rattle.std.proofs.Common.{◌≡◌, ℕ, ◌+◌, ◌^◌, Option, None, get_or, arith, ap, subst, sym, ◌∙◌}
use Rattle.std.proofs.lemmas.List.{get_or_read}
use Rattle.weak_delete.specs.Places.{no_place, place_at}
use Rattle.weak_delete.specs.Tournament.{rank_of, rank_at, winner_rank, IsGreatest}
use Rattle.row_blocks.proofs.Blocks.{halved}
use Rattle.weak_delete.proofs.Winners.{IsWinnerAt-block, IsGreatest-past, IsGreatest-one}
use Rattle.weak_delete.proofs.live_max.winner_of.Goals as goal

pub returns-then-middle-len-clause-greatest : goal.returns-then-middle-len-clause-greatest
returns-then-middle-len-clause-greatest g c =
    let block = halved _ _ _ c.loop-low.invariant.block c.loop-low-test.true (omega arith) c.block_len.ensures in
    let middle = c.args.start + c.block_len.result in
    let at : c.at.result ≡ get_or c.args.winners.now.items middle None = get_or_read c.args.winners.now.items middle c.at.result (omega arith) c.at.ensures.read_or None in
    let wins = c.requires.built.wins middle (omega (arith, block.some)) (omega arith) (omega (arith, block.at)) in
    let R : Option ℕ → Type 0 = λ w. IsGreatest c.args.places.now.items c.args.start (c.args.start + 2 ^ c.args.height) (winner_rank w) in
    subst R (sym at) (c.loop-low.invariant.wider _ (IsWinnerAt-block c.args.winners.now.items block wins))

pub loop-low-preserved : goal.loop-low-preserved
loop-low-preserved g c =
    let block = halved _ _ _ c.loop-low.invariant.block c.loop-low-test.true (omega arith) c.block_len.ensures in
    record {
      block = block.first;
      lower = omega arith;
      same_steps = c.loop-low.invariant.same_steps;
      wider = λ rank greatest. c.loop-low.invariant.wider rank (IsGreatest-past _ greatest (omega (arith, block.is)) (omega (arith, block.is, block.twice)));
    }

pub returns-clause-greatest : goal.returns-clause-greatest
returns-clause-greatest g c =
    let places = c.args.places.now.items in
    let last : c.loop-low.low ≡ 0 = omega arith in
    let one : c.args.start + 1 ≡ c.args.start + 2 ^ c.loop-low.low = ap (λ i. c.args.start + 2 ^ i) (sym last) in
    let at : c.at-2.result ≡ place_at places c.args.start = get_or_read places c.args.start c.at-2.result c.requires.within c.at-2.ensures.read_or no_place in
    let rank : rank_at places c.args.start ≡ winner_rank c.entrant.result = sym (c.entrant.ensures ∙ ap rank_of at) in
    let E : ℕ → Type 0 = λ end. IsGreatest places c.args.start end (rank_at places c.args.start) in
    let R : ℕ → Type 0 = λ r. IsGreatest places c.args.start (c.args.start + 2 ^ c.args.height) r in
    subst R rank (c.loop-low.invariant.wider _ (subst E one (IsGreatest-one places c.args.start)))
