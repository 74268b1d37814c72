use Rattle.std.proofs.Common.{◌≡◌, ◌+◌, ◌-◌, ◌*◌, ◌^◌, min, suc, ap, subst, sym, arith, rules}
use Rattle.std.proofs.lemmas.List.{get_or_read}
use Rattle.rank_rows.specs.declared.word.Word.{Word}
use Rattle.rank_rows.specs.Words.{word_at, no_word, dead_before, weight_before}
use Rattle.rank_rows.specs.Nodes.{AreNodes, HasMore, IsHolder}
use Rattle.rank_rows.proofs.Sums.{dead_between-le}
use Rattle.rank_rows.proofs.Trees.{AreNodes-open, twice_at}
use Rattle.rank_rows.proofs.store.Store.+holder.Goals as goal

pub holder-requires : goal.holder-requires
holder-requires g t c κs within =
    let is : c.args.height ≡ suc (c.args.height - 1) = omega arith in
    let words = c.args.self.now.words.items in
    let low = c.args.height - 1 in
    let first = (AreNodes-open words (dead_before words) (weight_before c.args.self.now.weights.items) c.args.start c.args.height low c.args.end is c.requires.nodes).first in
    let last : min (c.args.start + 2 ^ c.args.height) c.args.end ≡ min (c.args.start + 2 ^ low) c.args.end =
    omega (arith, twice_at c.args.height low is, c.block_len-half.ensures) in
    let some : HasMore (dead_before words) c.args.start (min (c.args.start + 2 ^ low) c.args.end) c.args.rank =
    subst (λ m. HasMore (dead_before words) c.args.start m c.args.rank) last c.requires.some in
    search rules

pub returns-then-middle-end-clause-held : goal.returns-then-middle-end-clause-held
returns-then-middle-end-clause-held g t c =
    let is : c.args.height ≡ suc (c.args.height - 1) = omega arith in
    let words = c.args.self.now.words.items in
    let low = c.args.height - 1 in
    let last : min (c.args.start + 2 ^ low) c.args.end ≡ min (c.args.start + 2 ^ c.args.height) c.args.end =
    omega (arith, twice_at c.args.height low is, c.block_len-half.ensures) in
    subst (λ m. IsHolder (dead_before words) c.args.start m c.args.rank c.holder.result) last c.holder.ensures.held

pub overflow_sub-live : goal.overflow_sub-live
overflow_sub-live g t c =
    let is : c.args.height ≡ suc (c.args.height - 1) = omega arith in
    let words = c.args.self.now.words.items in
    let low = c.args.height - 1 in
    let middle = c.args.start + c.block_len-half.result in
    let node = (AreNodes-open words (dead_before words) (weight_before c.args.self.now.weights.items) c.args.start c.args.height low c.args.end is c.requires.nodes).node
    (omega (arith, c.block_len-half.ensures)) in
    let at = ap (λ n. c.args.start + n) c.block_len-half.ensures in
    let read = get_or_read words middle c.at.result (omega arith) c.at.ensures.read_or no_word in
    omega (
      arith,
      node.count,
      ap (λ e. (word_at words e).died.count) at,
      ap (dead_before words) at,
      ap (λ (w : Word). w.died.count) read,
      dead_between-le words c.args.start middle (omega arith),
    )

pub holder-requires-then-live-rank : goal.holder-requires-then-live-rank
holder-requires-then-live-rank g t c κs within =
    let is : c.args.height ≡ suc (c.args.height - 1) = omega arith in
    let words = c.args.self.now.words.items in
    let low = c.args.height - 1 in
    let middle = c.args.start + c.block_len-half.result in
    let halves = AreNodes-open words (dead_before words) (weight_before c.args.self.now.weights.items) c.args.start c.args.height low c.args.end is c.requires.nodes in
    let node = halves.node (omega (arith, c.block_len-half.ensures)) in
    let at = ap (λ n. c.args.start + n) c.block_len-half.ensures in
    let read = get_or_read words middle c.at.result (omega arith) c.at.ensures.read_or no_word in
    let second = subst (λ m. AreNodes words (dead_before words) (weight_before c.args.self.now.weights.items) m low c.args.end) (sym at) halves.second in
    let last : min (middle + 2 ^ low) c.args.end ≡ min (c.args.start + 2 ^ c.args.height) c.args.end = omega (arith, twice_at c.args.height low is, at) in
    let some : HasMore (dead_before words) middle (min (middle + 2 ^ low) c.args.end) (c.args.rank - (64 * c.block_len-half.result - c.at.result.died.count)) =
    omega (
      arith,
      c.requires.some,
      last,
      ap (dead_before words) last,
      node.count,
      ap (λ e. (word_at words e).died.count) at,
      ap (dead_before words) at,
      ap (λ (w : Word). w.died.count) read,
      dead_between-le words c.args.start middle (omega arith),
    ) in
    search rules

pub holder-requires-else-live-rank : goal.holder-requires-else-live-rank
holder-requires-else-live-rank g t c κs within =
    let is : c.args.height ≡ suc (c.args.height - 1) = omega arith in
    let words = c.args.self.now.words.items in
    let low = c.args.height - 1 in
    let middle = c.args.start + c.block_len-half.result in
    let halves = AreNodes-open words (dead_before words) (weight_before c.args.self.now.weights.items) c.args.start c.args.height low c.args.end is c.requires.nodes in
    let node = halves.node (omega (arith, c.block_len-half.ensures)) in
    let first = halves.first in
    let at = ap (λ n. c.args.start + n) c.block_len-half.ensures in
    let read = get_or_read words middle c.at.result (omega arith) c.at.ensures.read_or no_word in
    let last : min (c.args.start + 2 ^ low) c.args.end ≡ middle = omega (arith, at) in
    let some : HasMore (dead_before words) c.args.start (min (c.args.start + 2 ^ low) c.args.end) c.args.rank =
    omega (
      arith,
      last,
      ap (dead_before words) last,
      node.count,
      ap (λ e. (word_at words e).died.count) at,
      ap (dead_before words) at,
      ap (λ (w : Word). w.died.count) read,
    ) in
    search rules

pub returns-then-live-rank-clause-held : goal.returns-then-live-rank-clause-held
returns-then-live-rank-clause-held g t c =
    let is : c.args.height ≡ suc (c.args.height - 1) = omega arith in
    let words = c.args.self.now.words.items in
    let low = c.args.height - 1 in
    let middle = c.args.start + c.block_len-half.result in
    let node = (AreNodes-open words (dead_before words) (weight_before c.args.self.now.weights.items) c.args.start c.args.height low c.args.end is c.requires.nodes).node
    (omega (arith, c.block_len-half.ensures)) in
    let at = ap (λ n. c.args.start + n) c.block_len-half.ensures in
    let read = get_or_read words middle c.at.result (omega arith) c.at.ensures.read_or no_word in
    let held = c.holder-then-live-rank.ensures.held in
    record {
      from = omega (arith, held.from);
      within = omega (arith, held.within, twice_at c.args.height low is, at);
      ranked = omega (
        arith,
        held.ranked,
        node.count,
        ap (λ e. (word_at words e).died.count) at,
        ap (dead_before words) at,
        ap (λ (w : Word). w.died.count) read,
        dead_between-le words c.args.start middle (omega arith),
      );
      less = held.less;
    }

pub returns-else-live-rank-clause-held : goal.returns-else-live-rank-clause-held
returns-else-live-rank-clause-held g t c =
    let is : c.args.height ≡ suc (c.args.height - 1) = omega arith in
    let held = c.holder-else-live-rank.ensures.held in
    record { from = held.from; within = omega (arith, held.within, twice_at c.args.height (c.args.height - 1) is); ranked = held.ranked; less = held.less }
